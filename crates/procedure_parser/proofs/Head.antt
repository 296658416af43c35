-- What stands at the front.
use Rattle.std.proofs.Common.{◌≡◌, ℕ, ℤ, pos, Bool, true, false, cond, eqb, List, [], ◌∷◌, Option, Some, None, Ok, Err, refl, sym, ap, subst, ◌∙◌, ◌⊎◌, inl, inr}
use Rattle.std.proofs.lemmas.Bool.{eqb-true}
use Rattle.token_scanner.specs.declared.token.Mark.{Mark}
use Rattle.token_scanner.specs.declared.token.Mark.TheVariants as mark
use Rattle.token_scanner.specs.declared.token.Mark.TheVariants.{OpenBrace, CloseBrace, OpenParen, CloseParen, OpenBracket, CloseBracket, Colon, Semicolon, Comma, Dot, Range, Assign, Equal, Unequal, Less, AtMost, Greater, AtLeast, Plus, Minus, Star, Slash, Percent, Reducer, Memo, Proc, Call, Spawn, Sync, Update, If, Else, CilkFor, In, Grain, Return, Has, Limit, Sum}
use Rattle.token_scanner.specs.Marks.{mark_number, same_mark}
use Rattle.token_scanner.specs.Words.{Word, Name, Number, Sign, Bad, Over, Words, starts, starts_over, rest, front_name, front_number, line_of}
use Rattle.token_readers.specs.Reading.{◌>>=◌, Read, or_stuck, mark_at, name_at, comparison, additive, multiplicative}
use Rattle.procedure_parser.specs.Reading.{over_as}
use Rattle.procedure_parser.specs.Grammar.{Form}
use Rattle.procedure_parser.proofs.Law.{nothing, LawAt, IsLocal, by_reply, if_true, if_false, gives_at, refuses_at, skip_at, reply_as, heads_run}

-- a number that stands for any
abbrev pub nought : ℤ
nought = pos 0

mark_of : ℕ → Mark
mark_of n =
    cond (eqb n 0) OpenBrace (
    cond (eqb n 1) CloseBrace (
    cond (eqb n 2) OpenParen (
    cond (eqb n 3) CloseParen (
    cond (eqb n 4) OpenBracket (
    cond (eqb n 5) CloseBracket (
    cond (eqb n 6) Colon (
    cond (eqb n 7) Semicolon (
    cond (eqb n 8) Comma (
    cond (eqb n 9) Dot (
    cond (eqb n 10) Range (
    cond (eqb n 11) Assign (
    cond (eqb n 12) Equal (
    cond (eqb n 13) Unequal (
    cond (eqb n 14) Less (
    cond (eqb n 15) AtMost (
    cond (eqb n 16) Greater (
    cond (eqb n 17) AtLeast (
    cond (eqb n 18) Plus (
    cond (eqb n 19) Minus (
    cond (eqb n 20) Star (
    cond (eqb n 21) Slash (
    cond (eqb n 22) Percent (
    cond (eqb n 23) Reducer (
    cond (eqb n 24) Memo (
    cond (eqb n 25) Proc (
    cond (eqb n 26) Call (
    cond (eqb n 27) Spawn (
    cond (eqb n 28) Sync (
    cond (eqb n 29) Update (
    cond (eqb n 30) If (
    cond (eqb n 31) Else (
    cond (eqb n 32) CilkFor (
    cond (eqb n 33) In (
    cond (eqb n 34) Grain (
    cond (eqb n 35) Return (
    cond (eqb n 36) mark.Read (
    cond (eqb n 37) Has (
    cond (eqb n 38) Limit (
    Sum)))))))))))))))))))))))))))))))))))))))

mark_again : (m : Mark) → mark_of (mark_number m) ≡ m
unfolding mark_of
mark_again OpenBrace = refl
mark_again CloseBrace = refl
mark_again OpenParen = refl
mark_again CloseParen = refl
mark_again OpenBracket = refl
mark_again CloseBracket = refl
mark_again Colon = refl
mark_again Semicolon = refl
mark_again Comma = refl
mark_again Dot = refl
mark_again Range = refl
mark_again Assign = refl
mark_again Equal = refl
mark_again Unequal = refl
mark_again Less = refl
mark_again AtMost = refl
mark_again Greater = refl
mark_again AtLeast = refl
mark_again Plus = refl
mark_again Minus = refl
mark_again Star = refl
mark_again Slash = refl
mark_again Percent = refl
mark_again Reducer = refl
mark_again Memo = refl
mark_again Proc = refl
mark_again Call = refl
mark_again Spawn = refl
mark_again Sync = refl
mark_again Update = refl
mark_again If = refl
mark_again Else = refl
mark_again CilkFor = refl
mark_again In = refl
mark_again Grain = refl
mark_again Return = refl
mark_again mark.Read = refl
mark_again Has = refl
mark_again Limit = refl
mark_again Sum = refl

pub mark_is : (m n : Mark) → same_mark m n ≡ true → m ≡ n
mark_is m n h = sym (mark_again m) ∙ ap mark_of (eqb-true (mark_number m) (mark_number n) h) ∙ mark_again n

pub starts_is : (m : Mark) (ts : Words) → starts m ts ≡ true → (l : ℕ) × (us : Words) × (ts ≡ (Sign m, l) ∷ us)
starts_is m [] h = absurd cc
starts_is m ((Sign n, l) ∷ us) h = (l, us, ap (λ (k : Mark). (Sign k, l) ∷ us) (mark_is n m h))
starts_is m ((Name x, l) ∷ us) h = absurd cc
starts_is m ((Number x, l) ∷ us) h = absurd cc
starts_is m ((Bad, l) ∷ us) h = absurd cc
starts_is m ((Over, l) ∷ us) h = absurd cc

pub name_is : (ts : Words) (x : List ℕ) → front_name ts ≡ Some x → (l : ℕ) × (us : Words) × (ts ≡ (Name x, l) ∷ us)
name_is [] x h = absurd cc
name_is ((Name y, l) ∷ us) x h = let e : y ≡ x = (cc) in (l, us, ap (λ (k : List ℕ). (Name k, l) ∷ us) e)
name_is ((Sign n, l) ∷ us) x h = absurd cc
name_is ((Number n, l) ∷ us) x h = absurd cc
name_is ((Bad, l) ∷ us) x h = absurd cc
name_is ((Over, l) ∷ us) x h = absurd cc

pub number_is : (ts : Words) (x : ℤ) → front_number ts ≡ Some x → (l : ℕ) × (us : Words) × (ts ≡ (Number x, l) ∷ us)
number_is [] x h = absurd cc
number_is ((Number y, l) ∷ us) x h = let e : y ≡ x = (cc) in (l, us, ap (λ (k : ℤ). (Number k, l) ∷ us) e)
number_is ((Sign n, l) ∷ us) x h = absurd cc
number_is ((Name n, l) ∷ us) x h = absurd cc
number_is ((Bad, l) ∷ us) x h = absurd cc
number_is ((Over, l) ∷ us) x h = absurd cc

-- what depends on the first token alone
pub local : {C : Type 0} (t : Words → C) → ((w : Word × ℕ) (us vs : Words) → t (w ∷ us) ≡ t (w ∷ vs)) → IsLocal t
local t h [] [] k = refl
local t h (w ∷ us) (v ∷ vs) k = h w us vs ∙ ap (λ (u : Word × ℕ). t (u ∷ vs)) k
local t h [] (v ∷ vs) k = absurd k
local t h (w ∷ us) [] k = absurd k

pub starts_local : (m : Mark) → IsLocal (starts m)
starts_local m = local (starts m) (λ w us vs. refl)

pub number_local : IsLocal front_number
number_local = local front_number (λ w us vs. refl)

pub name_local : IsLocal front_name
name_local = local front_name (λ w us vs. refl)

pub comparison_local : IsLocal comparison
unfolding comparison
comparison_local = local comparison (λ w us vs. refl)

pub additive_local : IsLocal additive
unfolding additive
additive_local = local additive (λ w us vs. refl)

pub multiplicative_local : IsLocal multiplicative
unfolding multiplicative
multiplicative_local = local multiplicative (λ w us vs. refl)

pub on_bool : (b : Bool) → (b ≡ true) ⊎ (b ≡ false)
on_bool true = inl refl
on_bool false = inr refl

pub on_option : {A : Type 0} (o : Option A) → (o ≡ None) ⊎ ((x : A) × (o ≡ Some x))
on_option None = inl refl
on_option (Some x) = inr (x, refl)

-- the first token stands for c
abbrev pub Found : {C : Type 0} → (Word → C → Type 0) → Words → C → Type 0
Found Stands ts c = (w : Word) × (l : ℕ) × (us : Words) × (ts ≡ (w, l) ∷ us) × Stands w c

pub picked : {C : Type 0} (Stands : Word → C → Type 0) (m : Mark) (c : C) → Stands (Sign m) c → (ts : Words) (o : C) (other : Option C) → cond (starts m ts) (Some c) other ≡ Some o → (other ≡ Some o → Found Stands ts o) → Found Stands ts o
picked Stands m c here ts o other h next =
    elim (on_bool (starts m ts)) [
      | inl t ↦
          let s = starts_is m ts t in
          let k : Some c ≡ Some o = sym (ap (λ (b : Bool). cond b (Some c) other) t) ∙ h in
          let e : c ≡ o = (cc) in
          (Sign m, s.0, s.1, s.2, subst (λ (o : _). Stands (Sign m) o) e here)
      | inr f ↦ next (sym (ap (λ (b : Bool). cond b (Some c) other) f) ∙ h)
    ]

-- ---- one too many

over_local : IsLocal starts_over
over_local = local starts_over (λ w us vs. refl)

over_is : (ts : Words) → starts_over ts ≡ true → (l : ℕ) × (us : Words) × (ts ≡ (Over, l) ∷ us)
over_is [] h = absurd cc
over_is ((Over, l) ∷ us) h = (l, us, refl)
over_is ((Name x, l) ∷ us) h = absurd cc
over_is ((Number x, l) ∷ us) h = absurd cc
over_is ((Sign x, l) ∷ us) h = absurd cc
over_is ((Bad, l) ∷ us) h = absurd cc

pub over_law : {A : Type 0} (a : A) (T : Form A) (ts : Words) → ((l : ℕ) (v : Words) → T a ((Over, l) ∷ v) v) → LawAt (over_as a) T ts
unfolding over_as
over_law a T ts f =
    elim (on_bool (starts_over ts)) [
      | inl h ↦ if_true T starts_over (λ w. Ok (a, rest w)) (λ w. Err w) ts over_local h
          (let s = over_is ts h in subst (λ (w : Words). LawAt (λ w. Ok (a, rest w)) T w) (sym s.2)
          (skip_at (λ w. Ok (a, w)) (λ b us vs. T b ((Over, s.0) ∷ us) vs) T (Over, s.0) s.1 (λ b us vs p. p) (gives_at _ a s.1 (λ v. f s.0 v))))
      | inr n ↦ if_false T starts_over (λ w. Ok (a, rest w)) (λ w. Err w) ts over_local n (refuses_at T ts (λ v. ((Over, 0) ∷ v, a, f 0 v)))
    ]

-- ---- a mark that has to come

module _ {A : Type 0} (m : Mark) (K : Words → Read A) (T : Form A) where
  abbrev expects : Words → Read A
  expects w = mark_at m w >>= K

  mark_on : (w : Words) → starts m w ≡ true → expects w ≡ K (rest w)
  unfolding mark_at
  mark_on w h = ap (λ (b : Bool). cond b (Ok (rest w)) (Err w) >>= K) h

  mark_not : (w : Words) → starts m w ≡ false → expects w ≡ Err w
  unfolding mark_at
  mark_not w h = ap (λ (b : Bool). cond b (Ok (rest w)) (Err w) >>= K) h

  -- what has to come behind the mark
  abbrev pub Marked : Form A
  Marked a us vs = (l : ℕ) → T a ((Sign m, l) ∷ us) vs

  there : (ts : Words) (l : ℕ) (us : Words) → starts m ts ≡ true → ts ≡ (Sign m, l) ∷ us → LawAt K Marked us → LawAt expects T ts
  there ts l us h e law =
      let skipped : LawAt (λ w. K (rest w)) T ts = subst (λ (w : Words). LawAt (λ w. K (rest w)) T w) (sym e) (skip_at K Marked T (Sign m, l) us (λ a us vs r. r l) law) in
      by_reply expects T ts (K (rest ts)) (mark_on ts h)
      (reply_as (λ w. K (rest w)) expects T T ts (K (rest ts)) (λ f us x is k. mark_on (f.run x) (sym (starts_local m (f.run us) (f.run x) (heads_run f us x k)) ∙ ap (starts m) (sym is) ∙ h)) (λ a us vs r. r) skipped)

  pub expect_at : (ts : Words) → ((x : Words) → (y : Words) × (a : A) × ((l : ℕ) → T a ((Sign m, l) ∷ y) x)) → ((us : Words) → LawAt K Marked us) → LawAt expects T ts
  expect_at ts fill law =
      elim (on_bool (starts m ts)) [
        | inl h ↦ let s = starts_is m ts h in there ts s.0 s.1 h s.2 (law s.1)
        | inr h ↦ by_reply expects T ts (Err ts) (mark_not ts h) (record {
          front = nothing;
          is = refl;
          goes = λ x. let f = fill x in ((Sign m, 0) ∷ f.0, f.1, f.2 0);
          same = λ x k. mark_not x (sym (starts_local m ts x k) ∙ h);
        })
      ]

-- ---- a name that has to come

module _ {A : Type 0} (K : List ℕ → Words → Read A) (T : Form A) where
  abbrev names : Words → Read A
  names w = name_at w >>= λ z. K z.0 z.1

  name_on : (w : Words) (x : List ℕ) → front_name w ≡ Some x → names w ≡ K x (rest w)
  unfolding name_at
  name_on w x h = ap (λ (o : Option (List ℕ)). or_stuck w o >>= λ z. K z.0 z.1) h

  name_not : (w : Words) → front_name w ≡ None → names w ≡ Err w
  unfolding name_at
  name_not w h = ap (λ (o : Option (List ℕ)). or_stuck w o >>= λ z. K z.0 z.1) h

  abbrev pub Named : List ℕ → Form A
  Named x a us vs = (l : ℕ) → T a ((Name x, l) ∷ us) vs

  called : (ts : Words) (x : List ℕ) (l : ℕ) (us : Words) → front_name ts ≡ Some x → ts ≡ (Name x, l) ∷ us → LawAt (K x) (Named x) us → LawAt names T ts
  called ts x l us h e law =
      let skipped : LawAt (λ w. K x (rest w)) T ts = subst (λ (w : Words). LawAt (λ w. K x (rest w)) T w) (sym e) (skip_at (K x) (Named x) T (Name x, l) us (λ a us vs r. r l) law) in
      by_reply names T ts (K x (rest ts)) (name_on ts x h)
      (reply_as (λ w. K x (rest w)) names T T ts (K x (rest ts)) (λ f us v is k. name_on (f.run v) x (sym (name_local (f.run us) (f.run v) (heads_run f us v k)) ∙ ap front_name (sym is) ∙ h)) (λ a us vs r. r) skipped)

  pub name_then_at : (ts : Words) → ((x : Words) → (y : Words) × (a : A) × ((l : ℕ) → T a ((Name (97 ∷ []), l) ∷ y) x)) → ((x : List ℕ) (us : Words) → LawAt (K x) (Named x) us) → LawAt names T ts
  name_then_at ts fill law =
      elim (on_option (front_name ts)) [
        | inr (x, h) ↦ let s = name_is ts x h in called ts x s.0 s.1 h s.2 (law x s.1)
        | inl h ↦ by_reply names T ts (Err ts) (name_not ts h) (record {
          front = nothing;
          is = refl;
          goes = λ x. let f = fill x in ((Name (97 ∷ []), 0) ∷ f.0, f.1, f.2 0);
          same = λ x k. name_not x (sym (name_local ts x k) ∙ h);
        })
      ]

-- ---- small readers of others

-- a reader that goes by what the first token is
pub at_value : {A C : Type 0} (t : Words → C) (P : C → Words → Read A) (R : Form A) (c : C) (ts : Words) → IsLocal t → t ts ≡ c → LawAt (P c) R ts → LawAt (λ w. P (t w) w) R ts
at_value t P R c ts loc e law =
    by_reply (λ w. P (t w) w) R ts (P c ts) (ap (λ (d : _). P d ts) e)
    (reply_as (P c) (λ w. P (t w) w) R R ts (P c ts) (λ f us x is h. ap (λ (d : _). P d (f.run x)) (sym (loc (f.run us) (f.run x) (heads_run f us x h)) ∙ ap t (sym is) ∙ e)) (λ a us vs r. r) law)

pub line_local : IsLocal line_of
line_local = local line_of (λ w us vs. refl)

-- a mark, and then nothing more
pub last_mark : {A : Type 0} (m : Mark) (s : A) (T : Form A) (us : Words) → ((l : ℕ) (v : Words) → T s ((Sign m, l) ∷ v) v) → LawAt (λ w. mark_at m w >>= λ vs. Ok (s, vs)) T us
last_mark m s T us h = expect_at m (λ vs. Ok (s, vs)) T us (λ v. (v, s, λ l. h l v)) (λ us. gives_at _ s us (λ v l. h l v))

-- what stands behind a mark that is there
pub behind_mark : {A : Type 0} (m : Mark) (P : Words → Read A) (T : Form A) (ts : Words) → starts m ts ≡ true → ((l : ℕ) (us : Words) → LawAt P (λ a vs ws. T a ((Sign m, l) ∷ vs) ws) us) → LawAt (λ w. P (rest w)) T ts
behind_mark m P T ts h law =
    let s = starts_is m ts h in
    subst (λ (w : Words). LawAt (λ w. P (rest w)) T w) (sym s.2)
    (skip_at P (λ a vs ws. T a ((Sign m, s.0) ∷ vs) ws) T (Sign m, s.0) s.1 (λ a us vs p. p) (law s.0 s.1))

-- what stands behind a mark that is there, for a reader that is told the mark's line
pub behind_line : {A : Type 0} (m : Mark) (P : ℕ → Words → Read A) (T : Form A) (ts : Words) → starts m ts ≡ true → ((l : ℕ) (us : Words) → LawAt (P l) (λ a vs ws. T a ((Sign m, l) ∷ vs) ws) us) → LawAt (λ w. P (line_of w) (rest w)) T ts
behind_line m P T ts h law =
    let s = starts_is m ts h in
    subst (λ (w : Words). LawAt (λ w. P (line_of w) (rest w)) T w) (sym s.2)
    (at_value line_of (λ l w. P l (rest w)) T s.0 ((Sign m, s.0) ∷ s.1) line_local refl
    (skip_at (P s.0) (λ a vs ws. T a ((Sign m, s.0) ∷ vs) ws) T (Sign m, s.0) s.1 (λ a us vs p. p) (law s.0 s.1)))
