-- A whole text: what is read is in the grammar, what is in the grammar is read, and a reader stops at the first fault.
use Rattle.std.proofs.Common.{◌≡◌, ℕ, suc, ◌+◌, ◌-◌, cond, List, [], ◌∷◌, ◌++◌, length, drop, Some, Result, Ok, Err, refl, sym, ap, subst, ◌∙◌, arith, append_assoc}
use Rattle.std.proofs.lemmas.List.{append-nil}
use Rattle.token_scanner.specs.Words.{Word, Words, ended}
use Rattle.source_tree.specs.Source.{Source}
use Rattle.token_readers.specs.Reading.{◌>>=◌, Read, stuck_before}
use Rattle.procedure_parser.specs.Reading.{program_at, text_at}
use Rattle.token_readers.specs.Rooms.{Room}
use Rattle.procedure_parser.specs.Defining.{Defining, defining_at, definition_at}
use Rattle.procedure_parser.specs.Grammar.{Form, Declarations}
use Rattle.procedure_parser.specs.Correct.{InGrammar, BeginsIn, NoneFollowsIn, FirstFaultIn, FirstFault, InDefinition}
use Rattle.procedure_parser.proofs.Law.{Front, Heads, Reply, LawAt}
use Rattle.procedure_parser.proofs.Declarations.{declarations_law}
use Rattle.procedure_parser.proofs.OnlyDeclarations.{only_declarations}
use Rattle.procedure_parser.proofs.DefiningLaw.{defining_law}
use Rattle.procedure_parser.proofs.OnlyDefining.{only_defining}

joins : (pre : Words) (t : Word × ℕ) (more : Words) → (pre ++ t ∷ []) ++ more ≡ pre ++ (t ∷ more)
joins pre t more = append_assoc pre (t ∷ []) more

abbrev done : Source × Words → Read Source
done x = Ok x

read_is : (x y : Source × Words) → done x ≡ done y → x ≡ y
read_is x y e = cc

pub length_both : {A : Type 0} (front us : List A) → length (front ++ us) ≡ length front + length us
length_both [] us = omega arith
length_both (t ∷ front) us = let e = length_both front us in omega (arith, e)

tail_of : (front us : Words) → drop (length (front ++ us) - length us) (front ++ us) ≡ us
tail_of [] us = let e : length us - length us ≡ 0 = omega arith in rw e refl
tail_of (t ∷ front) us =
    let n : length (front ++ us) ≡ length front + length us = length_both front us in
    let e : suc (length (front ++ us)) - length us ≡ suc (length (front ++ us) - length us) = omega (arith, n) in
    rw e (tail_of front us)

-- all of the tokens
abbrev pub to_the_end : (Words → Read Source) → Words → Result Source Words
to_the_end P ts = P ts >>= λ ds. cond (ended ds.1) (Ok ds.0) (Err ds.1)

-- a reader of whole texts, from one that gives what comes after
module _ (P : Words → Read Source) (R : Form Source) (law : (ts : Words) → LawAt P R ts) (only : (s : Source) (ts : Words) → R s ts [] → P ts ≡ Ok (s, [])) where
  abbrev G : Source → Words → Type 0
  G s ts = R s ts []

  only_whole : (s : Source) (ts : Words) → G s ts → to_the_end P ts ≡ Ok s
  only_whole s ts g = let e = only s ts g in rw e refl

  -- no text goes on so
  none_stuck : (f : Front) (us : Words) → ((x : Words) → Heads us x → P (f.run x) ≡ Err x) → NoneFollowsIn G f.pre us
  none_stuck f [] same = λ e g.
      let a = only e f.pre g in
      let b : f.run [] ≡ f.pre = f.is [] ∙ append-nil f.pre in
      let c = same [] tt in
      absurd (cc)
  none_stuck f (t ∷ us) same = λ b.
      let a = only b.1 ((f.pre ++ t ∷ []) ++ b.0) b.2 in
      let d : f.run (t ∷ b.0) ≡ (f.pre ++ t ∷ []) ++ b.0 = f.is (t ∷ b.0) ∙ sym (joins f.pre t b.0) in
      let c = same (t ∷ b.0) refl in
      absurd (cc)

  none_left : (f : Front) (e : Source) (t : Word × ℕ) (us : Words) → ((x : Words) → Heads (t ∷ us) x → P (f.run x) ≡ Ok (e, x)) → NoneFollowsIn G f.pre (t ∷ us)
  none_left f e t us again = λ b.
      let a = only b.1 ((f.pre ++ t ∷ []) ++ b.0) b.2 in
      let d : f.run (t ∷ b.0) ≡ (f.pre ++ t ∷ []) ++ b.0 = f.is (t ∷ b.0) ∙ sym (joins f.pre t b.0) in
      let c = again (t ∷ b.0) refl in
      let q : [] ≡ t ∷ b.0 = ap (λ (p : Source × Words). p.1) (read_is (b.1, []) (e, t ∷ b.0) (sym a ∙ ap P (sym d) ∙ c)) in
      absurd (cc)

  begins_at : (f : Front) (vs : Words) (e : Source) → R e (f.run vs) [] → BeginsIn G f.pre
  begins_at f vs e g = (vs, e, subst (λ (w : Words). R e w []) (f.is vs) g)

  -- what an answer of the reader says
  abbrev Says : Words → Result Source Words → Type 0
  Says ts (Ok e) = G e ts
  Says ts (Err us) = FirstFaultIn G ts us

  says : (ts : Words) (y : Read Source) → Reply P R ts y → Says ts (y >>= λ e. cond (ended e.1) (Ok e.0) (Err e.1))
  says ts (Ok (e, [])) r = subst (λ (w : Words). G e w) (sym r.is) (r.holds [])
  says ts (Ok (e, t ∷ us)) r = record {
    front = r.front.pre;
    parts = r.is ∙ r.front.is (t ∷ us);
    begins = begins_at r.front [] e (r.holds []);
    none = none_left r.front e t us r.again;
  }
  says ts (Err us) r = record {
    front = r.front.pre;
    parts = r.is ∙ r.front.is us;
    begins = let g = r.goes [] in begins_at r.front g.0 g.1 g.2;
    none = none_stuck r.front us r.same;
  }

  whole_says : (ts : Words) → Says ts (to_the_end P ts)
  whole_says ts = says ts (P ts) (law ts)

  whole_found : (ts : Words) (s : Source) → to_the_end P ts ≡ Ok s → G s ts
  whole_found ts s e = subst (λ (y : Result Source Words). Says ts y) e (whole_says ts)

  stuck_says : (ts : Words) (n : ℕ) (y : Result Source Words) → Says ts y → stuck_before y ≡ Some n → (us : Words) × FirstFaultIn G ts us × (drop (length ts - n) ts ≡ us)
  stuck_says ts n (Ok s) h e = absurd cc
  stuck_says ts n (Err us) h e =
      let k : n ≡ length us = (cc) in
      (us, h, rw (k, h.parts) (tail_of h.front us))

  -- the tokens from the fault on, by how many they are
  whole_stuck : (ts : Words) (n : ℕ) → stuck_before (to_the_end P ts) ≡ Some n → (us : Words) × FirstFaultIn G ts us × (drop (length ts - n) ts ≡ us)
  whole_stuck ts n h = stuck_says ts n (to_the_end P ts) (whole_says ts) h

-- ---- programs

abbrev Program : Form Source
Program = Declarations 16 256

program_law : (ts : Words) → LawAt program_at Program ts
unfolding program_at
program_law ts = declarations_law 273 16 256 ts (omega arith)

only_program : (s : Source) (ts : Words) → InGrammar s ts → program_at ts ≡ Ok (s, [])
unfolding program_at
only_program s ts g = only_declarations 16 256 s ts [] g 273 (omega arith) refl refl

pub only_text : (s : Source) (ts : Words) → InGrammar s ts → text_at ts ≡ Ok s
unfolding text_at
only_text s ts g = only_whole program_at Program program_law only_program s ts g

pub text_found : (ts : Words) (s : Source) → text_at ts ≡ Ok s → InGrammar s ts
unfolding text_at
text_found ts s e = whole_found program_at Program program_law only_program ts s e

pub text_stuck : (ts : Words) (n : ℕ) → stuck_before (text_at ts) ≡ Some n → (us : Words) × FirstFault ts us × (drop (length ts - n) ts ≡ us)
unfolding text_at
text_stuck ts n h = whole_stuck program_at Program program_law only_program ts n h

-- ---- definitions

module _ (room : Room) where
  pub only_definition : (s : Source) (ts : Words) → InDefinition room s ts → definition_at room ts ≡ Ok s
  unfolding definition_at
  only_definition s ts g = only_whole (defining_at room) (Defining room) (defining_law room) (only_defining room) s ts g

  pub definition_found : (ts : Words) (s : Source) → definition_at room ts ≡ Ok s → InDefinition room s ts
  unfolding definition_at
  definition_found ts s e = whole_found (defining_at room) (Defining room) (defining_law room) (only_defining room) ts s e

  pub definition_stuck : (ts : Words) (n : ℕ) → stuck_before (definition_at room ts) ≡ Some n → (us : Words) × FirstFaultIn (InDefinition room) ts us × (drop (length ts - n) ts ≡ us)
  unfolding definition_at
  definition_stuck ts n h = whole_stuck (defining_at room) (Defining room) (defining_law room) (only_defining room) ts n h
