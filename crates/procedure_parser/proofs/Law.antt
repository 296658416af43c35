-- What a reader does, with a law for each way to make one of others.
use Rattle.std.proofs.Common.{◌≡◌, ℕ, Bool, true, false, cond, [], ◌∷◌, ◌++◌, Option, Some, None, Ok, Err, refl, sym, ap, subst, ◌∙◌, append_assoc}
use Rattle.token_scanner.specs.Words.{Word, Words, rest}
use Rattle.token_scanner.specs.Words.{for_some}
use Rattle.token_readers.specs.Reading.{◌>>=◌, Read}
use Rattle.procedure_parser.specs.Grammar.{Form}

-- some tokens in front of whatever comes
pub record Front : Type 0 where
  pub run : Words → Words
  pub pre : Words
  pub is : (x : Words) → run x ≡ pre ++ x

abbrev pub nothing : Front
nothing = record { run = λ x. x; pre = []; is = λ x. refl }

abbrev pub one : Word × ℕ → Front
one t = record { run = λ x. t ∷ x; pre = t ∷ []; is = λ x. refl }

abbrev pub both : Front → Front → Front
both f g = record { run = λ x. f.run (g.run x); pre = f.pre ++ g.pre; is = λ x. f.is (g.run x) ∙ ap (λ (w : Words). f.pre ++ w) (g.is x) ∙ sym (append_assoc f.pre g.pre x) }

-- they begin with the same token
abbrev pub Heads : Words → Words → Type 0
Heads [] [] = Unit {0}
Heads (t ∷ ts) (u ∷ us) = t ≡ u
Heads [] (u ∷ us) = ⊥
Heads (t ∷ ts) [] = ⊥

heads_pre : (pre x y : Words) → Heads x y → Heads (pre ++ x) (pre ++ y)
heads_pre [] x y h = h
heads_pre (t ∷ pre) x y h = refl

pub heads_run : (f : Front) (x y : Words) → Heads x y → Heads (f.run x) (f.run y)
heads_run f x y h = subst (λ (w : Words). Heads w (f.run y)) (sym (f.is x)) (subst (λ (w : Words). Heads (f.pre ++ x) w) (sym (f.is y)) (heads_pre f.pre x y h))

pub record Reads {A : Type 0} (P : Words → Read A) (R : Form A) (ts : Words) (a : A) (us : Words) : Type 0 where
  pub front : Front
  pub is : ts ≡ front.run us
  pub holds : (x : Words) → R a (front.run x) x
  pub again : (x : Words) → Heads us x → P (front.run x) ≡ Ok (a, x)

pub record Stuck {A : Type 0} (P : Words → Read A) (R : Form A) (ts us : Words) : Type 0 where
  pub front : Front
  pub is : ts ≡ front.run us
  pub goes : (x : Words) → (vs : Words) × (a : A) × R a (front.run vs) x
  pub same : (x : Words) → Heads us x → P (front.run x) ≡ Err x

abbrev pub Reply : {A : Type 0} → (Words → Read A) → Form A → Words → Read A → Type 0
Reply P R ts (Ok x) = Reads P R ts x.0 x.1
Reply P R ts (Err us) = Stuck P R ts us

abbrev pub LawAt : {A : Type 0} → (Words → Read A) → Form A → Words → Type 0
LawAt P R ts = Reply P R ts (P ts)

pub by_reply : {A : Type 0} (P : Words → Read A) (R : Form A) (ts : Words) (y : Read A) → P ts ≡ y → Reply P R ts y → LawAt P R ts
by_reply P R ts y e h = subst (λ (z : Read _). Reply P R ts z) (sym e) h

-- ---- another reader that answers the same where the tokens begin so; another form that holds too

pub reply_as : {A : Type 0} (P Q : Words → Read A) (R S : Form A) (ts : Words) (y : Read A) → ((f : Front) (us x : Words) → ts ≡ f.run us → Heads us x → Q (f.run x) ≡ P (f.run x)) → ((a : A) (us vs : Words) → R a us vs → S a us vs) → Reply P R ts y → Reply Q S ts y
reply_as P Q R S ts (Ok x) e h l = record { front = l.front; is = l.is; holds = λ v. h x.0 (l.front.run v) v (l.holds v); again = λ v k. e l.front x.1 v l.is k ∙ l.again v k }
reply_as P Q R S ts (Err us) e h l = record { front = l.front; is = l.is; goes = λ v. let g = l.goes v in (g.0, g.1, h g.1 (l.front.run g.0) v g.2); same = λ v k. e l.front us v l.is k ∙ l.same v k }

abbrev pub IsLocal : {C : Type 0} → (Words → C) → Type 0
IsLocal t = (x y : Words) → Heads x y → t x ≡ t y

module _ {A : Type 0} (R : Form A) where
  pub if_true : (t : Words → Bool) (P Q : Words → Read A) (ts : Words) → IsLocal t → t ts ≡ true → LawAt P R ts → LawAt (λ w. cond (t w) (P w) (Q w)) R ts
  if_true t P Q ts loc e law =
      by_reply (λ w. cond (t w) (P w) (Q w)) R ts (P ts) (ap (λ (b : Bool). cond b (P ts) (Q ts)) e)
      (reply_as P (λ w. cond (t w) (P w) (Q w)) R R ts (P ts) (λ f us x is h. ap (λ (b : Bool). cond b (P (f.run x)) (Q (f.run x))) (sym (loc (f.run us) (f.run x) (heads_run f us x h)) ∙ ap t (sym is) ∙ e)) (λ a us vs r. r) law)

  pub if_false : (t : Words → Bool) (P Q : Words → Read A) (ts : Words) → IsLocal t → t ts ≡ false → LawAt Q R ts → LawAt (λ w. cond (t w) (P w) (Q w)) R ts
  if_false t P Q ts loc e law =
      by_reply (λ w. cond (t w) (P w) (Q w)) R ts (Q ts) (ap (λ (b : Bool). cond b (P ts) (Q ts)) e)
      (reply_as Q (λ w. cond (t w) (P w) (Q w)) R R ts (Q ts) (λ f us x is h. ap (λ (b : Bool). cond b (P (f.run x)) (Q (f.run x))) (sym (loc (f.run us) (f.run x) (heads_run f us x h)) ∙ ap t (sym is) ∙ e)) (λ a us vs r. r) law)

  pub some_there : {C : Type 0} (o : Words → Option C) (D : Words → Read A) (F : C → Words → Read A) (ts : Words) (c : C) → IsLocal o → o ts ≡ Some c → LawAt (F c) R ts → LawAt (λ w. for_some (o w) (D w) (λ c. F c w)) R ts
  some_there o D F ts c loc e law =
      by_reply (λ w. for_some (o w) (D w) (λ c. F c w)) R ts (F c ts) (ap (λ (b : Option _). for_some b (D ts) (λ c. F c ts)) e)
      (reply_as (F c) (λ w. for_some (o w) (D w) (λ c. F c w)) R R ts (F c ts) (λ f us x is h. ap (λ (b : Option _). for_some b (D (f.run x)) (λ c. F c (f.run x))) (sym (loc (f.run us) (f.run x) (heads_run f us x h)) ∙ ap o (sym is) ∙ e)) (λ a us vs r. r) law)

  pub none_there : {C : Type 0} (o : Words → Option C) (D : Words → Read A) (F : C → Words → Read A) (ts : Words) → IsLocal o → o ts ≡ None → LawAt D R ts → LawAt (λ w. for_some (o w) (D w) (λ c. F c w)) R ts
  none_there o D F ts loc e law =
      by_reply (λ w. for_some (o w) (D w) (λ c. F c w)) R ts (D ts) (ap (λ (b : Option _). for_some b (D ts) (λ c. F c ts)) e)
      (reply_as D (λ w. for_some (o w) (D w) (λ c. F c w)) R R ts (D ts) (λ f us x is h. ap (λ (b : Option _). for_some b (D (f.run x)) (λ c. F c (f.run x))) (sym (loc (f.run us) (f.run x) (heads_run f us x h)) ∙ ap o (sym is) ∙ e)) (λ a us vs r. r) law)

-- ---- the simplest

pub gives_at : {A : Type 0} (R : Form A) (a : A) (ts : Words) → ((x : Words) → R a x x) → LawAt (λ w. Ok (a, w)) R ts
gives_at R a ts h = record { front = nothing; is = refl; holds = h; again = λ x k. refl }

pub refuses_at : {A : Type 0} (R : Form A) (ts : Words) → ((x : Words) → (vs : Words) × (a : A) × R a vs x) → LawAt (λ w. Err w) R ts
refuses_at R ts h = record { front = nothing; is = refl; goes = h; same = λ x k. refl }

-- behind the first token
module _ {A : Type 0} (P : Words → Read A) (R S : Form A) (t : Word × ℕ) where
  skip_reply : (ts : Words) (y : Read A) → ((a : A) (us vs : Words) → R a us vs → S a (t ∷ us) vs) → Reply P R ts y → Reply (λ w. P (rest w)) S (t ∷ ts) y
  skip_reply ts (Ok x) h l = record { front = both (one t) l.front; is = ap (λ (w : Words). t ∷ w) l.is; holds = λ v. h x.0 (l.front.run v) v (l.holds v); again = λ v k. l.again v k }
  skip_reply ts (Err us) h l = record { front = both (one t) l.front; is = ap (λ (w : Words). t ∷ w) l.is; goes = λ v. let g = l.goes v in (g.0, g.1, h g.1 (l.front.run g.0) v g.2); same = λ v k. l.same v k }

  pub skip_at : (ts : Words) → ((a : A) (us vs : Words) → R a us vs → S a (t ∷ us) vs) → LawAt P R ts → LawAt (λ w. P (rest w)) S (t ∷ ts)
  skip_at ts h l = skip_reply ts (P ts) h l

-- a reader of one form reads each form that holds where that one does
pub map_at : {A : Type 0} (P : Words → Read A) (R S : Form A) (ts : Words) → ((a : A) (us vs : Words) → R a us vs → S a us vs) → LawAt P R ts → LawAt P S ts
map_at P R S ts h law = reply_as P P R S ts (P ts) (λ f us x is k. refl) h law

-- one behind the other
module _ {A B : Type 0} (P : Words → Read A) (Q : A → Words → Read B) (R : Form A) (T : Form B) where
  abbrev seq : Words → Read B
  seq w = P w >>= λ z. Q z.0 z.1

  -- what the second has to give
  abbrev pub Behind : A → Form B
  Behind a b us vs = (ts : Words) → R a ts us → T b ts vs

  then_ok : (ts us : Words) (a : A) (y : Read B) → Reads P R ts a us → Reply (Q a) (Behind a) us y → Reply seq T ts y
  then_ok ts us a (Ok x) p q = record {
    front = both p.front q.front;
    is = p.is ∙ ap p.front.run q.is;
    holds = λ v. q.holds v (p.front.run (q.front.run v)) (p.holds (q.front.run v));
    again = λ v k. ap (λ (z : Read A). z >>= λ z. Q z.0 z.1) (p.again (q.front.run v) (subst (λ (w : Words). Heads w (q.front.run v)) (sym q.is) (heads_run q.front x.1 v k))) ∙ q.again v k;
  }
  then_ok ts us a (Err vs) p q = record {
    front = both p.front q.front;
    is = p.is ∙ ap p.front.run q.is;
    goes = λ v. let g = q.goes v in (g.0, g.1, g.2 (p.front.run (q.front.run g.0)) (p.holds (q.front.run g.0)));
    same = λ v k. ap (λ (z : Read A). z >>= λ z. Q z.0 z.1) (p.again (q.front.run v) (subst (λ (w : Words). Heads w (q.front.run v)) (sym q.is) (heads_run q.front vs v k))) ∙ q.same v k;
  }

  then_reply : (ts : Words) (y : Read A) → P ts ≡ y → Reply P R ts y → ((x : Words) → (v : Words) × ((a : A) (us : Words) → R a us v → (b : B) × T b us x)) → ((a : A) (us : Words) → R a ts us → LawAt (Q a) (Behind a) us) → LawAt seq T ts
  then_reply ts (Ok x) e p fill law =
      by_reply seq T ts (Q x.0 x.1) (ap (λ (z : Read A). z >>= λ z. Q z.0 z.1) e) (then_ok ts x.1 x.0 (Q x.0 x.1) p (law x.0 x.1 (subst (λ (w : Words). R x.0 w x.1) (sym p.is) (p.holds x.1))))
  then_reply ts (Err us) e p fill law =
      by_reply seq T ts (Err us) (ap (λ (z : Read A). z >>= λ z. Q z.0 z.1) e) (record {
        front = p.front;
        is = p.is;
        goes = λ v. let f = fill v in let g = p.goes f.0 in let b = f.1 g.1 (p.front.run g.0) g.2 in (g.0, b.0, b.1);
        same = λ v k. ap (λ (z : Read A). z >>= λ z. Q z.0 z.1) (p.same v k);
      })

  pub then_at : (ts : Words) → LawAt P R ts → ((x : Words) → (v : Words) × ((a : A) (us : Words) → R a us v → (b : B) × T b us x)) → ((a : A) (us : Words) → R a ts us → LawAt (Q a) (Behind a) us) → LawAt seq T ts
  then_at ts p fill law = then_reply ts (P ts) refl p fill law
