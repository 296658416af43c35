-- What the pieces of a run come to, one after another.
use Rattle.std.proofs.Common.{◌≡◌, ℕ, List, [], ◌∷◌, ℤ, Some, None, Result, Ok, Err, refl, ap, ◌∙◌, map}
use Rattle.meaning.specs.Tree.{Name, Proc, Tree}
use Rattle.meaning.specs.Tables.{Tables}
use Rattle.meaning.specs.Outcome.{Log, Enters, Accumulators, after, Fault}
use Rattle.meaning.specs.Outcome as outcome
use Rattle.meaning.specs.Run.{Run, ◌>>=◌, pure, note}
use Rattle.meaning.specs.Values.{Env}
use Rattle.meaning.specs.Statements.{fresh}
use Rattle.meaning.specs.Elision.{Next, On, Back, body, elide}
use Rattle.meaning.specs.Elision as elision
use Rattle.meaning.specs.SmallStep.{slot}
use Rattle.meaning.specs.Rest.{Course, course_of, then_on, past, values_of, blocks_left}
use Rattle.trail_theory.proofs.Elides.{after_append}

pub then_pure : (c : Course ℤ) → then_on c (λ w acc. (Ok w, acc)) ≡ c
then_pure (Ok v, acc) = refl
then_pure (Err k, acc) = refl

-- a course goes on in one way by functions that are equal everywhere
pub then_same : {A B : Type 0} (c : Course A) (f g : A → Accumulators → Course B) → ((a : A) (acc : Accumulators) → f a acc ≡ g a acc) → then_on c f ≡ then_on c g
then_same (Ok a, acc) f g h = h a acc
then_same (Err k, acc) f g h = refl

pub then_assoc : {A B C : Type 0} (c : Course A) (f : A → Accumulators → Course B) (g : B → Accumulators → Course C)
    → then_on (then_on c f) g ≡ then_on c (λ a acc. then_on (f a acc) g)
then_assoc (Ok a, acc) f g = refl
then_assoc (Err k, acc) f g = refl

onward_course : {A B : Type 0} (log : Log) (r : Result A Fault) (acc : Accumulators) (f : A → Run B)
    → course_of (λ acc'. outcome.onward log r (λ a. f a (after log acc'))) acc ≡ then_on (r, after log acc) (λ a. course_of (f a))
onward_course log (Err e) acc f = refl
onward_course log (Ok a) acc f = ap (λ x. ((f a (after log acc)).answer, x)) (after_append log (f a (after log acc)).log acc)

-- a piece, and then another
pub bind_course : {A B : Type 0} (m : Run A) (f : A → Run B) (acc : Accumulators) → course_of (m >>= f) acc ≡ then_on (course_of m acc) (λ a. course_of (f a))
bind_course m f acc = onward_course (m acc).log (m acc).answer acc f

pub seen_slot : (env : Env) → values_of (map slot env) ≡ env
seen_slot [] = refl
seen_slot (None ∷ env) = ap (λ e. None ∷ e) (seen_slot env)
seen_slot (Some v ∷ env) = ap (λ e. Some v ∷ e) (seen_slot env)

module _ (program : Tree) (tables : Tables) where
  value_of_next : (next : Next) (acc : Accumulators) (left : ℕ) (here : Name) → (Ok (elision.back_or_zero next), acc) ≡ past next (blocks_left program tables left here []) acc
  value_of_next (On env) acc left here = refl
  value_of_next (Back v) acc left here = refl

  abbrev ending : Next → Run ℤ
  ending next = pure (elision.back_or_zero next)

  -- an instance is its body
  pub instance_left : (left : ℕ) (f : Name) (vs : List ℤ) (depth : ℕ) (p : Proc) (acc : Accumulators)
      → course_of (elision.instance program tables (elide program tables left) f vs depth p) acc ≡ blocks_left program tables left p.called (p.body ∷ []) (fresh p.names vs) acc
  instance_left left f vs depth p acc =
      bind_course (note (Enters f vs depth)) (λ _. body program tables (elide program tables left) p.called (fresh p.names vs) p.body >>= ending) acc
      ∙ bind_course (body program tables (elide program tables left) p.called (fresh p.names vs) p.body) ending acc
      ∙ then_same (course_of (body program tables (elide program tables left) p.called (fresh p.names vs) p.body) acc) (λ next. course_of (ending next)) (λ next. past next (blocks_left program tables left p.called [])) (λ next acc'. value_of_next next acc' left p.called)
