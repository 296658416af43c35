-- An instance that is entered with one number or two, or with that which a slot holds meanwhile.
use Rattle.std.proofs.Common.{◌≡◌, ◌∙◌, ℕ, zero, suc, ◌<◌, ℤ, Bool, true, false, List, [], ◌∷◌, Option, None, length, map, refl, sym, ap, subst, arith, Ok, Some}
use Rattle.std.proofs.Math.Seq.{take-nil}
use Rattle.std.proofs.lemmas.List.{append-nil}
use Rattle.std.specs.Prelude.{◌-◌, ◌++◌, IfSome, replicate, slice_get, slice_set, take}
use Rattle.meaning.specs.Tables.{Tables}
use Rattle.linked_program.specs.declared.code.Expression.{Expression}
use Rattle.linked_program.specs.CodeView.{expression}
use Rattle.linked_program.specs.Linked.{Linked, slot}
use Rattle.evaluation.specs.declared.note.Note.{Note}
use Rattle.evaluation.specs.declared.slot.Slot.{Slot}
use Rattle.evaluation.specs.declared.slot.Slot.TheVariants.{Has, Unset}
use Rattle.evaluation.specs.Slots.{slots_for, number_in}
use Rattle.evaluation.specs.Values.{NumberedOut, ◌>>=◌, behind, changed, entry_at, mapped, pure, value_at, values_at}
use Rattle.positions.specs.Activations.{with_slot}
use Rattle.positions.specs.Layers.{PlainLayer, kept_behind, noting}
use Rattle.own_statements.specs.Fills.{Fills}

this_slot : (xs : List Slot) (x : ℕ) (s : Slot) → x < length xs → slice_get (slice_set xs x s) x ≡ Some s
this_slot [] x s h = absurd (omega (arith, h))
this_slot (y ∷ xs) zero s h = refl
this_slot (y ∷ xs) (suc x) s h = this_slot xs x s (omega (arith, h))

none_noted : (b : Bool) (xs : List Note) → xs ≡ kept_behind b xs []
none_noted true xs = sym (append-nil xs)
none_noted false xs = refl

-- an instance that is entered with the number that a slot holds meanwhile
pub is_entered : (ts : Tables) (slots : List Slot) (n x : ℕ) (v : ℤ) (es : List Linked) (filled : List Slot) (l : PlainLayer)
    → x < length slots → es ≡ slot x ∷ [] → filled ≡ slots_for n (v ∷ []) → Fills (entry_at ts (slice_set slots x (Has v)) n es) filled l l
is_entered ts slots n x v es filled l h one is =
    let held = ap (λ o. slots_for n (number_in o ∷ [])) (this_slot slots x (Has v) h) in
    subst (λ (fs : List Linked). Fills (entry_at ts (slice_set slots x (Has v)) n fs) filled l l) (sym one)
    (ap Ok (held ∙ sym is), ap (λ (ns : List Note). record l { notes = ns }) (none_noted l.keeps l.notes))

alone : (es : List Expression) (e : Expression) → length es ≡ 1 → slice_get es 0 ≡ Some e → es ≡ e ∷ []
alone [] e h there = absurd (omega (arith, h))
alone (x ∷ []) e h there = let is : x ≡ e = cc in ap (λ (y : Expression). y ∷ []) is
alone (x ∷ y ∷ es) e h there = absurd (omega (arith, h))

-- the values of arguments of which there is one alone
pub only_value : (slots : List Slot) (es : List Expression) (e : Expression) (o : Option ℤ) → length es ≡ 1 → slice_get es 0 ≡ Some e
    → IfSome o (λ v. (all : Tables) → value_at all slots (expression e) ≡ pure v) → IfSome o (λ v. (all : Tables) → values_at all slots (map expression es) ≡ pure (v ∷ []))
only_value slots es e None one there h = tt
only_value slots es e (Some v) one there h = λ all.
    ap (λ (fs : List Expression). values_at all slots (map expression fs)) (alone es e one there)
    ∙ ap (λ (q : NumberedOut ℤ). q >>= (λ w. mapped (λ ws. w ∷ ws) (values_at all slots []))) (h all)

both : (es : List Expression) (e f : Expression) → length es ≡ 2 → slice_get es 0 ≡ Some e → slice_get es 1 ≡ Some f → es ≡ e ∷ f ∷ []
both [] e f h one two = absurd (omega (arith, h))
both (x ∷ []) e f h one two = absurd (omega (arith, h))
both (x ∷ y ∷ []) e f h one two = let first : x ≡ e = cc in let second : y ≡ f = cc in ap (λ (z : Expression). z ∷ y ∷ []) first ∙ ap (λ (z : Expression). e ∷ z ∷ []) second
both (x ∷ y ∷ z ∷ es) e f h one two = absurd (omega (arith, h))

-- the values of two arguments
pub two_values : (all : Tables) (slots : List Slot) (es : List Expression) (e f : Expression) (v w : ℤ) → length es ≡ 2 → slice_get es 0 ≡ Some e → slice_get es 1 ≡ Some f
    → value_at all slots (expression e) ≡ pure v → value_at all slots (expression f) ≡ pure w → values_at all slots (map expression es) ≡ pure (v ∷ w ∷ [])
two_values all slots es e f v w h one two first second =
    ap (λ (fs : List Expression). values_at all slots (map expression fs)) (both es e f h one two)
    ∙ ap (λ (q : NumberedOut ℤ). q >>= (λ n. mapped (λ ns. n ∷ ns) (values_at all slots (expression f ∷ [])))) first
    ∙ ap (λ (q : NumberedOut ℤ). behind [] (mapped (λ ns. v ∷ ns) (q >>= (λ n. mapped (λ ns. n ∷ ns) (values_at all slots []))))) second

-- one number more in the slots of an instance that was entered with one
pub one_more : (n : ℕ) (v w : ℤ) (filled : List Slot) → filled ≡ with_slot (Some 1) (Has w) (slots_for n (v ∷ [])) → filled ≡ slots_for n (v ∷ w ∷ [])
one_more zero v w filled is = is
one_more (suc zero) v w filled is = is
one_more (suc (suc n)) v w filled is =
    let one : suc (suc n) - 1 ≡ suc n = omega arith in
    let two : suc (suc n) - 2 ≡ n = omega arith in
    let first = ap (λ (k : ℕ). with_slot (Some 1) (Has w) (Has v ∷ (take (suc n) [] ++ replicate k Unset))) one in
    let second = ap (λ (k : ℕ). Has v ∷ Has w ∷ replicate k Unset) (sym two) in
    let none = ap (λ (ss : List Slot). Has v ∷ Has w ∷ (ss ++ replicate (suc (suc n) - 2) Unset)) (sym (take-nil n)) in
    is ∙ first ∙ second ∙ none

-- an instance that is entered with these numbers
pub is_put : (ts : Tables) (slots : List Slot) (n : ℕ) (vs : List ℤ) (es : List Linked) (filled : List Slot) (l : PlainLayer)
    → values_at ts slots es ≡ pure vs → filled ≡ slots_for n vs → Fills (entry_at ts slots n es) filled l l
is_put ts slots n vs es filled l one is = (
  ap (λ (q : NumberedOut (List ℤ)). changed (slots_for n) q.answer) one ∙ ap Ok (sym is),
  ap (λ (ns : List Note). record l { notes = ns }) (none_noted l.keeps l.notes) ∙ sym (ap (λ (q : NumberedOut (List ℤ)). noting q.notes l) one),
)
