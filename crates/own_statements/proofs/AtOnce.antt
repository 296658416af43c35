-- Values that are found at once, and updates by numbers that read nothing.
use Rattle.std.proofs.Common.{◌≡◌, ◌∙◌, ◌++◌, ℕ, ℤ, Bool, true, false, List, [], Option, Some, None, Result, Ok, Err, OnOk, OnErr, if◌then◌else◌, refl, sym, ap, subst}
use Rattle.std.specs.Prelude.{is_ok, IfSome, slice_get}
use Rattle.std.proofs.lemmas.List.{append-nil}
use Rattle.monoid_laws.specs.declared.Kind.{Kind}
use Rattle.monoid_laws.specs.Kinds.{names_element}
use Rattle.meaning.specs.declared.tree.Operator.{Operator}
use Rattle.meaning.specs.declared.FaultKind.{FaultKind}
use Rattle.meaning.specs.Tables.{Tables, row_of, at_column}
use Rattle.input_tables.specs.Edited as read
use Rattle.input_tables.specs.Edited.{rows_at}
use Rattle.linked_program.specs.declared.code.Expression.{Expression}
use Rattle.linked_program.specs.declared.code.Expression.TheVariants as e
use Rattle.linked_program.specs.CodeView.{expression}
use Rattle.linked_program.specs.Linked.{Linked, cell_at, joined, slot}
use Rattle.evaluation.specs.declared.note.Note.{Note}
use Rattle.evaluation.specs.declared.slot.Slot.{Slot}
use Rattle.evaluation.specs.Slots.{number_in}
use Rattle.evaluation.specs.Values.{NumberedOut, ◌>>=◌, applied, onward, pure, looked, value_at}
use Rattle.positions.specs.declared.phase.Phase.TheVariants.{Running}
use Rattle.positions.specs.declared.work.Position.{Position}
use Rattle.positions.specs.declared.work.Work.TheVariants.{Block}
use Rattle.positions.specs.Activations.{PlainActivation, at, next_of}
use Rattle.positions.specs.Layers.{PlainLayer, kept_behind, noting, updating}
use Rattle.positions.specs.Advance.{evaluated, combining, if_named}
use Rattle.own_statements.specs.declared.statements.Did.{Did}
use Rattle.own_statements.specs.declared.statements.Did.TheVariants.{Nothing, Next}
use Rattle.own_statements.specs.Fills.{Fills, Reads}
use Rattle.own_statements.specs.Paths.{Does, topped}

none_noted : (b : Bool) (xs : List Note) → kept_behind b xs [] ≡ xs
none_noted true xs = append-nil xs
none_noted false xs = refl

pub noting_none : (l : PlainLayer) → noting [] l ≡ l
noting_none l = ap (λ (xs : List Note). record l { notes = xs }) (none_noted l.keeps l.notes)

not_kept : (b : Bool) (xs ys : List Note) → b ≡ false → xs ≡ kept_behind b xs ys
not_kept true xs ys e = absurd cc
not_kept false xs ys e = refl

-- the value of an expression that reads nothing, over whatever layer
pub pure_fills : (o : NumberedOut ℤ) (v : ℤ) (l : PlainLayer) → o ≡ pure v → Fills o v l l
pure_fills o v l e = (ap (λ (q : NumberedOut ℤ). q.answer) e, sym (ap (λ (q : NumberedOut ℤ). noting q.notes l) e ∙ noting_none l))

-- the value of any expression, over a layer that keeps no readings
pub unkept_fills : (o : NumberedOut ℤ) (v : ℤ) (l : PlainLayer) → o.answer ≡ Ok v → l.keeps ≡ false → Fills o v l l
unkept_fills o v l h e = (h, ap (λ (xs : List Note). record l { notes = xs }) (not_kept l.keeps l.notes o.notes e))

-- ---- values where readings may be kept

not_noted : (b : Bool) (xs ns : List Note) → (b ≡ true → ns ≡ []) → xs ≡ kept_behind b xs ns
not_noted true xs ns h = sym (ap (λ (ys : List Note). kept_behind true xs ys) (h refl) ∙ none_noted true xs)
not_noted false xs ns h = refl

pub reads_fill : (o : NumberedOut ℤ) (res : Option ℤ) (l : PlainLayer) (keeps : Bool) → keeps ≡ l.keeps → IfSome res (λ v. Reads keeps o v) → IfSome res (λ v. Fills o v l l)
reads_fill o None l keeps same h = tt
reads_fill o (Some v) l keeps same h = (h.0, ap (λ (xs : List Note). record l { notes = xs }) (not_noted l.keeps l.notes o.notes (λ e. h.1 (same ∙ e))))

pub pure_reads : (keeps : Bool) (o : NumberedOut ℤ) (v : ℤ) → o ≡ pure v → Reads keeps o v
pure_reads keeps o v e = (ap (λ (q : NumberedOut ℤ). q.answer) e, λ k. ap (λ (q : NumberedOut ℤ). q.notes) e)

pub pure_read : (keeps : Bool) (o : NumberedOut ℤ) (res : Option ℤ) → IfSome res (λ v. o ≡ pure v) → IfSome res (λ v. Reads keeps o v)
pure_read keeps o None h = tt
pure_read keeps o (Some v) h = pure_reads keeps o v h

pub answer_read : (keeps : Bool) (o : NumberedOut ℤ) (res : Option ℤ) → keeps ≡ false → IfSome res (λ v. o.answer ≡ Ok v) → IfSome res (λ v. Reads keeps o v)
answer_read keeps o None e h = tt
answer_read keeps o (Some v) e h = (h, λ k. absurd cc)

-- one evaluation behind another
reads_behind : (keeps : Bool) (m : NumberedOut ℤ) (f : ℤ → NumberedOut ℤ) (x v : ℤ) → Reads keeps m x → Reads keeps (f x) v → Reads keeps (m >>= f) v
reads_behind keeps m f x v h g =
    let notes : (m >>= f).notes ≡ m.notes ++ (f x).notes = ap (λ (r : Result ℤ FaultKind). (onward m.notes r f).notes) h.0 in
    (ap (λ (r : Result ℤ FaultKind). (onward m.notes r f).answer) h.0 ∙ g.0, λ k. notes ∙ ap (λ (ns : List Note). ns ++ (f x).notes) (h.1 k) ∙ g.1 k)

-- an operator on two values
pub joined_reads : (keeps : Bool) (ts : Tables) (slots : List Slot) (op : Operator) (e f : Linked) (x y : ℤ) → Reads keeps (value_at ts slots e) x → Reads keeps (value_at ts slots f) y
    → (v : ℤ) → applied op x y ≡ pure v → Reads keeps (value_at ts slots (joined op e f)) v
joined_reads keeps ts slots op e f x y left right v is =
    reads_behind keeps (value_at ts slots e) (λ a. value_at ts slots f >>= (λ b. applied op a b)) x v left
    (reads_behind keeps (value_at ts slots f) (λ b. applied op x b) y v right (pure_reads keeps (applied op x y) v is))

-- the value of a cell, by its row
pub value_of_cell : (ts : Tables) (slots : List Slot) (t x c : ℕ) (vs : List ℤ) (v : ℤ) → row_of (rows_at ts t) (number_in (slice_get slots x)) ≡ Some vs → slice_get vs c ≡ Some v
    → (value_at ts slots (cell_at t (slot x) c)).answer ≡ Ok v
value_of_cell ts slots t x c vs v row there =
    let n = number_in (slice_get slots x) in
    let is : read.cell_at ts t n c ≡ Some v = ap (λ o. at_column o c) row ∙ there in
    ap (λ (o : Option ℤ). (pure n >>= (λ k. looked t k c o)).answer) is

module _ (passes : Bool) (p : Position) (n r : ℕ) (kind : Kind) (vs : List ℤ) (a : PlainActivation) (l m : PlainLayer) where
  combined : names_element kind vs ≡ true → m ≡ updating r kind vs l → Does passes p (λ kit. evaluated n (pure vs) (combining (Some kind) n p r)) a l Next a m
  combined named e s may kit =
      ap (λ (k : PlainLayer). topped Running (at (Block (next_of p)) a) k s) e
      ∙ sym (ap (λ (b : Bool). if_named b n p r kind vs (topped Running (at (Block p) a) l s)) named)
      ∙ sym (ap (λ (k : PlainLayer). if_named (names_element kind vs) n p r kind vs (topped Running (at (Block p) a) k s)) (noting_none l))

  -- an update by numbers that read nothing, where it is done and where it is not
  done_at_once : {E : Type 0} (res : Result (Unit {0}) E) → OnOk res (m ≡ updating r kind vs l) → OnOk res (names_element kind vs ≡ true) → OnErr res (m ≡ l)
      → Does passes p (λ kit. evaluated n (pure vs) (combining (Some kind) n p r)) a l (if is_ok res then Next else Nothing) a m
  done_at_once (Ok u) e named kept = combined named e
  done_at_once (Err u) e named kept = (refl, kept)

  pub does_at_once : {E : Type 0} (res : Result (Unit {0}) E) (did : Did) (o : NumberedOut (List ℤ)) (k : Option Kind) → k ≡ Some kind → o ≡ pure vs
      → did ≡ (if is_ok res then Next else Nothing) → OnOk res (m ≡ updating r kind vs l) → OnOk res (names_element kind vs ≡ true) → OnErr res (m ≡ l)
      → Does passes p (λ kit. evaluated n o (combining k n p r)) a l did a m
  does_at_once res did o k is read d e named kept =
      subst (λ (j : Option Kind). Does passes p (λ kit. evaluated n o (combining j n p r)) a l did a m) (sym is)
      (subst (λ (q : NumberedOut (List ℤ)). Does passes p (λ kit. evaluated n q (combining (Some kind) n p r)) a l did a m) (sym read)
      (subst (λ (x : Did). Does passes p (λ kit. evaluated n (pure vs) (combining (Some kind) n p r)) a l x a m) (sym d) (done_at_once res e named kept)))
