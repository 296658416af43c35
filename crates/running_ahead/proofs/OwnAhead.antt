-- Instances of a procedure that calls itself, in a strand that goes ahead: a call of the topmost instance's own procedure.
use Rattle.std.proofs.Common.{◌≡◌, ◌∙◌, ◌++◌, ◌∷◌, ◌+◌, ◌-◌, ◌<◌, ◌≤◌, ◌==◌, ℕ, ℤ, false, List, [], Option, length, min, if◌then◌else◌, refl, sym, ap, subst, arith, append_assoc}
use Rattle.std.proofs.lemmas.List.{length-append}
use Rattle.meaning.specs.declared.tree.Way.{Way}
use Rattle.meaning.specs.declared.tree.Way.TheVariants.{Call}
use Rattle.meaning.specs.declared.FaultKind.TheVariants.{TooDeep}
use Rattle.meaning.specs.Elision.{depth_limit}
use Rattle.meaning.specs.Tables.{Tables}
use Rattle.linked_program.specs.CodeView.{memo_of, slots_of}
use Rattle.linked_program.specs.Linked.{Linked}
use Rattle.linked_program.specs.Checked.{PlainChecked}
use Rattle.record_theory.specs.Record.{PlainRecord}
use Rattle.evaluation.specs.declared.slot.Slot.{Slot}
use Rattle.evaluation.specs.declared.slot.Slot.TheVariants.{Has}
use Rattle.evaluation.specs.Values.{NumberedOut, pure, entry_at}
use Rattle.positions.specs.declared.phase.Phase.{Phase}
use Rattle.positions.specs.declared.phase.Phase.TheVariants.{Running}
use Rattle.positions.specs.declared.work.Work.{Work}
use Rattle.positions.specs.Activations.{PlainActivation, bound, waiting}
use Rattle.positions.specs.Layers.{PlainLayer, entering}
use Rattle.positions.specs.Setting.{Setting, setting_with}
use Rattle.positions.specs.Strands.{PlainStrand, entry_by}
use Rattle.positions.specs.Tallies.{is_own}
use Rattle.positions.specs.Advance.{evaluated, noted, pushed, child_of, faulted}
use Rattle.own_statements.specs.Paths.{HasRoomAbove, topped}
use Rattle.own_statements.specs.Recursion.{deep, Gives, IsCalled}
use Rattle.own_statements.proofs.OwnCalls.{noting_none, comes_back, begun_slots, begun_with, is_given}
use Rattle.small_steps.specs.Steps.{nested_plain, entered_plain}
use Rattle.running_ahead.specs.Ahead.{IsAhead, GoesAhead}
use Rattle.running_ahead.proofs.Paths.{way_of, enter_ahead}

-- a called child of the topmost instance's procedure, which gives a value: the strand goes ahead so, where it is entered
found_ahead : (setting : Setting) (s : PlainStrand) (name : Option ℕ) (w : Work) (f : ℕ) (args : List Slot) (room : HasRoomAbove s) (deep_enough : (s.top.left == 0) ≡ false)
    (v : ℤ) (k n : PlainLayer) (gives : Gives setting (child_of f args s) k v n) (number : ℕ) → memo_of setting.codes f ≡ false
    → k ≡ entering f (depth_limit - (s.top.left - 1)) s.layer → n.kinds ≡ s.layer.kinds
    → IsAhead setting (nested_plain number Call name w f args s) (record s { layer = n; top = bound name (Has v) (waiting false name w s.top); phase = Running })
found_ahead setting s name w f args room deep_enough v k n gives number memo layer kinds =
    let child = child_of f args s in
    let with_child = pushed child false name w Running s in
    let back = record s { layer = n; top = bound name (Has v) (waiting false name w s.top); phase = Running } in
    let start = topped Running child k with_child in
    let begun : nested_plain number Call name w f args s ≡ start =
    ap (λ b. if b then faulted number TooDeep s else entered_plain Call name w f args s) deep_enough ∙ ap (λ (l : PlainLayer). topped Running child l with_child) (sym layer) in
    subst (λ (u : PlainStrand). IsAhead setting u back) (sym begun)
    (record { way = way_of setting start back (comes_back setting s name w f args room deep_enough v k n gives); lower = refl; kinds = kinds ∙ ap (λ (l : PlainLayer). l.kinds) (sym layer); tally = refl })

min_less : (n : ℕ) → min n (n - 1) ≡ n - 1
min_less n = omega arith

-- where the topmost instance of a strand calls one of its own procedure
pub found_goes : (c : PlainChecked) (tables : Tables) (records : List PlainRecord) (s : PlainStrand) (statement : ℕ) (way : Way) (name : Option ℕ) (w : Work) (f new : ℕ) (es : List Linked) (v : ℤ)
    → IsCalled c f s.top.left s.top.left s.top.slots way f es v new → length s.top.slots ≡ slots_of c.codes f → memo_of c.codes f ≡ false → HasRoomAbove s
    → GoesAhead (setting_with c tables [] records) (evaluated statement (entry_at tables s.top.slots (slots_of c.codes f) es) (nested_plain statement way name w f)) s
    (record s { layer = entering f (depth_limit - new) s.layer; top = bound name (Has v) (waiting false name w s.top); phase = Running })
found_goes c tables records s statement way name w f new es v called_so size memo room e =
    let S = setting_with c tables [] records in
    let args = begun_slots c tables records f s.top.left s.top.left s.top.slots way f es v new called_so size in
    let q = entry_at tables s.top.slots (slots_of c.codes f) es in
    let value : q ≡ pure args = begun_with c tables records f s.top.left s.top.left s.top.slots way f es v new called_so size in
    let k = deep f (min s.top.left (s.top.left - 1)) s.layer in
    let layer : k ≡ entering f (depth_limit - (s.top.left - 1)) s.layer = ap (λ (n : ℕ). deep f n s.layer) (min_less s.top.left) in
    let end = record s { layer = entering f (depth_limit - new) s.layer; top = bound name (Has v) (waiting false name w s.top); phase = Running } in
    let ahead : IsAhead S (nested_plain statement Call name w f args s) end =
    found_ahead S s name w f args room called_so.room v k (deep f new s.layer) (is_given c tables records f s.top.left s.top.left s.top.slots way f es v new called_so size s.layer) statement memo layer refl in
    let same : s ≡ noted q.notes s = sym (ap (λ (x : NumberedOut (List Slot)). noted x.notes s) value ∙ ap (λ (l : PlainLayer). record s { layer = l }) (noting_none s.layer)) in
    enter_ahead S statement q way name w f args s s end (ap (λ (x : NumberedOut (List Slot)). x.answer) value) same
    (subst (λ (u : Way). IsAhead S (nested_plain statement u name w f args s) end) (sym called_so.call) ahead) e

-- ---- a strand whose topmost instance has room above it

pub room_by : (s : PlainStrand) → ((path : List ℕ) → length s.path < length path → entry_by s.start path ≡ false) → ((n : ℕ) → length s.path + 1 ≤ n → is_own s.tally.opened n ≡ false) → HasRoomAbove s
room_by s begins owned = record {
  entry = λ n ns.
      let long : length (s.path ++ n ∷ ns) ≡ length s.path + length (n ∷ ns) = length-append s.path (n ∷ ns) in
      let longer : length s.path < length (s.path ++ n ∷ ns) = omega (arith, long) in
      begins (s.path ++ n ∷ ns) longer;
  own = λ n ns.
      let long : length (s.path ++ n ∷ ns) ≡ length s.path + length (n ∷ ns) = length-append s.path (n ∷ ns) in
      let longer : length s.path + 1 ≤ length (s.path ++ n ∷ ns) = omega (arith, long) in
      owned (length (s.path ++ n ∷ ns)) longer;
}

-- what is known of all instances above one is known of those above one that it calls
pub room_over : (number : ℕ) (s : PlainStrand) → HasRoomAbove s → (a : PlainActivation) (l : PlainLayer) (f : Phase) (below : List PlainActivation) → HasRoomAbove (record s { path = s.path ++ number ∷ []; top = a; layer = l; phase = f; below = below })
room_over number s room a l f below = record {
  entry = λ n ns. ap (entry_by s.start) (append_assoc s.path (number ∷ []) (n ∷ ns)) ∙ room.entry number (n ∷ ns);
  own = λ n ns. ap (λ xs. is_own s.tally.opened (length xs)) (append_assoc s.path (number ∷ []) (n ∷ ns)) ∙ room.own number (n ∷ ns);
}
