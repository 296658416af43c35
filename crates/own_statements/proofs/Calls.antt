-- A call of an instance that stands beside the strand: the callee comes back, or stays under those that it has called.
use Rattle.std.proofs.Common.{◌≡◌, ◌∙◌, ◌++◌, ◌∷◌, [], ◌+◌, ◌-◌, ◌≤◌, ◌==◌, ℕ, suc, ℤ, Bool, true, false, List, Option, Some, None, length, map, min, if◌then◌else◌, refl, sym, ap, subst, arith, append_assoc}
use Rattle.std.specs.Prelude.{Vec}
use Rattle.std.specs.declared.alloc.Global.{Global}
use Rattle.meaning.specs.declared.tree.Way.{Way}
use Rattle.meaning.specs.declared.tree.Way.TheVariants.{Call}
use Rattle.meaning.specs.declared.FaultKind.TheVariants.{TooDeep}
use Rattle.meaning.specs.Elision.{depth_limit}
use Rattle.meaning.specs.Tables.{Tables}
use Rattle.linked_program.specs.Checked.{PlainChecked}
use Rattle.record_theory.specs.Record.{PlainRecord}
use Rattle.linked_program.specs.declared.code.Expression.{Expression}
use Rattle.linked_program.specs.declared.code.Instruction.{Instruction}
use Rattle.linked_program.specs.declared.code.Operation.TheVariants as o
use Rattle.linked_program.specs.CodeView.{expression, memo_of, slots_of}
use Rattle.evaluation.specs.declared.slot.Slot.{Slot}
use Rattle.evaluation.specs.declared.slot.Slot.TheVariants.{Has}
use Rattle.evaluation.specs.Values.{NumberedOut, entry_at, pure}
use Rattle.positions.specs.declared.phase.Phase.TheVariants.{Running, Returning, Leaving, Entering}
use Rattle.positions.specs.declared.work.Position.{Position}
use Rattle.positions.specs.declared.work.Work.TheVariants.{Block}
use Rattle.positions.specs.Activations.{PlainActivation, at, bound, waiting, next_of, first_of, made}
use Rattle.positions.specs.Code.{instruction_inside}
use Rattle.positions.specs.Layers.{PlainLayer, entering, noting}
use Rattle.positions.specs.Setting.{Setting, setting_with}
use Rattle.positions.specs.Strands.{PlainStrand, entry_by, is_entry}
use Rattle.positions.specs.Tallies.{is_own}
use Rattle.positions.specs.Advance.{performed, gone_by, called, called_as, started_as, evaluated, answered, noted, pushed, child_of, faulted, closed, owns_top, in_phase}
use Rattle.own_statements.specs.Paths.{ComesTo, HasRoomAbove, IsNext, IsPath, MayPass, StopsBy, here, on, stacked, topped}
use Rattle.own_statements.specs.Fills.{Fills}
use Rattle.own_statements.specs.Recursion.{Gives, IsCalled, deep}
use Rattle.own_statements.proofs.OwnCalls.{begun_slots, begun_with, is_given, noting_none, path_back}
use Rattle.own_statements.proofs.Paths.{path_join}

module _ (setting : Setting) (p : Position) (a : PlainActivation) (l : PlainLayer) (i : Instruction) (into : Option ℕ) (way : Way) (f : ℕ) (es : Vec Expression Global) (slots : List Slot) (k : PlainLayer) where
  abbrev pub calling : PlainStrand → PlainStrand
  calling s = topped Running (at (Block p) a) l s

  -- the callee, what it begins over, and the one that waits for it
  abbrev pub callee : PlainActivation
  callee = made f slots (Block (first_of 0)) (a.left - 1)

  abbrev pub over : PlainLayer
  over = entering f (depth_limit - (a.left - 1)) k

  abbrev pub waits : PlainActivation
  waits = waiting false into (Block (next_of p)) a

  abbrev pub under_child : PlainStrand → PlainStrand
  under_child s = record s { path = s.path ++ (a.children + 1) ∷ []; below = waits ∷ s.below }

  abbrev pub entered : PlainStrand → PlainStrand
  entered s = topped Running callee over (under_child s)

  -- what is known of all instances above the caller is known of those above the callee
  room_then : (s : PlainStrand) → HasRoomAbove s → HasRoomAbove (under_child s)
  room_then s room = record {
    entry = λ n ns. ap (entry_by s.start) (append_assoc s.path ((a.children + 1) ∷ []) (n ∷ ns)) ∙ room.entry (a.children + 1) (n ∷ ns);
    own = λ n ns. ap (λ xs. is_own s.tally.opened (length xs)) (append_assoc s.path ((a.children + 1) ∷ []) (n ∷ ns)) ∙ room.own (a.children + 1) (n ∷ ns);
  }

  pub may_then : (s : PlainStrand) → MayPass true s → MayPass true (under_child s)
  may_then s may = λ _. ((may refl).1.entry (a.children + 1) [], room_then s (may refl).1)

  module _ (deep : (a.left == 0) ≡ false) (memo : memo_of setting.codes f ≡ false) (filled : Fills (entry_at setting.tables a.slots (slots_of setting.codes f) (map expression es.items)) slots l k)
      (call : way ≡ Call) (is : i.operation ≡ o.Enter into way f es) (found : Some i ≡ instruction_inside setting.codes a.procedure (length a.outer) p) where
    entered_by : (kit : Bool) (s : PlainStrand) → entered s ≡ called setting kit i.number Call into (Block (next_of p)) f (map expression es.items) a.slots (calling s)
    entered_by kit s =
        let q = entry_at setting.tables a.slots (slots_of setting.codes f) (map expression es.items) in
        let next = λ (b : Bool) (xs : List Slot) (z : PlainStrand). if z.top.left == 0 then faulted i.number TooDeep z else started_as setting kit b (pushed (child_of f xs z) false into (Block (next_of p)) Entering z) in
        let there : PlainStrand = topped Running (at (Block p) a) k s in
        sym (ap (λ (b : Bool). if b then faulted i.number TooDeep there else started_as setting kit false (pushed (child_of f slots there) false into (Block (next_of p)) Entering there)) deep)
        ∙ ap (λ (m : PlainLayer). next false slots (topped Running (at (Block p) a) m s)) filled.1
        ∙ sym (ap (λ r. answered i.number r (next false) (noted q.notes (calling s))) filled.0)
        ∙ sym (ap (λ b. evaluated i.number q (next b) (calling s)) memo)
        ∙ sym (ap (λ b. called_as setting kit b i.number Call into (Block (next_of p)) f (map expression es.items) a.slots (calling s)) memo)

    pub enters : (s : PlainStrand) → IsPath setting (calling s) (entered s)
    enters s =
        on (calling s) (entered s) here
        (λ kit. entered_by kit s ∙ sym (ap (λ w. called setting kit i.number w into (Block (next_of p)) f (map expression es.items) a.slots (calling s)) call)
        ∙ sym (ap (λ x. performed setting kit p i.number x (calling s)) is) ∙ ap (λ x. gone_by setting kit p x (calling s)) found)

    -- the callee stays
    pub call_stays : (m : ℕ) (b : PlainActivation) (ys : List PlainActivation) (u : PlainLayer) → StopsBy setting true callee over m b ys u → StopsBy setting true (at (Block p) a) l (suc m) waits (b ∷ ys) u
    call_stays m b ys u stop =
        let few : m ≤ length ys = stop.0 in
        (omega (arith, few), λ s may. path_join setting (calling s) (entered s) (stacked m b ys u (under_child s)) (enters s) (stop.1 (under_child s) (may_then s may)))

    -- the callee comes back
    module _ (v : ℤ) (b : PlainActivation) (u : PlainLayer) where
      abbrev pub back : PlainStrand → PlainStrand
      back s = topped Running (bound into (Has v) waits) u s

      abbrev returned : PlainStrand → PlainStrand
      returned s = topped (Returning v) b u (under_child s)

      leaving : (s : PlainStrand) → HasRoomAbove s → IsNext setting (returned s) (topped (Leaving v) b u (under_child s))
      leaving s room kit =
          sym (ap (λ c. if c then returned s else if owns_top (returned s) then closed setting v (returned s) else in_phase (Leaving v) (returned s)) (room.entry (a.children + 1) [])
          ∙ ap (λ c. if c then closed setting v (returned s) else in_phase (Leaving v) (returned s)) (room.own (a.children + 1) []))

      left_then : (s : PlainStrand) → IsNext setting (topped (Leaving v) b u (under_child s)) (back s)
      left_then s kit = ap (λ xs. record (back s) { path = xs }) (sym (path_back s.path (a.children + 1)))

      pub call_returns : ComesTo setting true callee over (Some v) b u → ComesTo setting true (at (Block p) a) l None (at (Block (next_of p)) (bound into (Has v) waits)) u
      call_returns come s may =
          path_join setting (calling s) (entered s) (back s) (enters s)
          (on (topped (Leaving v) b u (under_child s)) (back s) (on (returned s) (topped (Leaving v) b u (under_child s)) (come (under_child s) (may_then s may)) (leaving s (may refl).1)) (left_then s))

-- ---- a call of the caller's own procedure whose value is found without an instance

min_less : (n : ℕ) → min n (n - 1) ≡ n - 1
min_less n = omega arith

module _ (c : PlainChecked) (tables : Tables) (records : List PlainRecord) (p : Position) (a : PlainActivation) (l : PlainLayer) (i : Instruction) (into : Option ℕ) (way : Way) (f : ℕ) (es : Vec Expression Global) (v : ℤ) (new : ℕ)
    (own : IsCalled c f a.left a.left a.slots way f (map expression es.items) v new) (size : length a.slots ≡ slots_of c.codes f) (memo : memo_of c.codes f ≡ false)
    (is : i.operation ≡ o.Enter into way f es) (found : Some i ≡ instruction_inside c.codes a.procedure (length a.outer) p) where
  abbrev args : List Slot
  args = begun_slots c tables records f a.left a.left a.slots way f (map expression es.items) v new own size

  abbrev pub over_these : Setting
  over_these = setting_with c tables [] records

  nothing_noted : Fills (entry_at tables a.slots (slots_of c.codes f) (map expression es.items)) args l l
  nothing_noted =
      let value : entry_at tables a.slots (slots_of c.codes f) (map expression es.items) ≡ pure args = begun_with c tables records f a.left a.left a.slots way f (map expression es.items) v new own size in
      (ap (λ (q : NumberedOut (List Slot)). q.answer) value, sym (ap (λ (q : NumberedOut (List Slot)). noting q.notes l) value ∙ noting_none l))

  pub own_returns : ComesTo over_these true (at (Block p) a) l None (at (Block (next_of p)) (bound into (Has v) (waiting false into (Block (next_of p)) a))) (deep f new l)
  own_returns =
      let gives : Gives over_these (made f args (Block (first_of 0)) (a.left - 1)) (deep f (min a.left (a.left - 1)) l) v (deep f new l) =
      is_given c tables records f a.left a.left a.slots way f (map expression es.items) v new own size l in
      let begins : deep f (min a.left (a.left - 1)) l ≡ entering f (depth_limit - (a.left - 1)) l = ap (λ n. deep f n l) (min_less a.left) in
      let come : ComesTo over_these true (made f args (Block (first_of 0)) (a.left - 1)) (entering f (depth_limit - (a.left - 1)) l) (Some v) gives.last (deep f new l) =
      subst (λ (k : PlainLayer). ComesTo over_these true (made f args (Block (first_of 0)) (a.left - 1)) k (Some v) gives.last (deep f new l)) begins gives.way in
      call_returns over_these p a l i into way f es args l own.room memo nothing_noted own.call is found v gives.last (deep f new l) come
