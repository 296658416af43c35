use Rattle.std.proofs.Common.{rules, ◌≡◌, ◌∷◌, ◌==◌, suc, true, List, pos, reverse, refl, sym, ap, ◌∙◌, subst}
use Rattle.positions.specs.declared.phase.Phase.{Phase}
use Rattle.positions.specs.declared.phase.Phase.TheVariants.{Returning, Running}
use Rattle.positions.specs.Activations.{PlainActivation}
use Rattle.positions.specs.Strands.{PlainStrand}
use Rattle.positions.specs.Advance.{in_phase}
use Rattle.activations.specs.Given.{lent}
use Rattle.own_statements.specs.Paths.{HasRoomAbove, stacked, topped}
use Rattle.running_ahead.specs.Chains.{under}
use Rattle.running_ahead.specs.Ahead.{IsAhead}
use Rattle.running_ahead.proofs.Paths.{same_parts, loop_over, turned_next}
use Rattle.running_ahead.proofs.ahead.turns_ahead.Goals as goal

pub returns-then-share-eq0 : goal.returns-then-share-eq0
returns-then-share-eq0 g c =
    let S = lent c.args.setting in
    let s = c.args.machine.now in
    let inside : PlainStrand = record { start = c.machine.inside.start; layer = c.machine.inside.layer; lower = reverse c.machine.inside.lower.items; path = c.machine.inside.path.items; top = c.machine.inside.top; below = reverse c.machine.inside.below.items; phase = c.machine.inside.phase; arguments = c.machine.inside.arguments.items; tally = c.machine.inside.tally } in
    let none : (c.args.share.count == 0) ≡ true = search rules in
    record {
      ahead = loop_over S c.args.site c.args.share s (in_phase (Returning (pos 0)) inside) none (ap (in_phase (Returning (pos 0))) c.machine.view_is)
          (λ kit. turned_next S kit c.args.site c.args.share s c.requires.running c.requires.there);
    }

pub returns-in-Back : goal.returns-in-Back
returns-in-Back g c =
    let S = lent c.args.setting in
    let s : PlainStrand = record { start = c.machine.inside.start; layer = c.machine.inside.layer; lower = reverse c.machine.inside.lower.items; path = c.machine.inside.path.items; top = c.machine.inside.top; below = reverse c.machine.inside.below.items; phase = c.machine.inside.phase; arguments = c.machine.inside.arguments.items; tally = c.machine.inside.tally } in
    let phase : s.phase ≡ Running = ap (λ (z : PlainStrand). z.phase) c.machine.view_is ∙ c.requires.running in
    let leads = λ (t z : PlainStrand). IsAhead S z t in
    let begins : topped Running s.top s.layer s ≡ s = ap (λ (f : Phase). in_phase f s) (sym phase) in
    let home : HasRoomAbove s = subst HasRoomAbove (sym c.machine.view_is) (c.if-not-has_room_above.ensures.room refl) in
    let path : c.reserve.new.self.items ≡ s.path = search rules in
    let items : c.reserve-else-is_err.new.self.items ≡ c.machine.inside.below.items = search rules in
    let below : reverse c.reserve-else-is_err.new.self.items ≡ s.below = ap (λ (xs : List PlainActivation). reverse xs) items in
    let ends = same_parts s c.turns.new.layer _ _ _ _ _ _ _ _ path refl below phase in
    record {
      ahead = subst (leads _) (begins ∙ c.machine.view_is)
          (subst (λ (z : PlainStrand). IsAhead S (topped Running s.top s.layer s) z) (sym ends) (c.in-Back.ensures.came s home));
    }

pub returns-in-Nowhere : goal.returns-in-Nowhere
returns-in-Nowhere g c =
    let S = lent c.args.setting in
    let s : PlainStrand = record { start = c.machine.inside.start; layer = c.machine.inside.layer; lower = reverse c.machine.inside.lower.items; path = c.machine.inside.path.items; top = c.machine.inside.top; below = reverse c.machine.inside.below.items; phase = c.machine.inside.phase; arguments = c.machine.inside.arguments.items; tally = c.machine.inside.tally } in
    let phase : s.phase ≡ Running = ap (λ (z : PlainStrand). z.phase) c.machine.view_is ∙ c.requires.running in
    let leads = λ (t z : PlainStrand). IsAhead S z t in
    let begins : topped Running s.top s.layer s ≡ s = ap (λ (f : Phase). in_phase f s) (sym phase) in
    let home : HasRoomAbove s = subst HasRoomAbove (sym c.machine.view_is) (c.if-not-has_room_above.ensures.room refl) in
    let path : c.reserve.new.self.items ≡ s.path = search rules in
    let items : c.reserve-else-is_err.new.self.items ≡ c.machine.inside.below.items = search rules in
    let below : reverse c.reserve-else-is_err.new.self.items ≡ s.below = ap (λ (xs : List PlainActivation). reverse xs) items in
    let ends = same_parts s c.turns.new.layer _ _ _ _ _ _ _ _ path refl below phase in
    record {
      ahead = subst (leads _) (begins ∙ c.machine.view_is)
          (subst (λ (z : PlainStrand). IsAhead S (topped Running s.top s.layer s) z) (sym ends) (c.in-Nowhere.ensures.came s home));
    }

pub returns-in-Stays : goal.returns-in-Stays
returns-in-Stays g c =
    let S = lent c.args.setting in
    let s : PlainStrand = record { start = c.machine.inside.start; layer = c.machine.inside.layer; lower = reverse c.machine.inside.lower.items; path = c.machine.inside.path.items; top = c.machine.inside.top; below = reverse c.machine.inside.below.items; phase = c.machine.inside.phase; arguments = c.machine.inside.arguments.items; tally = c.machine.inside.tally } in
    let phase : s.phase ≡ Running = ap (λ (z : PlainStrand). z.phase) c.machine.view_is ∙ c.requires.running in
    let leads = λ (t z : PlainStrand). IsAhead S z t in
    let begins : topped Running s.top s.layer s ≡ s = ap (λ (f : Phase). in_phase f s) (sym phase) in
    let home : HasRoomAbove s = subst HasRoomAbove (sym c.machine.view_is) (c.if-not-has_room_above.ensures.room refl) in
    let more = c.in-Stays.more in
    let xs : List PlainActivation = c.turns.new.nest.child ∷ c.turns.new.nest.above.items in
    let path : s.path ≡ c.reserve.new.self.items = search rules in
    let items : c.machine.inside.below.items ≡ c.reserve-else-is_err.new.self.items = search rules in
    let below : s.below ≡ reverse c.reserve-else-is_err.new.self.items = ap (λ (xs : List PlainActivation). reverse xs) items in
    let stacks : stacked (suc more) c.turns.new.top xs c.turns.new.layer s ≡ topped Running c.put_on_top.new.top c.turns.new.layer (under c.put_on_top.new.path.items (reverse c.put_on_top.new.below.items) s) =
    c.put_on_top.ensures.stacked c.turns.new.layer s path below in
    let ends : topped s.phase c.put_on_top.new.top c.turns.new.layer (under c.put_on_top.new.path.items (reverse c.put_on_top.new.below.items) s) ≡ stacked (suc more) c.turns.new.top xs c.turns.new.layer s =
    ap (λ (f : Phase). topped f c.put_on_top.new.top c.turns.new.layer (under c.put_on_top.new.path.items (reverse c.put_on_top.new.below.items) s)) phase ∙ sym stacks in
    record {
      ahead = subst (leads _) (begins ∙ c.machine.view_is)
          (subst (λ (z : PlainStrand). IsAhead S (topped Running s.top s.layer s) z) (sym ends) (c.in-Stays.ensures.came s home));
    }
