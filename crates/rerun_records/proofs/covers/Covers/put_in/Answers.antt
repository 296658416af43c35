use Rattle.std.proofs.Common.{ℕ, List, [], ◌∷◌, ◌++◌, subst, sym}
use Rattle.rerun_records.specs.Covers.{PlainCovers, PlainLevel, AreCoveredBut, AreLevelsBut}
use Rattle.rerun_records.specs.Skips.{PassBut}
use Rattle.rerun_records.proofs.Passing.{noted_late, late_too}
use Rattle.rerun_records.proofs.covers.Covers.put_in.Goals as goal

pub returns-then-len-capacity : goal.returns-then-len-capacity
returns-then-len-capacity c =
    let list = c.args.list.now in
    let place = c.args.place in
    let levels : List PlainLevel =
    record { width = 32768; hulls = c.self.inside.wide.items } ∷ record { width = 1024; hulls = c.self.inside.middle.items } ∷ record { width = 32; hulls = c.self.inside.narrow.items } ∷ [] in
    record {
      held = λ before h same.
          let noted = subst (λ (cs : PlainCovers). AreCoveredBut (cs.late ++ place ∷ []) list cs) (sym c.self.view_is) (noted_late place before list c.args.self.now same h) in
          subst (λ (ps : List ℕ). AreLevelsBut ps list levels × PassBut ps list c.self.inside.skips) (sym c.push_reserved.ensures.items) noted;
    }

pub returns-else-len-capacity : goal.returns-else-len-capacity
returns-else-len-capacity c =
    let list = c.args.list.now in
    record {
      held = λ before h same.
          subst (λ (ps : List ℕ). AreCoveredBut ps list c.hold.new.self) (sym c.hold.ensures.same) (c.hold.ensures.held c.args.self.now.late (late_too c.args.place before list c.args.self.now same h));
    }
