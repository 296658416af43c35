use Rattle.std.proofs.Common.{◌≡◌, map, sym, ◌∙◌, length, arith, ap}
use Rattle.monoid_laws.specs.Kinds.{meaning}
use Rattle.serial_oracle.specs.Worths.{combined_from}
use Rattle.serial_oracle.proofs.Noted.{combined_end}
use Rattle.serial_oracle.proofs.updates.combine_all.Goals as goal

pub returns-clause-combined : goal.returns-clause-combined
returns-clause-combined c =
    let e : c.loop-i.i ≡ length c.args.kinds.now = omega (arith, c.loop-i-test.false, c.loop-i.auto.i-end) in
    sym (combined_end c.args.kinds.now (map meaning c.loop-i.values.items) (map meaning c.args.rights.now) c.loop-i.invariant.of_kinds c.requires.rights_of_kinds)
    ∙ ap (λ n. combined_from n c.args.kinds.now (map meaning c.loop-i.values.items) (map meaning c.args.rights.now)) (sym e)
    ∙ c.loop-i.invariant.so_far
