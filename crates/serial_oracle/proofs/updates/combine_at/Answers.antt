use Rattle.std.proofs.Common.{sym, ap, ◌∙◌, subst, arith}
use Rattle.monoid_laws.specs.Kinds.{meaning, operate, IsWorth}
use Rattle.serial_oracle.proofs.Noted.{on_ok, within, value_at, combined_in, kept_in}
use Rattle.serial_oracle.proofs.updates.combine_at.Goals as goal

pub bounds-rights-i : goal.bounds-rights-i
bounds-rights-i c = within c.args.kinds.now c.args.rights.now c.args.i c.requires.rights_of_kinds c.requires.within

pub index_mut-requires : goal.index_mut-requires
index_mut-requires c = omega (arith, within c.args.kinds.now c.args.values.now.items c.args.i c.requires.of_kinds c.requires.within, c.args.values.now.ok.0)

pub combine_into-requires : goal.combine_into-requires
combine_into-requires c = record {
  left_of_kind = value_at c.args.kinds.now c.args.values.now.items c.args.i c.index-kinds-i.result c.index_mut.result.now c.requires.of_kinds c.requires.within c.index-kinds-i.is c.index_mut.ensures.value;
  right_of_kind = subst (λ w. IsWorth c.index-kinds-i.result w) (sym c.in_ok-right.ensures) (value_at c.args.kinds.now c.args.rights.now c.args.i c.index-kinds-i.result c.index-rights-i.result c.requires.rights_of_kinds c.requires.within c.index-kinds-i.is c.index-rights-i.is);
}

pub returns-clause-combined : goal.returns-clause-combined
returns-clause-combined c =
    on_ok c.combine_into.result _ _
    (λ m. combined_in c.args.kinds.now c.args.values.now.items c.args.rights.now c.args.i c.index-kinds-i.result c.index_mut.result.now c.combine_into.new.left c.index-rights-i.result c.requires.of_kinds c.requires.rights_of_kinds c.requires.within c.index-kinds-i.is c.index_mut.ensures.value c.index-rights-i.is (m ∙ ap (operate c.index-kinds-i.result (meaning c.index_mut.result.now)) c.in_ok-right.ensures))
    c.combine_into.ensures.combined

pub returns-clause-worths : goal.returns-clause-worths
returns-clause-worths c =
    on_ok c.combine_into.result _ _ (kept_in c.args.kinds.now c.args.values.now.items c.args.i c.index-kinds-i.result c.combine_into.new.left c.requires.of_kinds c.requires.within c.index-kinds-i.is) c.combine_into.ensures.of_kind
