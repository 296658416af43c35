use Rattle.std.proofs.Common.{rules, ◌≡◌, ◌<◌, length, sym, subst}
use Rattle.std.specs.Vec.{vec_len}
use Rattle.std.proofs.lemmas.Result.{on_ok_weaker}
use Rattle.monoid_laws.specs.Kinds.{meaning}
use Rattle.gathered_records.proofs.Summed.{held_within, held_right, put_back}
use Rattle.gathered_records.proofs.sums.add_at.Goals as goal

pub index_mut-requires : goal.index_mut-requires
index_mut-requires c =
    let long : vec_len c.args.held.now ≡ length c.args.held.now.items = search rules in
    subst (λ n. c.args.reducer < n) (sym long) (held_within c.args.kinds.now c.args.held.now.items c.args.reducer c.requires.worths c.requires.there)

pub add_to-requires-clause-held : goal.add_to-requires-clause-held
add_to-requires-clause-held c =
    held_right c.args.kinds.now c.args.held.now.items c.args.reducer c.requires.worths c.requires.there c.index-kinds-reducer.result c.index_mut.result.now c.index-kinds-reducer.is c.index_mut.ensures.value

pub returns : goal.returns
returns c = record {
  added = λ k x p q.
      on_ok_weaker c.add_to.result
      (put_back c.args.kinds.now c.args.held.now.items c.args.reducer c.requires.worths c.requires.there c.index-kinds-reducer.result c.index_mut.result.now c.index-kinds-reducer.is c.index_mut.ensures.value
      c.add_to.new.held (meaning c.args.value.now) k x p q)
      c.add_to.ensures.added;
}
