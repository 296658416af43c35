use Rattle.std.proofs.Common.{refl}
use Rattle.rerun_records.proofs.Covering.{put_covers}
use Rattle.rerun_records.proofs.covers.put_in.Goals as goal

pub returns : goal.returns
returns c = record {
  held = λ list rest h is.
      put_covers (record { width = c.args.width; hulls = c.args.hulls.now.items }) (record { width = c.args.width; hulls = c.widen.new.hulls.items }) list c.args.place rest c.args.reads.now refl
      c.widen.ensures.fewer c.widen.ensures.held c.widen.ensures.kept h is;
}
