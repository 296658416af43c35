use Rattle.std.proofs.Common.{List, map, sym}
use Rattle.evaluation.specs.declared.note.Note.{Note}
use Rattle.evaluation.specs.Short.{note_of}
use Rattle.rerun_records.specs.Settled.{HasNoSums, AreReadIn}
use Rattle.rerun_records.proofs.settling.counts_in.Goals as goal

pub returns : goal.returns
returns c =
    let reads : List Note = c.args.reads.now in
    let none : HasNoSums reads = c.may_have_sums.ensures.none c.if-may_have_sums.false in
    let within : AreReadIn (map note_of c.args.settled.cells.now) reads = λ note e. c.requires.within note (c.have_near.ensures.have c.if-not-have_near.false note e) in
    record {
      more = sym (c.requires.more.many reads none c.requires.once within);
      fewer = sym (c.requires.fewer.many reads none c.requires.once within);
      few = c.requires.more.few;
    }
