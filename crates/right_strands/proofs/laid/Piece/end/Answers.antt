use Rattle.std.proofs.Common.{sym, subst}
use Rattle.right_strands.specs.Laid.{HasRecorded}
use Rattle.right_strands.proofs.Ends.{piece_ends}
use Rattle.right_strands.proofs.laid.Piece.end.Goals as goal

pub returns-clause-elision : goal.returns-clause-elision
returns-clause-elision g c =
    (piece_ends g.J.Run.setting c.upheld.ensures.sound c.upheld.ensures.ready c.upheld.ensures.numbered c.args.self.state c.args.self.strand c.into_strand-strand.result c.into_strand-strand.ensures.strand c.into_strand-strand.ensures.paused_so c.requires.ends c.into_strand-strand.ensures.right c.end_with_tally.result.0 c.end_with_tally.ensures.answer).elision

pub returns-clause-given : goal.returns-clause-given
returns-clause-given g c =
    (piece_ends g.J.Run.setting c.upheld.ensures.sound c.upheld.ensures.ready c.upheld.ensures.numbered c.args.self.state c.args.self.strand c.into_strand-strand.result c.into_strand-strand.ensures.strand c.into_strand-strand.ensures.paused_so c.requires.ends c.into_strand-strand.ensures.right c.end_with_tally.result.0 c.end_with_tally.ensures.answer).is_given

pub returns-clause-recorded : goal.returns-clause-recorded
returns-clause-recorded g c =
    subst (HasRecorded g.J.Run.setting c.end_with_tally.result.0) (sym c.end_with_tally.ensures.records)
    (piece_ends g.J.Run.setting c.upheld.ensures.sound c.upheld.ensures.ready c.upheld.ensures.numbered c.args.self.state c.args.self.strand c.into_strand-strand.result c.into_strand-strand.ensures.strand c.into_strand-strand.ensures.paused_so c.requires.ends c.into_strand-strand.ensures.right c.end_with_tally.result.0 c.end_with_tally.ensures.answer).recorded
