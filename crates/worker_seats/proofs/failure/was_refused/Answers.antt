use Rattle.std.proofs.Common.{◌≡◌, true, false, subst}
use Rattle.sync_fold.proofs.Refusals.{refused_for}
use Rattle.worker_seats.specs.Over.{is_refusal}
use Rattle.worker_seats.proofs.failure.was_refused.Goals as goal

pub returns : goal.returns
returns c = record {
  refused = λ e. refused_for c.args.refusal (λ n. let f : false ≡ true = subst (λ x. is_refusal x ≡ true) n e in cc) c.upheld.ensures.given;
}
