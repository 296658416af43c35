use Rattle.std.proofs.Common.{◌≡◌, ◌∙◌, ap₂, subst}
use Rattle.std.specs.Prelude.{IfOk}
use Rattle.std.proofs.lemmas.Result.{IfOk-weaker}
use Rattle.clap.specs.Words.{app_of, with_rule}
use Rattle.command_line.proofs.line.with.Goals as goal

pub returns-in-Ok : goal.returns-in-Ok
returns-in-Ok c = λ form rule is so_far.
    let given = subst (λ r. IfOk r (λ command. app_of command ≡ form)) c.in-Ok.is so_far in
    IfOk-weaker c.arg.result _ _ (λ command h. h.shape c.requires ∙ ap₂ with_rule given is) c.arg.ensures
