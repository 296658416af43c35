use Rattle.reuse_planner.proofs.Ending.{led_of, begun_of}
use Rattle.reuse_planner.proofs.running.run_on.Goals as goal

pub returns-in-Ok-clause-led : goal.returns-in-Ok-clause-led
returns-in-Ok-clause-led g c =
    led_of c.args.checked.now c.args.tables.now c.args.records.now c.args.pool c.args.workers c.in-Ok.core c.in-Ok.ensures.started c.args.steps.now c.go.result.inlined c.go.result.answer
    c.in-Ok.ensures.beginning c.go.ensures.led c.requires.sound

pub returns-in-Ok-clause-begun : goal.returns-in-Ok-clause-begun
returns-in-Ok-clause-begun g c =
    begun_of c.args.checked.now c.args.tables.now c.args.records.now c.args.pool c.args.workers c.in-Ok.core c.in-Ok.ensures.started c.args.steps.now c.go.result.inlined c.go.result.answer
    c.in-Ok.ensures.beginning c.go.ensures.led c.requires.sound
