use Rattle.std.proofs.Common.{rules, ◌≡◌, ◌++◌, ◌∷◌, ◌∙◌, List, [], ap, reverse, subst, sym}
use Rattle.record_theory.specs.Named.{HaveValues, AreValuesFrom}
use Rattle.record_theory.specs.Record.{PlainRecord}
use Rattle.positions.specs.Tallies.{PlainTally, record_by}
use Rattle.list_pieces.specs.Pieces.{items_in}
use Rattle.layers.proofs.Touches.{one_more_values, closed_tally}
use Rattle.layers.proofs.tally.Tally.close_any.Goals as goal

pub returns-then-is_err-clause-values : goal.returns-then-is_err-clause-values
returns-then-is_err-clause-values g c = λ h. subst (HaveValues c.args.top.now.kinds) (sym c.make_room.ensures.items)
    (subst (λ (t : PlainTally). HaveValues c.args.top.now.kinds t.made) (sym c.self.view_is) h)

pub returns-in-None-clause-values : goal.returns-in-None-clause-values
returns-in-None-clause-values g c = λ h. subst (HaveValues c.args.top.now.kinds) (sym c.make_room.ensures.items)
    (subst (λ (t : PlainTally). HaveValues c.args.top.now.kinds t.made) (sym c.self.view_is) h)

pub returns-in-Some-clause-closed : goal.returns-in-Some-clause-closed
returns-in-Some-clause-closed g c =
    let more : items_in c.push.new.self ≡ items_in c.self.inside.made ++ c.record.result ∷ [] = c.push.ensures.items ∙ ap (λ rs. rs ++ c.record.result ∷ []) c.make_room.ensures.items in
    let last : c.self.inside.opened.items ≡ c.pop.new.self.items ++ c.in-Some.opened ∷ [] = search rules in
    let made : c.record.result ≡ record_by c.args.program.now.revisions c.in-Some.opened c.args.top.now c.args.value = search rules in
    ap (λ (rs : List PlainRecord). record { opened = reverse c.pop.new.self.items; made = rs; executed = c.self.inside.executed; reused = c.self.inside.reused; unrecorded = c.self.inside.unrecorded }) more
    ∙ closed_tally c.args.program.now.revisions c.args.top.now c.args.value c.args.self.now c.self.inside.opened.items c.pop.new.self.items c.in-Some.opened
    (items_in c.self.inside.made) c.record.result c.self.inside.executed c.self.inside.reused c.self.inside.unrecorded c.self.view_is last made

pub returns-in-Some-clause-values : goal.returns-in-Some-clause-values
returns-in-Some-clause-values g c = λ h.
    let before : HaveValues c.args.top.now.kinds (items_in c.self.inside.made) = subst (λ (t : PlainTally). HaveValues c.args.top.now.kinds t.made) (sym c.self.view_is) h in
    let more : items_in c.push.new.self ≡ items_in c.self.inside.made ++ c.record.result ∷ [] = c.push.ensures.items ∙ ap (λ rs. rs ++ c.record.result ∷ []) c.make_room.ensures.items in
    let same : c.record.result.contribution ≡ c.in_ok-recording.recording.contribution = ap (λ (r : PlainRecord). r.contribution) c.record.ensures.record in
    one_more_values c.args.top.now.kinds (items_in c.self.inside.made) (items_in c.push.new.self) c.record.result more
    (subst (AreValuesFrom 0 c.args.top.now.kinds) (sym same) c.in_ok-recording.ensures.values) before
