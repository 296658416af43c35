use Rattle.std.proofs.Common.{rules, ◌∙◌, refl, subst, sym}
use Rattle.asked_counts.specs.Counts.{AsksFor}
use Rattle.command_line.specs.Line.{AsksForViews}
use Rattle.command_line.specs.declared.options.OptionsError.TheVariants as refusal
use Rattle.command_line.proofs.Lines.{as_usage, handed_on}
use Rattle.command_line.proofs.line.options_given.Goals as goal

pub returns-in_err-workers-clause-refused : goal.returns-in_err-workers-clause-refused
returns-in_err-workers-clause-refused c =
    let read = c.get_str.ensures ∙ c.requires.given _ in
    let none = c.in_err-workers.ensures.refused in
    handed_on _ c.from_residual.result _ c.from_residual.ensures.1 c.requires.form
    (λ r line. none.1 r.workers (subst (λ t. AsksFor 1 16 t r.workers) (sym read) line.workers_are)) none.0

pub returns-in_err-kits-clause-refused : goal.returns-in_err-kits-clause-refused
returns-in_err-kits-clause-refused c =
    let read = c.get_str-2.ensures ∙ c.requires.given _ in
    let none = c.in_err-kits.ensures.refused in
    handed_on _ c.from_residual-in_err-kits.result _ c.from_residual-in_err-kits.ensures.1 c.requires.form
    (λ r line. none.1 r.kits (subst (λ t. AsksFor 64 4096 t r.kits) (sym read) line.kits_are)) none.0

pub returns-in_err-views-clause-refused : goal.returns-in_err-views-clause-refused
returns-in_err-views-clause-refused c =
    let read = c.get_str-3.ensures ∙ c.requires.given _ in
    let none = c.in_err-views.ensures.refused in
    handed_on _ c.from_residual-in_err-views.result _ c.from_residual-in_err-views.ensures.1 c.requires.form
    (λ r line. none.1 r.views (subst (λ t. AsksForViews t r.views) (sym read) line.views_are)) none.0

pub returns-in_default-clause-refused : goal.returns-in_default-clause-refused
returns-in_default-clause-refused c = as_usage _ refusal.Usage c.requires.form (search rules) refl
