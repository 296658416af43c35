use Rattle.std.proofs.Common.{rules, ◌≡◌, ◌∙◌, [], ◌∷◌, true, List, Some, ap, sym, subst}
use Rattle.std.specs.Prelude.{slice_get, slice_set}
use Rattle.meaning.specs.Every.{every}
use Rattle.record_theory.specs.Record.{PlainRecord}
use Rattle.instance_records.specs.declared.spans.Span.{Span}
use Rattle.instance_records.specs.Spans.{is_covered_by}
use Rattle.rerun_records.specs.Covers.{AreKept, AreSameBut}
use Rattle.rerun_records.proofs.Covering.{set_same_but}
use Rattle.rerun_records.proofs.SameRows.{set_kept}
use Rattle.rerun_records.proofs.listing.replace_in.Goals as goal

pub returns-then-is_held-clause-put : goal.returns-then-is_held-clause-put
returns-then-is_held-clause-put c = ap (slice_set c.args.list.now.items c.args.place) c.replace-old.ensures.after

pub returns-clause-put : goal.returns-clause-put
returns-clause-put c = ap (slice_set c.args.list.now.items c.args.place) c.replace-old.ensures.after

pub returns-then-is_held-clause-covered : goal.returns-then-is_held-clause-covered
returns-then-is_held-clause-covered c kept =
    let records = c.args.list.now.items in
    let rows : (old : PlainRecord) → slice_get records c.args.place ≡ Some old → (h : List Span) → every (is_covered_by h) old.reads ≡ true → every (is_covered_by h) c.args.made.reads ≡ true =
    λ old at. c.has_rows_of-is_held.ensures.has (search rules) old (c.record_at.ensures.at ∙ ap (λ (rs : List PlainRecord). slice_get rs c.args.place) c.deref.ensures.value ∙ at) in
    subst (λ (r : PlainRecord). AreKept (slice_set records c.args.place r) c.args.covers.now) (sym c.replace-old.ensures.after)
    (set_kept records c.args.place c.args.made rows c.args.covers.now kept)

pub returns-clause-covered : goal.returns-clause-covered
returns-clause-covered c kept =
    let records = c.args.list.now.items in
    subst (λ rs. AreKept rs c.put_in.new.self) c.deref-2.ensures.value
    (c.put_in.ensures.held records kept
    (subst (AreSameBut (c.args.place ∷ []) records) (sym c.deref-2.ensures.value)
    (subst (λ (r : PlainRecord). AreSameBut (c.args.place ∷ []) records (slice_set records c.args.place r)) (sym c.replace-old.ensures.after)
    (set_same_but records c.args.place c.args.made))))
