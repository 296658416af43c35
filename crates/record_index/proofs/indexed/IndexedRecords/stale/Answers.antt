use Rattle.std.proofs.Common.{◌≡◌, ◌<◌, ◌∙◌, List, Some, None, map, length, sym, ap, subst}
use Rattle.std.specs.Prelude.{slice_get}
use Rattle.std.specs.List.{find}
use Rattle.meaning.specs.Tables.{index_of}
use Rattle.meaning.specs.Tree.{Name}
use Rattle.linked_program.specs.Checked.{names_in}
use Rattle.record_theory.specs.Record.{is_of, as_made}
use Rattle.record_theory.specs.Commits.{AreSingle}
use Rattle.record_index.specs.Indexed.{PlainIndexed}
use Rattle.record_index.proofs.Asking.{stale_there, stale_none, stale_untold}
use Rattle.record_index.proofs.indexed.IndexedRecords.stale.Goals as goal

pub returns-in-Some-place_of : goal.returns-in-Some-place_of
returns-in-Some-place_of c =
    let x = c.args.self.now in
    let name = c.args.key.now.0 in
    let n = c.in-Some.procedure in
    let found = c.in-Some-place_of.ensures in
    let single : AreSingle x.records = subst (λ (s : PlainIndexed). AreSingle s.records) c.self.view_is c.single.ensures.single in
    let told : n < length x.told = subst (λ (s : PlainIndexed). n < length s.told) c.self.view_is c.in-Some.ensures.there in
    let first : n ≡ index_of (names_in x.told) name = c.in-Some.ensures.first ∙ ap (index_of (names_in c.self.inside.told)) c.procedure.ensures.procedure ∙ ap (λ (s : PlainIndexed). index_of (names_in s.told) name) c.self.view_is in
    let there : slice_get (map as_made x.records) c.in-Some-place_of.place ≡ Some c.in-Some-place_of.record.now =
    ap (λ (s : PlainIndexed). slice_get (map as_made s.records) c.in-Some-place_of.place) (sym c.self.view_is) ∙ found.there in
    record {
      stale = λ program tables indexed listed.
          stale_there program tables x name c.args.key.now.1 indexed listed n c.in-Some-place_of.place c.in-Some-place_of.record.now c.stale_at.result single told first there found.procedure
          (found.arguments ∙ c.arguments.ensures.arguments) c.stale_at.ensures.number;
    }

pub returns-in-None-place_of : goal.returns-in-None-place_of
returns-in-None-place_of c =
    let x = c.args.self.now in
    let name = c.args.key.now.0 in
    let n = c.in-Some.procedure in
    let told : n < length x.told = subst (λ (s : PlainIndexed). n < length s.told) c.self.view_is c.in-Some.ensures.there in
    let first : n ≡ index_of (names_in x.told) name = c.in-Some.ensures.first ∙ ap (index_of (names_in c.self.inside.told)) c.procedure.ensures.procedure ∙ ap (λ (s : PlainIndexed). index_of (names_in s.told) name) c.self.view_is in
    let none : find (is_of n c.args.key.now.1) x.records ≡ None =
    ap (λ (s : PlainIndexed). find (is_of n c.args.key.now.1) s.records) (sym c.self.view_is) ∙ ap (λ (xs : List _). find (is_of n xs) c.self.inside.records) (sym c.arguments.ensures.arguments) ∙ c.in-None-place_of.ensures.none in
    record { stale = λ program tables indexed listed. stale_none program tables x name c.args.key.now.1 indexed listed n told first none }

pub returns-in-None : goal.returns-in-None
returns-in-None c =
    let x = c.args.self.now in
    let name = c.args.key.now.0 in
    let untold : index_of (names_in x.told) name ≡ length x.told =
    ap (λ (f : Name). index_of (names_in x.told) f) (sym c.procedure.ensures.procedure)
    ∙ subst (λ (s : PlainIndexed). index_of (names_in s.told) c.procedure.result.now ≡ length s.told) c.self.view_is c.in-None.ensures.none in
    record { stale = λ program tables indexed listed. stale_untold program tables x name c.args.key.now.1 indexed listed untold }
