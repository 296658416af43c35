-- The edit of the definitions, at a checked program.
use Rattle.std.proofs.Common.{◌≡◌, ℕ, ◌≤◌, nat_lt, Bool, false, List, [], Option, Some, None, map, Result, Ok, Err, option_map, sym, ap, subst, ◌∙◌}
use Rattle.std.proofs.lemmas.Bool.{le-ltb}
use Rattle.std.specs.Prelude.{string_bytes}
use Rattle.meaning.specs.Tree.{Name, Red, Tree}
use Rattle.meaning.specs.declared.tree.Program.{Program}
use Rattle.meaning.specs.TreeView.{tree, lines, Lined}
use Rattle.meaning.specs.Records.{Revised}
use Rattle.meaning.specs.Statements.{reducers}
use Rattle.meaning.specs.Edits.{most, revised, unless, with_program, checked_as, defined_as, Exhausted, after_define}
use Rattle.meaning.specs.Edits as edits
use Rattle.linked_program.specs.declared.violation.Rule.{Rule}
use Rattle.linked_program.specs.declared.violation.Violation.{Violation}
use Rattle.linked_program.specs.TableNames.{Columned, columned_of}
use Rattle.linked_program.specs.Violations.{first_of, number_of}
use Rattle.linked_program.specs.Declarations.{violations, reported, IsClean}
use Rattle.linked_program.specs.Linked.{kinds_of}
use Rattle.linked_program.specs.Checked.{PlainChecked, IsChecked, revised_of}
use Rattle.input_tables.specs.Edited.{Edited}
use Rattle.trail_theory.specs.Defines.{redefined}
use Rattle.trail_theory.specs.MadeRecords.{IsLater}
use Rattle.trail_theory.proofs.Defines.{defines_keep}
use Rattle.rules_theory.proofs.Numbered.{checked_is_numbered}
use Rattle.spawn_checker.specs.declared.violation.CheckError.{CheckError}
use Rattle.spawn_checker.specs.declared.violation.CheckError.TheVariants as c
use Rattle.spawn_checker.specs.Renumbered.{IsRefusedAnew, AreNew}
use Rattle.spawn_checker.proofs.NewNames.{names_are_new}
use Rattle.token_readers.specs.declared.fault.TextError.{TextError}
use Rattle.token_readers.specs.declared.fault.TextError.TheVariants as t
use Rattle.procedure_parser.specs.Correct.{IsDefinitionFault}
use Rattle.program_edits.specs.Putting.{put_all, Placed}
use Rattle.checked_defines.specs.Readers.{violation_in, reads_text, checks_rules}
use Rattle.checked_defines.specs.Standings.{standing, HasPut, KeepsPlaces}
use Rattle.checked_defines.specs.Causes.{of_check, of_text, IsDefineCause}
use Rattle.checked_defines.proofs.Rules.{nothing_found}
use Rattle.checked_defines.proofs.Texts.{text_refused}
use Rattle.checked_defines.proofs.Puts.{reducers_stay, places_stay}

abbrev Numbers : Type 0
Numbers = List (Name × ℕ) × ℕ

module _ (old : PlainChecked) (now : Edited) where
  abbrev answer : Tree → List Lined → Result edits.Standing edits.EditRefusal
  answer t l = defined_as checks_rules (standing old now) (Ok (t, l))

  abbrev if_fits : Tree → List Lined → Numbers → Result edits.Standing edits.EditRefusal
  if_fits t l m = unless (nat_lt most m.1) Exhausted (Ok (with_program (standing old now) (t, l) m))

  clean_answer : (t : Tree) (l : List Lined) → violations (columned_of now.tables) t l ≡ [] → answer t l ≡ if_fits t l (revised (revised_of old) t old.counter)
  clean_answer t l clean = ap (checked_as (standing old now) (t, l)) (nothing_found t l now.tables clean)

  pub is_defined : (p : Program) (new : PlainChecked) → violations (columned_of now.tables) (tree p) (lines p) ≡ [] → new.program ≡ p → (new.revisions, new.counter) ≡ revised (revised_of old) (tree p) old.counter → new.counter ≤ most
      → answer (tree p) (lines p) ≡ Ok (standing new now)
  is_defined p new clean is numbers fits =
      let fit : nat_lt most new.counter ≡ false = le-ltb most new.counter fits in
      clean_answer (tree p) (lines p) clean
      ∙ ap (if_fits (tree p) (lines p)) (sym numbers)
      ∙ ap (λ (b : Bool). unless b Exhausted (Ok (with_program (standing old now) (tree p, lines p) (new.revisions, new.counter)))) fit
      ∙ ap (λ (q : Program). ok_of (with_program (standing old now) (tree q, lines q) (new.revisions, new.counter))) (sym is)
    where
      ok_of : edits.Standing → Result edits.Standing edits.EditRefusal
      ok_of s = Ok s

  told : Option (Rule × Name × ℕ) → Result edits.Standing edits.EditRefusal
  told None = Err Exhausted
  told (Some q) = Err (edits.Broken (record { rule = number_of q.0; holder = q.1; line = q.2 }))

  broken : (t : Tree) (l : List Lined) (rule : Rule) (name : Name) (line : ℕ) (o : Option Violation) → reported t o ≡ Some (rule, name, line)
      → checked_as (standing old now) (t, l) (option_map (violation_in t) o) ≡ Err (edits.Broken (record { rule = number_of rule; holder = name; line = line }))
  unfolding told
  broken t l rule name line None e = absurd cc
  broken t l rule name line (Some v) e = ap told e

  pub is_refused : (t : Tree) (l : List Lined) (error : CheckError) → IsRefusedAnew (revised_of old) (columned_of now.tables) t l error → IsDefineCause (answer t l) (of_check error)
  unfolding checks_rules
  is_refused t l c.NoMemory h = tt
  is_refused t l (c.Check rule name line) h = broken t l rule (string_bytes name) line (first_of (violations (columned_of now.tables) t l)) h
  is_refused t l c.Exhausted h = clean_answer t l h.0 ∙ ap (λ (b : Bool). unless b Exhausted (Ok (with_program (standing old now) (t, l) (revised (revised_of old) t old.counter)))) h.1

module _ (old : PlainChecked) (is : IsChecked old) (p : Program) (put : HasPut (tree old.program, lines old.program) (tree p, lines p)) where
  reducers_are : reducers (tree old.program) ≡ reducers (tree p)
  reducers_are = sym (ap (λ (z : Placed). reducers z.0) put.1 ∙ reducers_stay put.0 [] (tree old.program, lines old.program))

  pub is_later : (new : PlainChecked) → new.program ≡ p → (new.revisions, new.counter) ≡ revised (revised_of old) (tree p) old.counter → IsLater (revised_of old) (revised_of new)
  is_later new same numbers =
      let later : IsLater (revised_of old) (redefined (revised_of old) (tree p)) = (defines_keep (revised_of old) (tree p) (checked_is_numbered old is)).later reducers_are in
      let are : redefined (revised_of old) (tree p) ≡ revised_of new = ap (numbered_as (tree p)) (sym numbers) ∙ ap (λ (q : Program). numbered_as (tree q) (new.revisions, new.counter)) (sym same) in
      subst (λ (r : Revised). IsLater (revised_of old) r) are later
    where
      numbered_as : Tree → Numbers → Revised
      numbered_as t m = record { tree = t; revisions = m.0; counter = m.1 }

  pub kinds_stay : (new : PlainChecked) → new.program ≡ p → new.kinds ≡ kinds_of (tree new.program) → new.kinds ≡ old.kinds
  kinds_stay new same kinds = kinds ∙ ap (λ (q : Program). kinds_of (tree q)) same ∙ ap (λ (rs : List Red). map (λ r. r.kind) rs) (sym reducers_are) ∙ sym is.kinds_are

  pub keeps_places : (new : PlainChecked) (tables : List Columned) → IsClean tables p → new.program ≡ p → KeepsPlaces (tree old.program) (tree new.program)
  keeps_places new tables clean same =
      let after : tree p ≡ (put_all [] put.0 (tree old.program, lines old.program)).0 = ap (λ (z : Placed). z.0) put.1 in
      let stay = places_stay put.0 (tree old.program, lines old.program) (subst (λ (t : Tree). AreNew [] t) after (names_are_new tables p clean)) in
      subst (λ (t : Tree). KeepsPlaces (tree old.program) t) (sym after ∙ ap tree (sym same)) stay

-- a text that isn't read
pub is_unread : (old : PlainChecked) (now : Edited) (text : List ℕ) (error : TextError) → IsDefinitionFault (tree old.program) text error → IsDefineCause (after_define reads_text checks_rules (standing old now) text) (of_text error)
is_unread old now text t.NoMemory h = tt
is_unread old now text (t.Text line) h = ap (defined_as checks_rules (standing old now)) (text_refused text (tree old.program, lines old.program) line h)
