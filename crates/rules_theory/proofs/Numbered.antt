-- What a checked program enters is there, and its procedures have revision numbers below its counter.
use Rattle.std.proofs.Common.{◌≡◌, ℕ, ◌+◌, ◌<◌, Bool, true, false, cond, not, nat_eq, List, [], ◌∷◌, Option, Some, None, map, length, option_map, refl, subst, eq-eqb, arith}
use Rattle.std.specs.Prelude.{All}
use Rattle.std.specs.Str.{bytes_eq}
use Rattle.std.proofs.lemmas.List.Elements.{All-head, All-tail}
use Rattle.meaning.specs.declared.tree.Program.{Program}
use Rattle.meaning.specs.Tree.{Name, Proc, reducer, procedure, Tree}
use Rattle.meaning.specs.TreeView.{decl, lined, tree}
use Rattle.meaning.specs.Statements.{procedure_of, proc_of}
use Rattle.meaning.specs.Tables.{is_there}
use Rattle.meaning.specs.Elision.{main}
use Rattle.meaning.specs.Records.{is_current}
use Rattle.meaning.specs.Commits.{revision_of}
use Rattle.linked_program.specs.declared.violation.Rule.TheVariants.{Main}
use Rattle.linked_program.specs.Violations.{when}
use Rattle.linked_program.specs.TableNames.{Columned}
use Rattle.linked_program.specs.Procedures.{procedures}
use Rattle.linked_program.specs.Scope.{scope_of}
use Rattle.linked_program.specs.Rules.{callee_rules, enter_rules}
use Rattle.linked_program.specs.Checked.{PlainChecked, IsChecked, revised_of, names_in}
use Rattle.linked_program.specs.Declarations.{IsClean, setting_of, missing_main, decls_violations}
use Rattle.linked_program.proofs.Quiet.{nil_left, nil_right, no_rules, no_when}
use Rattle.trail_theory.specs.ReadsAtEnd.{EntersOnly}
use Rattle.trail_theory.specs.Defines.{IsComplete}
use Rattle.trail_theory.specs.OpenLayers.{HasNumber, IsNumbered}
use Rattle.rules_theory.proofs.Clean.{clean_procedure}
use Rattle.rules_theory.proofs.Reading.{enters_body, by_name}

-- ---- what is entered is there

callee_there : (o : Option Proc) (count : ℕ) → callee_rules (option_map (λ p. p.parameters) o) count ≡ [] → is_there o ≡ true
callee_there None count e = cc
callee_there (Some p) count e = refl

enters_there : (t : Tree) (f : Name) (count : ℕ) → enter_rules t f count ≡ [] → is_there (procedure_of t f) ≡ true
enters_there t f count e =
    callee_there (procedure_of t f) count (nil_left (callee_rules (option_map (λ p. p.parameters) (procedure_of t f)) count) (when (bytes_eq f main) Main) e)

-- what is entered keeps what each procedure that is there keeps
enters_by : (ts : List Columned) (p : Program) → IsClean ts p → (P : Name → Type 0) → ((g : Name) → is_there (procedure_of (tree p) g) ≡ true → P g) → (f : Name) → EntersOnly P (proc_of (tree p) f).body
enters_by ts p clean P keeps f =
    let ds = p.declarations.items in
    let t = tree p in
    let v : decls_violations t ts 0 (map decl ds) (map lined ds) ≡ [] = nil_right (missing_main t) (decls_violations t ts 0 (map decl ds) (map lined ds)) clean in
    by_name t ts f (λ q. EntersOnly P q.body) tt
    (λ q k. enters_body (setting_of t ts (k.clean.place + 1) q k.clean.lines) P (λ g count e. keeps g (enters_there t g count e)) 0 1 (scope_of q.parameters (length q.names)) q.body k.clean.body)
    (λ q e. clean_procedure t ts 0 ds f q v e) (procedure_of t f) refl

pub is_complete : (ts : List Columned) (p : Program) → IsClean ts p → IsComplete (tree p)
is_complete ts p clean = enters_by ts p clean (λ g. is_there (procedure_of (tree p) g) ≡ true) (λ g h. h)

-- ---- revision numbers

numbered_by : (b : Bool) (n m : ℕ) (rest : List (Name × ℕ)) (f : Name) → (b ≡ false → is_current rest (f, m) ≡ true) → cond b (nat_eq n (cond b n m)) (is_current rest (f, cond b n m)) ≡ true
numbered_by true n m rest f h = eq-eqb n n refl
numbered_by false n m rest f h = h refl

passed_over : (b : Bool) (p : Proc) (o : Option Proc) → b ≡ false → is_there (cond b (Some p) o) ≡ true → is_there o ≡ true
passed_over true p o e h = cc
passed_over false p o e h = h

-- a procedure that is there has the number of its name
is_numbered : (t : Tree) (numbers : List (Name × ℕ)) (f : Name) → names_in numbers ≡ map (λ p. p.called) (procedures t) → is_there (procedure_of t f) ≡ true → is_current numbers (f, revision_of numbers f) ≡ true
is_numbered [] numbers f e h = cc
is_numbered (reducer r ∷ t) numbers f e h = is_numbered t numbers f e h
is_numbered (procedure p ∷ t) [] f e h = cc
is_numbered (procedure p ∷ t) ((g, n) ∷ numbers) f e h =
    let named : g ≡ p.called = cc in
    let rest : names_in numbers ≡ map (λ q. q.called) (procedures t) = cc in
    numbered_by (bytes_eq g f) n (revision_of numbers f) numbers f (λ b. is_numbered t numbers f rest (passed_over (bytes_eq p.called f) p (procedure_of t f) (subst (λ x. bytes_eq x f ≡ false) named b) h))

-- where there is a procedure the counter isn't 0
some_number : (t : Tree) (numbers : List (Name × ℕ)) (f : Name) (c : ℕ) → names_in numbers ≡ map (λ p. p.called) (procedures t) → All (λ e. e.1 < c) numbers → is_there (procedure_of t f) ≡ true → 0 < c
some_number [] numbers f c e below h = cc
some_number (reducer r ∷ t) numbers f c e below h = some_number t numbers f c e below h
some_number (procedure p ∷ t) [] f c e below h = cc
some_number (procedure p ∷ t) (r ∷ numbers) f c e below h =
    let first : r.1 < c = All-head (λ e. e.1 < c) r numbers below in
    omega arith

less_by : (b : Bool) (n m c : ℕ) → n < c → m < c → cond b n m < c
less_by true n m c h k = h
less_by false n m c h k = k

each_below : (numbers : List (Name × ℕ)) (c : ℕ) → 0 < c → All (λ e. e.1 < c) numbers → (f : Name) → revision_of numbers f < c
each_below [] c some below f = some
each_below ((g, n) ∷ numbers) c some below f =
    less_by (bytes_eq g f) n (revision_of numbers f) c (All-head (λ e. e.1 < c) (g, n) numbers below) (each_below numbers c some (All-tail (λ e. e.1 < c) (g, n) numbers below) f)

-- ---- a checked program

not_missing : (b : Bool) → not b ≡ false → b ≡ true
not_missing true e = refl
not_missing false e = cc

main_there : (ts : List Columned) (p : Program) → IsClean ts p → is_there (procedure_of (tree p) main) ≡ true
main_there ts p clean =
    let t = tree p in
    let rest = decls_violations t ts 0 (map decl p.declarations.items) (map lined p.declarations.items) in
    let rule = not (is_there (procedure_of t main)) in
    not_missing (is_there (procedure_of t main)) (no_when rule Main (no_rules 0 0 (when rule Main) (nil_left (missing_main t) rest clean)))

pub checked_is_numbered : (checked : PlainChecked) → IsChecked checked → IsNumbered (revised_of checked)
checked_is_numbered checked is =
    let t = tree checked.program in
    let there : (f : Name) → is_there (procedure_of t f) ≡ true → HasNumber (revised_of checked) f = λ f h. is_numbered t checked.revisions f is.each h in
    record {
      below = each_below checked.revisions checked.counter (some_number t checked.revisions main checked.counter is.each is.below (main_there checked.tables checked.program is.clean)) is.below;
      named = there;
      entered = enters_by checked.tables checked.program is.clean (HasNumber (revised_of checked)) there;
    }
