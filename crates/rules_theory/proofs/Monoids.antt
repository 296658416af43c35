-- The rule on table reducers: their operations are monoids, and so are those of all kinds.
use Rattle.std.proofs.Common.{◌≡◌, ℕ, ◌+◌, Bool, true, false, not, List, [], ◌∷◌, ◌++◌, map, take, refl}
use Rattle.std.specs.Prelude.{All}
use Rattle.std.proofs.lemmas.List.Elements.{All-nil, All-cons, All-same}
use Rattle.monoid_laws.specs.declared.Kind.{Kind}
use Rattle.monoid_laws.specs.declared.Kind.TheVariants as k
use Rattle.monoid_laws.specs.Kinds.{IsMonoid, IsTableMonoid}
use Rattle.monoid_laws.proofs.Laws.{IsMonoid-kind}
use Rattle.meaning.specs.declared.tree.Declaration.{Declaration}
use Rattle.meaning.specs.declared.tree.Declaration.TheVariants as d
use Rattle.meaning.specs.declared.tree.Program.{Program}
use Rattle.meaning.specs.Tree.{Tree}
use Rattle.meaning.specs.TreeView.{decl, lined, tree, proc, red, block_lines}
use Rattle.meaning.specs.Tables.{is_there}
use Rattle.meaning.specs.Statements.{reducers}
use Rattle.linked_program.specs.declared.violation.Rule.TheVariants.{Monoid, Twice, Initial}
use Rattle.linked_program.specs.Violations.{at, when}
use Rattle.linked_program.specs.TableNames.{Columned}
use Rattle.linked_program.specs.Monoids.{is_monoid_kind, is_monoid_table}
use Rattle.linked_program.specs.Initials.{is_initial}
use Rattle.linked_program.specs.Rules.{reducer_of}
use Rattle.linked_program.specs.Checked.{PlainChecked, IsChecked}
use Rattle.linked_program.specs.Linked.{kinds_of}
use Rattle.linked_program.specs.Declarations.{IsClean, reducer_rules, procedure_rules, proc_violations, decls_violations, missing_main}
use Rattle.linked_program.proofs.Tried.{monoid_from_true}
use Rattle.trail_theory.specs.Order.{Every}
use Rattle.trail_theory.specs.Typed.{HasMonoids}
use Rattle.linked_program.proofs.Quiet.{nil_left, nil_right, no_rules, no_when}

not_false : (b : Bool) → not b ≡ false → b ≡ true
not_false true e = refl
not_false false e = cc

kind_monoid : (kind : Kind) → not (is_monoid_kind kind) ≡ false → IsTableMonoid kind
kind_monoid k.Add e = tt
kind_monoid k.Mul e = tt
kind_monoid k.Min e = tt
kind_monoid k.Max e = tt
kind_monoid k.And e = tt
kind_monoid k.Or e = tt
kind_monoid k.Xor e = tt
kind_monoid k.List e = tt
kind_monoid (k.First n) e = tt
kind_monoid (k.Last n) e = tt
kind_monoid k.Argmax e = tt
kind_monoid k.Affine e = tt
kind_monoid k.Hist e = tt
kind_monoid (k.Table t) e = monoid_from_true t (not_false (is_monoid_table t) e)

monoids_of : (t : Tree) (ts : List Columned) (n : ℕ) (ds : List Declaration) → decls_violations t ts n (map decl ds) (map lined ds) ≡ [] → Every IsTableMonoid (map (λ r. r.kind) (reducers (map decl ds)))
monoids_of t ts n [] v = tt
monoids_of t ts n (d.Reducer r ∷ ds) v =
    let twice = when (is_there (reducer_of (reducers (take n t)) (red r).called)) Twice in
    let monoid = when (not (is_monoid_kind r.kind)) Monoid in
    let first = when (not (is_initial r.kind r.initial.items)) Initial in
    let here = at (n + 1) r.line (reducer_rules (take n t) (red r)) in
    let more = decls_violations t ts (n + 1) (map decl ds) (map lined ds) in
    let rules = no_rules (n + 1) r.line (reducer_rules (take n t) (red r)) (nil_left here more v) in
    (kind_monoid r.kind (no_when (not (is_monoid_kind r.kind)) Monoid (nil_left monoid first (nil_right twice (monoid ++ first) rules))), monoids_of t ts (n + 1) ds (nil_right here more v))
monoids_of t ts n (d.Procedure q ∷ ds) v =
    monoids_of t ts (n + 1) ds
    (nil_right (at (n + 1) q.line (procedure_rules (take n t) (proc q)) ++ proc_violations t ts (n + 1) (proc q) (block_lines q.blocks.items)) (decls_violations t ts (n + 1) (map decl ds) (map lined ds)) v)

pub has_monoids : (ts : List Columned) (p : Program) → IsClean ts p → HasMonoids (tree p)
has_monoids ts p clean =
    let ds = p.declarations.items in
    monoids_of (tree p) ts 0 ds (nil_right (missing_main (tree p)) (decls_violations (tree p) ts 0 (map decl ds) (map lined ds)) clean)

all_monoids : (kinds : List Kind) → Every IsTableMonoid kinds → All IsMonoid kinds
all_monoids [] h = All-nil IsMonoid
all_monoids (kind ∷ kinds) h = All-cons IsMonoid kind kinds (IsMonoid-kind kind h.0) (all_monoids kinds h.1)

pub checked_monoids : (checked : PlainChecked) → IsChecked checked → All IsMonoid checked.kinds
checked_monoids checked is =
    let kinds = kinds_of (tree checked.program) in
    All-same IsMonoid checked.kinds kinds is.kinds_are (all_monoids kinds (has_monoids checked.tables checked.program is.clean))
