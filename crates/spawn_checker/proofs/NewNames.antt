-- In a program without violations no two procedures have one name.
use Rattle.std.proofs.Common.{◌≡◌, ℕ, ◌+◌, true, false, cond, ◌||◌, List, [], ◌∷◌, ◌++◌, Some, map, take, length, refl, ap, sym, subst, ◌∙◌, arith, append_assoc}
use Rattle.std.specs.Str.{bytes_eq}
use Rattle.meaning.specs.declared.tree.Declaration.{Declaration}
use Rattle.meaning.specs.declared.tree.Declaration.TheVariants as d
use Rattle.meaning.specs.declared.tree.Program.{Program}
use Rattle.meaning.specs.Tree.{Name, Proc, Decl, reducer, procedure, Tree}
use Rattle.meaning.specs.TreeView.{decl, lined, proc, red, tree, block_lines}
use Rattle.meaning.specs.Statements.{procedure_of}
use Rattle.meaning.specs.Tables.{is_there}
use Rattle.linked_program.specs.declared.violation.Rule.TheVariants.{Twice}
use Rattle.linked_program.specs.Violations.{at, when}
use Rattle.linked_program.specs.TableNames.{Columned, has_name}
use Rattle.linked_program.specs.Procedures.{procedures}
use Rattle.linked_program.specs.Declarations.{IsClean, repeats, main_rules, reducer_rules, procedure_rules, proc_violations, decls_violations, missing_main}
use Rattle.linked_program.proofs.Quiet.{nil_left, nil_right, no_rules, no_when}
use Rattle.spawn_checker.specs.Renumbered.{AreNew}

abbrev names_of : Tree → List Name
names_of t = map (λ p. p.called) (procedures t)

has_name_is_there : (f : Name) (t : Tree) → has_name (names_of t) f ≡ is_there (procedure_of t f)
has_name_is_there f [] = refl
has_name_is_there f (reducer r ∷ t) = has_name_is_there f t
has_name_is_there f (procedure p ∷ t) =
    elim (bytes_eq p.called f) as (λ b. b || has_name (names_of t) f ≡ is_there (cond b (Some p) (procedure_of t f))) [
      | true ↦ refl
      | false ↦ has_name_is_there f t
    ]

take_front : (xs ys : Tree) → take (length xs) (xs ++ ys) ≡ xs
take_front [] ys = refl
take_front (x ∷ xs) ys = ap (λ (zs : Tree). x ∷ zs) (take_front xs ys)

names_push : (t : Tree) (p : Proc) → names_of (t ++ procedure p ∷ []) ≡ names_of t ++ p.called ∷ []
names_push [] p = refl
names_push (reducer r ∷ t) p = names_push t p
names_push (procedure q ∷ t) p = ap (λ (xs : List Name). q.called ∷ xs) (names_push t p)

names_same : (t : Tree) (r : Decl) → procedures (r ∷ []) ≡ [] → names_of (t ++ r ∷ []) ≡ names_of t
names_same [] r e = ap (map (λ p. p.called)) e
names_same (reducer q ∷ t) r e = names_same t r e
names_same (procedure q ∷ t) r e = ap (λ (xs : List Name). q.called ∷ xs) (names_same t r e)

push_length : (t : Tree) (x : Decl) → length (t ++ x ∷ []) ≡ length t + 1
push_length [] x = refl
push_length (y ∷ t) x = let h = push_length t x in omega (arith, h)

-- where no rule on a procedure is broken, its name is new
name_is_new : (before : Tree) (p : Proc) → procedure_rules before p ≡ [] → has_name (names_of before) p.called ≡ false
name_is_new before p e =
    has_name_is_there p.called before
    ∙ no_when (is_there (procedure_of before p.called)) Twice (nil_left (when (is_there (procedure_of before p.called)) Twice) (when (repeats (take p.parameters p.names)) Twice ++ main_rules p) e)

new_behind : (t : Tree) (ts : List Columned) (before : Tree) (n : ℕ) (ds : List Declaration) → t ≡ before ++ map decl ds → n ≡ length before → decls_violations t ts n (map decl ds) (map lined ds) ≡ [] → AreNew (names_of before) (map decl ds)
new_behind t ts before n [] is count v = tt
new_behind t ts before n (d.Reducer r ∷ ds) is count v =
    let x = reducer (red r) in
    let i = new_behind t ts (before ++ x ∷ []) (n + 1) ds (is ∙ sym (append_assoc before (x ∷ []) (map decl ds))) (let h = push_length before x in omega (arith, h, count))
    (nil_right (at (n + 1) r.line (reducer_rules (take n t) (red r))) (decls_violations t ts (n + 1) (map decl ds) (map lined ds)) v) in
    subst (λ (xs : List Name). AreNew xs (map decl ds)) (names_same before x refl) i
new_behind t ts before n (d.Procedure q ∷ ds) is count v =
    let x = procedure (proc q) in
    let rules = procedure_rules (take n t) (proc q) in
    let lines = block_lines q.blocks.items in
    let here = at (n + 1) q.line rules ++ proc_violations t ts (n + 1) (proc q) lines in
    let more = decls_violations t ts (n + 1) (map decl ds) (map lined ds) in
    let head : rules ≡ [] = no_rules (n + 1) q.line rules (nil_left (at (n + 1) q.line rules) (proc_violations t ts (n + 1) (proc q) lines) (nil_left here more v)) in
    let front : take n t ≡ before = rw (is, count) (take_front before (x ∷ map decl ds)) in
    let i = new_behind t ts (before ++ x ∷ []) (n + 1) ds (is ∙ sym (append_assoc before (x ∷ []) (map decl ds))) (let h = push_length before x in omega (arith, h, count)) (nil_right here more v) in
    (name_is_new before (proc q) (sym (ap (λ (u : Tree). procedure_rules u (proc q)) front) ∙ head), subst (λ (xs : List Name). AreNew xs (map decl ds)) (names_push before (proc q)) i)

pub names_are_new : (tables : List Columned) (p : Program) → IsClean tables p → AreNew [] (tree p)
names_are_new tables p clean =
    let ds = p.declarations.items in
    new_behind (tree p) tables [] 0 ds refl refl (nil_right (missing_main (tree p)) (decls_violations (tree p) tables 0 (map decl ds) (map lined ds)) clean)
