-- What a program without violations keeps, declaration by declaration and statement by statement.
use Rattle.std.proofs.Common.{◌≡◌, ℕ, ◌+◌, Bool, true, false, cond, List, [], ◌∷◌, ◌++◌, Option, Some, map, take, refl, subst}
use Rattle.std.specs.Str.{bytes_eq}
use Rattle.std.proofs.lemmas.Slice.Eq.{bytes_eq-Decides}
use Rattle.meaning.specs.declared.tree.Declaration.{Declaration}
use Rattle.meaning.specs.declared.tree.Declaration.TheVariants as d
use Rattle.meaning.specs.Tree.{Name, Deed, Body, step, Proc, Tree}
use Rattle.meaning.specs.TreeView.{decl, lined, proc, red, block_lines}
use Rattle.meaning.specs.Statements.{procedure_of}
use Rattle.linked_program.specs.declared.violation.Violation.{Violation}
use Rattle.linked_program.specs.Violations.{at}
use Rattle.linked_program.specs.TableNames.{Columned}
use Rattle.linked_program.specs.Scope.{Scope, moment, after_deed}
use Rattle.linked_program.specs.Rules.{Setting, deed_rules}
use Rattle.linked_program.specs.Bodies.{line_of, body_violations, inner_violations}
use Rattle.linked_program.proofs.Quiet.{nil_left, nil_right, no_rules}
use Rattle.linked_program.specs.Declarations.{procedure_rules, reducer_rules, proc_violations, decls_violations}

pub same_bytes : (x y : Name) → bytes_eq x y ≡ true → x ≡ y
same_bytes x y e = (bytes_eq-Decides x y).0 e

pub other_bytes : (x y : Name) → bytes_eq x y ≡ false → x ≡ y → ⊥
other_bytes x y e q = let p : bytes_eq x y ≡ true = (bytes_eq-Decides x y).1 q in cc

-- ---- statements

module _ (s : Setting) (depth place : ℕ) (scope : Scope) (n : ℕ) (d : Deed) (rest : Body) where
  abbrev here_of : List Violation
  here_of = at s.declaration (line_of s.lines n) (deed_rules s (moment depth place) scope d)

  abbrev inside_of : List Violation
  inside_of = inner_violations s (moment depth place) scope d

  abbrev later_of : List Violation
  later_of = body_violations s depth (place + 1) (after_deed (moment depth place) scope d) rest

  pub first_deed : body_violations s depth place scope (step n d rest) ≡ [] → deed_rules s (moment depth place) scope d ≡ []
  first_deed v = no_rules s.declaration (line_of s.lines n) (deed_rules s (moment depth place) scope d) (nil_left here_of inside_of (nil_left (here_of ++ inside_of) later_of v))

  pub inside_deed : body_violations s depth place scope (step n d rest) ≡ [] → inner_violations s (moment depth place) scope d ≡ []
  inside_deed v = nil_right here_of inside_of (nil_left (here_of ++ inside_of) later_of v)

  pub later_deeds : body_violations s depth place scope (step n d rest) ≡ [] → body_violations s depth (place + 1) (after_deed (moment depth place) scope d) rest ≡ []
  later_deeds v = nil_right (here_of ++ inside_of) later_of v

-- ---- procedures

-- a procedure of a program without violations, by where it stands and the lines of its statements
pub record CleanProc (t : Tree) (ts : List Columned) (p : Proc) : Type 0 where
  pub place : ℕ
  pub lines : List (ℕ × ℕ)
  pub head : procedure_rules (take place t) p ≡ []
  pub body : proc_violations t ts (place + 1) p lines ≡ []

-- the procedure of a name
pub record IsNamed (t : Tree) (ts : List Columned) (f : Name) (p : Proc) : Type 0 where
  pub clean : CleanProc t ts p
  pub named : bytes_eq p.called f ≡ true

named_here : (t : Tree) (ts : List Columned) (k : ℕ) (q : Proc) (line : ℕ) (lines : List (ℕ × ℕ)) (f : Name) (p : Proc) (rest : Option Proc) (b : Bool) → bytes_eq q.called f ≡ b
    → at (k + 1) line (procedure_rules (take k t) q) ++ proc_violations t ts (k + 1) q lines ≡ [] → (rest ≡ Some p → IsNamed t ts f p) → cond b (Some q) rest ≡ Some p → IsNamed t ts f p
named_here t ts k q line lines f p rest true e v later is =
    let same : q ≡ p = cc in
    let rules = procedure_rules (take k t) q in
    let this : IsNamed t ts f q = record {
      clean = record {
        place = k;
        lines = lines;
        head = no_rules (k + 1) line rules (nil_left (at (k + 1) line rules) (proc_violations t ts (k + 1) q lines) v);
        body = nil_right (at (k + 1) line rules) (proc_violations t ts (k + 1) q lines) v;
      };
      named = e;
    } in
    subst (IsNamed t ts f) same this
named_here t ts k q line lines f p rest false e v later is = later is

pub clean_procedure : (t : Tree) (ts : List Columned) (k : ℕ) (ds : List Declaration) (f : Name) (p : Proc) → decls_violations t ts k (map decl ds) (map lined ds) ≡ [] → procedure_of (map decl ds) f ≡ Some p → IsNamed t ts f p
clean_procedure t ts k [] f p v is = cc
clean_procedure t ts k (d.Reducer r ∷ ds) f p v is =
    clean_procedure t ts (k + 1) ds f p (nil_right (at (k + 1) r.line (reducer_rules (take k t) (red r))) (decls_violations t ts (k + 1) (map decl ds) (map lined ds)) v) is
clean_procedure t ts k (d.Procedure q ∷ ds) f p v is =
    let here = at (k + 1) q.line (procedure_rules (take k t) (proc q)) ++ proc_violations t ts (k + 1) (proc q) (block_lines q.blocks.items) in
    let more = decls_violations t ts (k + 1) (map decl ds) (map lined ds) in
    named_here t ts k (proc q) q.line (block_lines q.blocks.items) f p (procedure_of (map decl ds) f) (bytes_eq (proc q).called f) refl (nil_left here more v)
    (λ e. clean_procedure t ts (k + 1) ds f p (nil_right here more v) e) is
