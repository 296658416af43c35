-- A program's tree is known by its declarations as they are lowered.
use Rattle.std.proofs.Common.{◌≡◌, [], ◌∷◌, ◌*◌, take, refl, ap, sym, ◌∙◌}
use Rattle.monoid_laws.specs.declared.Kind.{Kind}
use Rattle.monoid_laws.specs.declared.Kind.TheVariants as k
use Rattle.monoid_laws.proofs.SameTables.{same_rows}
use Rattle.meaning.specs.Tree.{Red, Tree}
use Rattle.meaning.specs.Tree as plain
use Rattle.source_tree.specs.Kinds.{WrittenKind, written}
use Rattle.source_tree.specs.Kinds as word
use Rattle.source_tree.specs.Lowering.{lowered_decl, lowered_tree}

-- the kind that is written, or the other where that is a table, which carries more than is written
abbrev unwritten : WrittenKind → Kind → Kind
unwritten word.Add other = k.Add
unwritten word.Mul other = k.Mul
unwritten word.Min other = k.Min
unwritten word.Max other = k.Max
unwritten word.And other = k.And
unwritten word.Or other = k.Or
unwritten word.Xor other = k.Xor
unwritten word.Items other = k.List
unwritten (word.First n) other = k.First n
unwritten (word.Last n) other = k.Last n
unwritten word.Argmax other = k.Argmax
unwritten word.Affine other = k.Affine
unwritten word.Hist other = k.Hist
unwritten (word.Table n u xs) other = other

unwritten_back : (b : Kind) → unwritten (written b) b ≡ b
unwritten_back k.Add = refl
unwritten_back k.Mul = refl
unwritten_back k.Min = refl
unwritten_back k.Max = refl
unwritten_back k.And = refl
unwritten_back k.Or = refl
unwritten_back k.Xor = refl
unwritten_back k.List = refl
unwritten_back (k.First n) = refl
unwritten_back (k.Last n) = refl
unwritten_back k.Argmax = refl
unwritten_back k.Affine = refl
unwritten_back k.Hist = refl
unwritten_back (k.Table t) = refl

-- the last line is a case for each kind but tables, and no search for each pair that differs
pub written_back : (a b : Kind) → written a ≡ written b → a ≡ b
written_back (k.Table t) (k.Table u) h =
    let s : t.size ≡ u.size = cc in
    let e : t.unit ≡ u.unit = cc in
    let c : take (t.size * t.size) t.cells ≡ take (u.size * u.size) u.cells = cc in
    ap k.Table (same_rows t u s e c)
written_back (k.Table t) b h = sym (ap (λ w. unwritten w (k.Table t)) (sym h))
written_back a b h = ap (λ w. unwritten w b) h ∙ unwritten_back b

same_reducer : (r q : Red) → r.called ≡ q.called → r.kind ≡ q.kind → r.initial ≡ q.initial → r ≡ q
same_reducer r q e f g = λ i. record { called = e i; kind = f i; initial = g i }

declaration_back : (d e : plain.Decl) → lowered_decl d ≡ lowered_decl e → d ≡ e
declaration_back (plain.reducer r) (plain.reducer q) h =
    let a : r.called ≡ q.called = cc in
    let b : written r.kind ≡ written q.kind = cc in
    let c : r.initial ≡ q.initial = cc in
    ap plain.reducer (same_reducer r q a (written_back r.kind q.kind b) c)
declaration_back (plain.procedure p) (plain.procedure q) h = let e : p ≡ q = cc in ap plain.procedure e
declaration_back _ _ h = absurd cc

pub lowered_back : (t u : Tree) → lowered_tree t ≡ lowered_tree u → t ≡ u
lowered_back [] [] h = refl
lowered_back (d ∷ t) (e ∷ u) h =
    let a : lowered_decl d ≡ lowered_decl e = cc in
    let b : lowered_tree t ≡ lowered_tree u = cc in
    let c = declaration_back d e a in
    let s = lowered_back t u b in
    cc
lowered_back _ _ h = absurd cc
