-- The short forms of all statements of a program.
use Rattle.std.proofs.Common.{◌≡◌, ℕ, zero, suc, List, [], ◌∷◌, ◌++◌, All, IfOk, IfSome, Option, Some, None, Result, Ok, Err, slice_get, refl, subst}
use Rattle.std.proofs.lemmas.List.Elements.{All-nil, All-cons, All-head, All-tail, All-append}
use Rattle.monoid_laws.specs.declared.Kind.{Kind}
use Rattle.meaning.specs.Tree.{Proc, Tree}
use Rattle.linked_program.specs.TableNames.{Columned}
use Rattle.linked_program.specs.Linked.{Linked, kinds_of}
use Rattle.linked_program.specs.declared.code.Chain.{Chain}
use Rattle.linked_program.specs.declared.code.Link.{Link}
use Rattle.linked_program.specs.declared.code.CodeBlock.{CodeBlock}
use Rattle.linked_program.specs.declared.code.Code.{Code}
use Rattle.linked_program.specs.CodeView.{HasShort, AreShort, AreShortBlocks, AreCodesOf, blocks_in, chain, chained, linked_by, instructions_in, instruction_at}

-- one more of which the same is said
pub all_push : {A : Type 0} (P : A → Type 0) (xs : List A) (x : A) → All P xs → P x → All P (xs ++ x ∷ [])
all_push P xs x h p = All-append P xs (x ∷ []) h (All-cons P x [] p (All-nil P))

-- what is said of all is said of one
at_all : {A : Type 0} (P : A → Type 0) (xs : List A) (i : ℕ) → All P xs → IfSome (slice_get xs i) P
at_all P [] i h = tt
at_all P (x ∷ xs) zero h = All-head P x xs h
at_all P (x ∷ xs) (suc i) h = at_all P xs i (All-tail P x xs h)

in_block : (kinds : List Kind) (b : Option CodeBlock) (i : ℕ) → IfSome b (λ x. AreShort kinds x.instructions.items) → IfSome (slice_get (instructions_in b) i) (HasShort kinds)
in_block kinds None i h = tt
in_block kinds (Some b) i h = at_all (HasShort kinds) b.instructions.items i h

in_code : (kinds : List Kind) (c : Option Code) (b i : ℕ) → IfSome c (λ x. AreShortBlocks kinds x.blocks.items)
    → IfSome (slice_get (instructions_in (slice_get (blocks_in c) b)) i) (HasShort kinds)
in_code kinds None b i h = tt
in_code kinds (Some c) b i h = in_block kinds (slice_get c.blocks.items b) i (at_all (λ (x : CodeBlock). AreShort kinds x.instructions.items) c.blocks.items b h)

of_code : (ts : List Columned) (t : Tree) (cs : List Code) (ps : List Proc) → AreCodesOf ts t cs ps → (p : ℕ) → IfSome (slice_get cs p) (λ x. AreShortBlocks (kinds_of t) x.blocks.items)
of_code ts t [] [] h p = tt
of_code ts t (c ∷ cs) (q ∷ ps) h zero = h.0.short
of_code ts t (c ∷ cs) (q ∷ ps) h (suc p) = of_code ts t cs ps h.1 p
of_code ts t [] (q ∷ ps) h p = absurd h
of_code ts t (c ∷ cs) [] h p = absurd h

pub short_there : (ts : List Columned) (t : Tree) (cs : List Code) (ps : List Proc) → AreCodesOf ts t cs ps → (p b i : ℕ) → IfSome (instruction_at cs p b i) (HasShort (kinds_of t))
short_there ts t cs ps h p b i = in_code (kinds_of t) (slice_get cs p) b i (of_code ts t cs ps h p)

-- ---- forms that are made

-- what is said of what was made
pub if_ok : {A E : Type 0} {P Q : A → Type 0} (r : Result A E) → ((a : A) → P a → Q a) → IfOk r P → IfOk r Q
if_ok (Ok a) f h = f a h
if_ok (Err e) f h = tt

-- ---- chains

-- a link more at the end is the outermost one
pub chained_push : (e : Linked) (ks : List Link) (k : Link) → chained e (ks ++ k ∷ []) ≡ linked_by (chained e ks) k
chained_push e [] k = refl
chained_push e (j ∷ ks) k = chained_push (linked_by e j) ks k

-- a chain that was made is that of the same expression
pub chain_as : (e f : Linked) → e ≡ f → {E : Type 0} (r : Result (Option Chain) E) → IfOk r (λ o. IfSome o (λ c. e ≡ chain c)) → IfOk r (λ o. IfSome o (λ c. f ≡ chain c))
chain_as e f is r h = subst (λ (x : Linked). IfOk r (λ o. IfSome o (λ c. x ≡ chain c))) is h
