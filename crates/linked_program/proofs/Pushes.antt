-- Code made element by element.
use Rattle.std.proofs.Common.{◌≡◌, ℕ, zero, suc, ◌+◌, ◌<◌, List, [], ◌∷◌, ◌++◌, take, length, slice_get, map, get_or, refl, ap, sym, ◌∙◌}
use Rattle.std.proofs.lemmas.List.{take_more}
use Rattle.meaning.specs.declared.tree.Statement.{Statement}
use Rattle.meaning.specs.declared.tree.Block.{Block}
use Rattle.meaning.specs.declared.tree.Declaration.{Declaration}
use Rattle.meaning.specs.declared.tree.Declaration.TheVariants as d
use Rattle.meaning.specs.Tree.{Body, Proc, Tree}
use Rattle.meaning.specs.TreeView.{deed, statements, statements_of, block, decl, proc}
use Rattle.linked_program.specs.TableNames.{Columned}
use Rattle.linked_program.specs.Procedures.{procedures}
use Rattle.linked_program.specs.declared.code.Operation.{Operation}
use Rattle.linked_program.specs.declared.code.Operation.TheVariants as o
use Rattle.linked_program.specs.declared.code.Instruction.{Instruction}
use Rattle.linked_program.specs.declared.code.CodeBlock.{CodeBlock}
use Rattle.linked_program.specs.declared.code.Code.{Code}
use Rattle.linked_program.specs.Linked.{Acts, ends, steps, linked_deed, linked_body}
use Rattle.linked_program.specs.CodeView.{act, acts, acts_of, code_block, AreBlocksOf, IsCodeOf, AreCodesOf}

pub take_one_more : {A : Type 0} → (xs : List A) (i : ℕ) (x : A) → i < length xs → x ≡ get_or xs i x → take (i + 1) xs ≡ take i xs ++ x ∷ []
take_one_more xs i x h e = take_more xs i x h ∙ ap (λ y. take i xs ++ y ∷ []) (sym e)

-- ---- statements

abbrev put : Acts → Acts → Acts
put ends b = b
put (steps n d rest) b = steps n d (put rest b)

acts_append : (f : ℕ → Acts) (xs ys : List Instruction) → acts f (xs ++ ys) ≡ put (acts f xs) (acts f ys)
acts_append f [] ys = refl
acts_append f (x ∷ xs) ys = ap (steps x.number (act f x.operation)) (acts_append f xs ys)

linked_append : (ts : List Columned) (t : Tree) (inner : ℕ → Body) (xs ys : List Statement) → linked_body ts t (statements inner (xs ++ ys)) ≡ put (linked_body ts t (statements inner xs)) (linked_body ts t (statements inner ys))
linked_append ts t inner [] ys = refl
linked_append ts t inner (x ∷ xs) ys = ap (steps x.number (linked_deed ts t (deed inner x.action))) (linked_append ts t inner xs ys)

pub statement_push : (ts : List Columned) (t : Tree) (inner : ℕ → Body) (f : ℕ → Acts) (is : List Instruction) (ss : List Statement) (x : Instruction) (s : Statement)
    → acts f is ≡ linked_body ts t (statements inner ss) → x.number ≡ s.number → act f x.operation ≡ linked_deed ts t (deed inner s.action)
    → acts f (is ++ x ∷ []) ≡ linked_body ts t (statements inner (ss ++ s ∷ []))
statement_push ts t inner f is ss x s h e k =
    acts_append f is (x ∷ [])
    ∙ ap (λ b. put b (steps x.number (act f x.operation) ends)) h
    ∙ ap (λ n. put (linked_body ts t (statements inner ss)) (steps n (act f x.operation) ends)) e
    ∙ ap (λ a. put (linked_body ts t (statements inner ss)) (steps s.number a ends)) k
    ∙ sym (linked_append ts t inner ss (s ∷ []))

-- ---- blocks

pub block_push : (ts : List Columned) (t : Tree) (cs : List CodeBlock) (bs : List Block) (c : CodeBlock) (b : Block) → AreBlocksOf ts t cs bs
    → ((inner : ℕ → Body) → acts (λ n. linked_body ts t (inner n)) c.instructions.items ≡ linked_body ts t (statements inner b.statements.items))
    → AreBlocksOf ts t (cs ++ c ∷ []) (bs ++ b ∷ [])
block_push ts t [] [] c b h k = (k, tt)
block_push ts t (x ∷ xs) (y ∷ ys) c b h k = (h.0, block_push ts t xs ys c b h.1 k)
block_push ts t [] (y ∷ ys) c b h k = absurd h
block_push ts t (x ∷ xs) [] c b h k = absurd h

pub as_many : (ts : List Columned) (t : Tree) (cs : List CodeBlock) (bs : List Block) → AreBlocksOf ts t cs bs → length cs ≡ length bs
as_many ts t [] [] h = refl
as_many ts t (x ∷ xs) (y ∷ ys) h = ap suc (as_many ts t xs ys h.1)
as_many ts t [] (y ∷ ys) h = absurd h
as_many ts t (x ∷ xs) [] h = absurd h

act_same : (f g : ℕ → Acts) → ((n : ℕ) → f n ≡ g n) → (op : Operation) → act f op ≡ act g op
act_same f g h (o.Bind n x) = refl
act_same f g h (o.Enter n way p xs) = refl
act_same f g h (o.Read n r) = refl
act_same f g h o.Sync = refl
act_same f g h (o.Update r xs) = refl
act_same f g h (o.If x b c) = rw (h b, h c) refl
act_same f g h (o.Loop n low high grain p xs) = refl
act_same f g h (o.Return x) = refl

acts_same : (f g : ℕ → Acts) → ((n : ℕ) → f n ≡ g n) → (is : List Instruction) → acts f is ≡ acts g is
acts_same f g h [] = refl
acts_same f g h (i ∷ is) = ap (λ a. steps i.number a (acts f is)) (act_same f g h i.operation) ∙ ap (steps i.number (act g i.operation)) (acts_same f g h is)

block_at : (ts : List Columned) (t : Tree) (cs : List CodeBlock) (bs : List Block) → AreBlocksOf ts t cs bs → (n : ℕ) (f : ℕ → Acts) (g : ℕ → Body) → ((m : ℕ) → f m ≡ linked_body ts t (g m))
    → acts_of f (slice_get cs n) ≡ linked_body ts t (statements_of g (slice_get bs n))
block_at ts t [] [] h n f g k = refl
block_at ts t (x ∷ xs) (y ∷ ys) h zero f g k = acts_same f (λ m. linked_body ts t (g m)) k x.instructions.items ∙ h.0 g
block_at ts t (x ∷ xs) (y ∷ ys) h (suc n) f g k = block_at ts t xs ys h.1 n f g k
block_at ts t [] (y ∷ ys) h n f g k = absurd h
block_at ts t (x ∷ xs) [] h n f g k = absurd h

pub blocks_linked : (ts : List Columned) (t : Tree) (cs : List CodeBlock) (bs : List Block) → AreBlocksOf ts t cs bs → (levels n : ℕ) → code_block cs levels n ≡ linked_body ts t (block bs levels n)
blocks_linked ts t cs bs h zero n = refl
blocks_linked ts t cs bs h (suc levels) n = block_at ts t cs bs h n (code_block cs levels) (block bs levels) (λ m. blocks_linked ts t cs bs h levels m)

-- ---- procedures

pub code_push : (ts : List Columned) (t : Tree) (cs : List Code) (ps : List Proc) (c : Code) (p : Proc) → AreCodesOf ts t cs ps → IsCodeOf ts t c p → AreCodesOf ts t (cs ++ c ∷ []) (ps ++ p ∷ [])
code_push ts t [] [] c p h k = (k, tt)
code_push ts t (x ∷ xs) (y ∷ ys) c p h k = (h.0, code_push ts t xs ys c p h.1 k)
code_push ts t [] (y ∷ ys) c p h k = absurd h
code_push ts t (x ∷ xs) [] c p h k = absurd h

pub procedures_push : (xs : List Declaration) (x : Declaration) → procedures (map decl (xs ++ x ∷ [])) ≡ procedures (map decl xs) ++ procedures (decl x ∷ [])
procedures_push [] x = refl
procedures_push (d.Reducer r ∷ xs) x = procedures_push xs x
procedures_push (d.Procedure p ∷ xs) x = ap (λ ps. proc p ∷ ps) (procedures_push xs x)

pub length_of_map : {A B : Type 0} → (f : A → B) (xs : List A) → length (map f xs) ≡ length xs
length_of_map f [] = refl
length_of_map f (x ∷ xs) = ap suc (length_of_map f xs)
