-- Codes that get their hints.
use Rattle.std.proofs.Common.{◌≡◌, ℕ, zero, suc, Bool, List, [], ◌∷◌, length, Some, map, ap, ap₂, sym, ◌∙◌, refl, subst}
use Rattle.std.specs.Prelude.{slice_get, slice_set}
use Rattle.meaning.specs.Tree.{Proc, Tree}
use Rattle.linked_program.specs.TableNames.{Columned}
use Rattle.linked_program.specs.declared.code.CodeBlock.{CodeBlock}
use Rattle.linked_program.specs.declared.code.Code.{Code}
use Rattle.linked_program.specs.Linked.{linked_body, kinds_of}
use Rattle.linked_program.specs.CodeView.{code_block, AreShortBlocks, IsCodeOf, AreCodesOf}
use Rattle.linked_program.specs.Bare.{bare}

-- one of the codes is set to one that says the same
pub bare_set : (cs : List Code) (n : ℕ) (x y : Code) → slice_get cs n ≡ Some x → bare y ≡ bare x → map bare (slice_set cs n y) ≡ map bare cs
bare_set [] n x y at e = absurd cc
bare_set (c ∷ cs) zero x y at e = (let same : c ≡ x = cc in ap (λ b. b ∷ map bare cs) (e ∙ ap bare (sym same)))
bare_set (c ∷ cs) (suc n) x y at e = ap (λ bs. bare c ∷ bs) (bare_set cs n x y at e)

same_code : (ts : List Columned) (t : Tree) (c d : Code) (p : Proc) → bare d ≡ bare c → IsCodeOf ts t c p → IsCodeOf ts t d p
same_code ts t c d p e h =
    let blocks : d.blocks.items ≡ c.blocks.items = ap (λ (b : Bool × ℕ × List CodeBlock). b.2) e in
    record {
      memo = ap (λ (b : Bool × ℕ × List CodeBlock). b.0) e ∙ h.memo;
      slots = ap (λ (b : Bool × ℕ × List CodeBlock). b.1) e ∙ h.slots;
      short = subst (λ (bs : List CodeBlock). AreShortBlocks (kinds_of t) bs) (sym blocks) h.short;
      body = ap (λ (bs : List CodeBlock). code_block bs (length bs) 0) blocks ∙ h.body;
    }

-- codes that say the same are those of the same procedures
pub same_codes : (ts : List Columned) (t : Tree) (cs ds : List Code) (ps : List Proc) → map bare ds ≡ map bare cs → AreCodesOf ts t cs ps → AreCodesOf ts t ds ps
same_codes ts t [] [] ps e h = h
same_codes ts t [] (d ∷ ds) ps e h = absurd cc
same_codes ts t (c ∷ cs) [] ps e h = absurd cc
same_codes ts t (c ∷ cs) (d ∷ ds) [] e h = absurd h
same_codes ts t (c ∷ cs) (d ∷ ds) (p ∷ ps) e h =
    let head : bare d ≡ bare c = cc in
    let tail : map bare ds ≡ map bare cs = cc in
    (same_code ts t c d p head h.0, same_codes ts t cs ds ps tail h.1)
