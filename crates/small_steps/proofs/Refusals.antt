-- What a strand is where memory was refused: all is as it was but for the values of the two topmost layers.
use Rattle.std.proofs.Common.{◌≡◌, ℕ, ◌+◌, ◌-◌, Bool, false, List, [], ◌∷◌, ◌++◌, length, take, Option, refl, sym, ap, ◌∙◌, subst, arith}
use Rattle.std.proofs.Math.Seq.{take-append_seam}
use Rattle.std.proofs.lemmas.List.{length-append}
use Rattle.evaluation.specs.declared.note.Note.{Note}
use Rattle.positions.specs.declared.work.Work.{Work}
use Rattle.positions.specs.declared.phase.Phase.TheVariants.{Entering, Running}
use Rattle.positions.specs.Activations.{PlainActivation}
use Rattle.positions.specs.Layers.{PlainLayer}
use Rattle.positions.specs.Strands.{PlainStrand, shorter}
use Rattle.positions.specs.Advance.{noted, pushed}
use Rattle.small_steps.specs.Steps.{revalued, revalued_first, IsValued, took_back}
use Rattle.layers.proofs.Kept.{first_kept}

lower_same : (ls : List PlainLayer) → ls ≡ revalued_first ls ls
lower_same [] = refl
lower_same (l ∷ ls) = refl

-- the topmost layer's values alone
pub top_valued : (s t : PlainStrand) → t ≡ record s { layer = revalued s.layer t.layer } → IsValued s t
top_valued s t e =
    e ∙ ap (λ ls. record s { layer = revalued s.layer t.layer; lower = ls }) (lower_same s.lower ∙ ap (revalued_first s.lower) (sym (ap (λ (u : PlainStrand). u.lower) e)))

-- what was read since is forgotten
pub forgotten_valued : (s n : PlainStrand) (ns : List Note) → IsValued (noted ns s) n → IsValued s (record n { layer = record n.layer { notes = take (length s.layer.notes) n.layer.notes } })
forgotten_valued s n ns e =
    ap (λ (u : PlainStrand). record u { layer = record u.layer { notes = take (length s.layer.notes) u.layer.notes } }) e
    ∙ ap (λ ms. record s { layer = record s.layer { worths = n.layer.worths; notes = ms }; lower = revalued_first s.lower n.lower }) (first_kept s.layer.keeps s.layer.notes ns)

pub path_back : (xs : List ℕ) (x : ℕ) → shorter (xs ++ x ∷ []) ≡ xs
path_back xs x =
    let e : length (xs ++ x ∷ []) ≡ length xs + 1 = length-append xs (x ∷ []) in
    let f : length (xs ++ x ∷ []) - 1 ≡ length xs = omega arith in
    ap (λ n. take n (xs ++ x ∷ [])) f ∙ take-append_seam xs (x ∷ [])

more_less : (n : ℕ) → (n + 1) - 1 ≡ n
more_less n = omega arith

took_layer : (below : List PlainActivation) (spawned : Bool) (into : Option ℕ) (w : Work) (s : PlainStrand) → (took_back below spawned into w s).layer ≡ s.layer
took_layer [] spawned into w s = refl
took_layer (p ∷ below) spawned into w s = refl

took_lower : (below : List PlainActivation) (spawned : Bool) (into : Option ℕ) (w : Work) (s : PlainStrand) → (took_back below spawned into w s).lower ≡ s.lower
took_lower [] spawned into w s = refl
took_lower (p ∷ below) spawned into w s = refl

-- a called child is taken away again
child_gone : (s n : PlainStrand) (child : PlainActivation) (into : Option ℕ) (w : Work) → s.phase ≡ Running → IsValued (pushed child false into w Entering s) n
    → IsValued s (took_back n.below s.top.spawned s.top.into s.top.work n)
child_gone s n child into w run e =
    ap (λ (u : PlainStrand). took_back u.below s.top.spawned s.top.into s.top.work u) e
    ∙ ap (λ p. record s { layer = revalued s.layer n.layer; lower = revalued_first s.lower n.lower; path = p; top = record s.top { children = (s.top.children + 1) - 1 }; phase = Running }) (path_back s.path (s.top.children + 1))
    ∙ ap (λ k. record s { layer = revalued s.layer n.layer; lower = revalued_first s.lower n.lower; top = record s.top { children = k }; phase = Running }) (more_less s.top.children)
    ∙ ap (λ ph. record s { layer = revalued s.layer n.layer; lower = revalued_first s.lower n.lower; phase = ph }) (sym run)
    ∙ ap (λ l. record s { layer = revalued s.layer l; lower = revalued_first s.lower n.lower }) (sym (took_layer n.below s.top.spawned s.top.into s.top.work n))
    ∙ ap (λ ls. record s { layer = revalued s.layer (took_back n.below s.top.spawned s.top.into s.top.work n).layer; lower = revalued_first s.lower ls }) (sym (took_lower n.below s.top.spawned s.top.into s.top.work n))

pub child_back : (s n back : PlainStrand) (child : PlainActivation) (into : Option ℕ) (w : Work) (spawned : Bool) (slot : Option ℕ) (left : Work) → s.phase ≡ Running → spawned ≡ s.top.spawned → slot ≡ s.top.into
    → left ≡ s.top.work → IsValued (pushed child false into w Entering s) n → back ≡ took_back n.below spawned slot left n → IsValued s back
child_back s n back child into w spawned slot left run e f h valued is =
    subst (IsValued s) (sym (is ∙ ap (λ b. took_back n.below b slot left n) e ∙ ap (λ i. took_back n.below s.top.spawned i left n) f ∙ ap (λ k. took_back n.below s.top.spawned s.top.into k n) h))
    (child_gone s n child into w run valued)
