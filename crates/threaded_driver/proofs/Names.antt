-- The name of the lowest instance, where one is put on top or taken off.
use Rattle.std.proofs.Common.{◌≡◌, ℕ, suc, ◌+◌, ◌-◌, ◌<◌, List, [], ◌∷◌, ◌++◌, length, take, drop, sym, ap, ◌∙◌, arith}
use Rattle.std.proofs.lemmas.List.{length-append, length-take-le, length-drop, take-take, take_all, take-append-le, take-append-drop}
use Rattle.positions.specs.Activations.{PlainActivation}
use Rattle.positions.specs.Strands.{shorter}
use Rattle.stealing_deques.specs.Order.{GoesOn}
use Rattle.worker_seats.specs.Spots.{lowest_name}

-- one is taken off
pub under : (path : List ℕ) (rest : List PlainActivation) → lowest_name (shorter path) rest ≡ take (length path - suc (length rest)) path
under path rest =
    ap (λ n. take (n - length rest) (shorter path)) (length-take-le (length path - 1) path (omega arith))
    ∙ take-take (length path - 1 - length rest) (length path - 1) path (omega arith)
    ∙ ap (λ n. take n path) (let e : length path - 1 - length rest ≡ length path - suc (length rest) = omega arith in e)

-- one is put on top
pub above : (path : List ℕ) (k : ℕ) (p : PlainActivation) (below : List PlainActivation) → lowest_name (path ++ k ∷ []) (p ∷ below) ≡ lowest_name path below
above path k p below =
    let long : length (path ++ k ∷ []) ≡ length path + 1 = length-append path (k ∷ []) in
    let e : length (path ++ k ∷ []) - suc (length below) ≡ length path - length below = omega arith in
    ap (λ n. take n (path ++ k ∷ [])) e ∙ take-append-le (length path - length below) path (k ∷ []) (omega arith)

-- there is one alone
pub alone : (path : List ℕ) (below : List PlainActivation) → below ≡ [] → lowest_name path below ≡ path
alone path below e = ap (lowest_name path) e ∙ take_all (length path - 0) path (omega arith)

-- the name goes on from that of the lowest one, where the topmost one is taken off
pub goes_on : (path : List ℕ) (below : List PlainActivation) → 0 < length path → GoesOn (lowest_name (shorter path) below) path
goes_on path below some =
    let n = length path - suc (length below) in
    let long : length (drop n path) ≡ length path - n = length-drop n path in
    (drop n path, sym (take-append-drop n path) ∙ ap (λ name. name ++ drop n path) (sym (under path below)), omega arith)
