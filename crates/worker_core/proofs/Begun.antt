-- The strands of a run's beginning.
use Rattle.std.proofs.Common.{◌≡◌, ℕ, ◌+◌, ◌-◌, List, [], ◌∷◌, ◌++◌, length, length-append, ap, ◌∙◌, arith}
use Rattle.monoid_laws.specs.declared.Kind.{Kind}
use Rattle.meaning.specs.Strands.{BookStep, Held}
use Rattle.linked_program.specs.declared.code.Code.{Code}
use Rattle.linked_program.specs.Initials.{PlainInitial}
use Rattle.positions.specs.Strands.{PlainStrand}
use Rattle.positions.specs.Moves.{first_strand}
use Rattle.stepped_runs.specs.Pieces.{PlainPiece}
use Rattle.stepped_runs.specs.Runs.{first_run}
use Rattle.worker_core.specs.Strands.{layers_in}

abbrev held : PlainStrand → PlainPiece
held s = record { strand = s; deque = []; state = Held 0 }

module _ (codes : List Code) (kinds : List Kind) (initials : List PlainInitial) (main : ℕ) (kits ks : List (List Kind)) (k : List Kind) (taken : kits ≡ ks ++ k ∷ []) (fits : k ≡ kinds)
    (pieces : List PlainPiece) (p : PlainPiece) (s : PlainStrand) (one : pieces ≡ p ∷ []) (is_held : p ≡ held s) (begins : s ≡ first_strand codes k initials main) where
  piece_is : pieces ≡ held (first_strand codes kinds initials main) ∷ []
  piece_is = one ∙ ap (λ (q : PlainPiece). q ∷ []) (is_held ∙ ap held (begins ∙ ap (λ c. first_strand codes c initials main) fits))

  counted : length kits ≡ length ks + 1
  counted = ap length taken ∙ length-append ks (k ∷ [])

  pub first_begun : (history : List BookStep) → history ≡ [] → record { pieces = pieces; kits = length ks; history = history } ≡ first_run codes kinds initials main (length kits)
  first_begun history none =
      let left : length ks ≡ length kits - 1 = let c = counted in omega (arith, c) in
      ap (λ (ps : List PlainPiece). record { pieces = ps; kits = length ks; history = history }) piece_is
      ∙ ap (λ (n : ℕ). record { pieces = held (first_strand codes kinds initials main) ∷ []; kits = n; history = history }) left
      ∙ ap (λ (h : List BookStep). record { pieces = held (first_strand codes kinds initials main) ∷ []; kits = length kits - 1; history = h }) none

  pub kits_begun : length ks + layers_in pieces ≡ length kits
  kits_begun =
      let c = counted in
      let n : layers_in pieces ≡ 1 = ap layers_in piece_is in
      omega (arith, c, n)
