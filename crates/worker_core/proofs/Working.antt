-- A small step of a worker's strand, with the kits that are free.
use Rattle.std.proofs.Common.{arith, ◌≡◌, ◌⊎◌, inl, inr, ℕ, suc, ◌+◌, ◌-◌, ◌<◌, nat_lt, Bool, List, [], ◌∷◌, All, length, get_or, sym, ap, subst, ◌∙◌}
use Rattle.std.specs.List.{Contains}
use Rattle.std.proofs.lemmas.List.{get_or_default}
use Rattle.std.proofs.lemmas.List.Elements.{All-contains}
use Rattle.std.proofs.lemmas.Bool.{lt-ltb}
use Rattle.monoid_laws.specs.declared.Kind.{Kind}
use Rattle.positions.specs.Setting.{Setting}
use Rattle.positions.specs.declared.phase.Paused.TheVariants as paused
use Rattle.positions.specs.Strands.{PlainStrand}
use Rattle.positions.specs.Advance.{advanced, pause_of}
use Rattle.small_steps.specs.Steps.{HoldsBy}
use Rattle.stepped_runs.specs.Pieces.{PlainPiece, alone, worked_at, worked_to, worked}

-- how a step is done with those free kits
abbrev pub DoneWith : List (List Kind) → (Bool → Type 0) → Type 0
DoneWith ks P = HoldsBy (ks ≡ []) ((k : List Kind) → Contains ks k → ⊥) P

-- with a kit where one is free
done_by : (ks : List (List Kind)) (P : Bool → Type 0) → DoneWith ks P → P (nat_lt 0 (length ks))
done_by [] P h = h.without_kit (λ k c. let less : c.0 < 0 = c.1 in absurd (omega arith))
done_by (k ∷ ks) P h = subst P (sym (lt-ltb 0 (suc (length ks)) (omega arith))) (h.with_kit (λ e. absurd cc))

kits_are : (a b m n : ℕ) → m + b ≡ n + a → a + n - m ≡ b
kits_are a b m n e = omega arith

module _ (setting : Setting) (p : PlainPiece) (s : PlainStrand) (ks ls : List (List Kind)) where
  pub work_taken : pause_of setting.codes p.strand ≡ paused.Working → DoneWith ks (λ kit. s ≡ advanced setting kit p.strand) → length s.lower + length ls ≡ length p.strand.lower + length ks
      → worked setting (length ks) p ≡ alone (length ls) (record p { strand = s })
  work_taken goes_on done count =
      ap (λ pa. worked_at setting pa (length ks) p) goes_on
      ∙ ap (λ x. worked_to x (length ks) p) (sym (done_by ks (λ kit. s ≡ advanced setting kit p.strand) done))
      ∙ ap (λ n. alone n (record p { strand = s })) (kits_are (length ks) (length ls) (length s.lower) (length p.strand.lower) count)

-- all kits are of those kinds where each that there is is
pub all_given : (kinds : List Kind) (ks : List (List Kind)) → ((k : List Kind) → Contains ks k → k ≡ kinds) → All (λ k. k ≡ kinds) ks
all_given kinds ks h = λ i d less. h (get_or ks i d) (i, less, get_or_default ks i (get_or ks i d) d less)

-- and where each was there, or has come home from layers of those kinds
pub all_home : (kinds home : List Kind) (ks ls : List (List Kind)) → home ≡ kinds → All (λ k. k ≡ kinds) ks → ((k : List Kind) → Contains ls k → Contains ks k ⊎ (home ≡ k)) → All (λ k. k ≡ kinds) ls
all_home kinds home ks ls is all h = all_given kinds ls (λ k there. either k (h k there))
  where
    either : (k : List Kind) → Contains ks k ⊎ (home ≡ k) → k ≡ kinds
    either k (inl old) = All-contains (λ x. x ≡ kinds) ks k all old
    either k (inr came) = sym came ∙ is
