-- How a step goes on where an evaluation has ended: with its value, with a fault, or undone for want of memory.
use Rattle.std.proofs.Common.{◌≡◌, ℕ, List, length, take, Option, Some, None, sym, ap, ◌∙◌, subst}
use Rattle.monoid_laws.specs.declared.Kind.{Kind}
use Rattle.evaluation.specs.Values.{NumberedOut}
use Rattle.positions.specs.Layers.{kept_behind}
use Rattle.positions.specs.Strands.{PlainStrand}
use Rattle.positions.specs.Advance.{evaluated}
use Rattle.view_pool.specs.declared.pool.KitSource.{Ghosts as Source}
use Rattle.layers.proofs.Kept.{first_kept}
use Rattle.small_steps.specs.Ends.{Evaluates}
use Rattle.small_steps.specs.Steps.{IsValued, KeepsKits, KeepsAllKits}
use Rattle.small_steps.proofs.Nesting.{evaluated_some}
use Rattle.small_steps.proofs.Refusals.{forgotten_valued}

-- without the readings behind so many
abbrev forgetting : ℕ → PlainStrand → PlainStrand
forgetting k s = record s { layer = record s.layer { notes = take k s.layer.notes } }

module _ {A B : Type 0} (view : B → A) (n : ℕ) (o : NumberedOut A) (s t : PlainStrand) (r : Option B) (ends : Evaluates view n o s t r) where
  with_value : (b : B) → r ≡ Some b → Evaluates view n o s t (Some b)
  with_value b is = subst (λ q. Evaluates view n o s t q) is ends

  pub goes_on : (next : A → PlainStrand → PlainStrand) (b : B) → r ≡ Some b → next (view b) t ≡ evaluated n o next s
  goes_on next b is = evaluated_some view n o next s t b (with_value b is)

  pub goes_on_above : (b : B) → r ≡ Some b → t.lower ≡ s.lower
  goes_on_above b is = ap (λ (u : PlainStrand). u.lower) (with_value b is).1

  pub is_faulted : (next : A → PlainStrand → PlainStrand) → r ≡ None → t ≡ evaluated n o next s
  is_faulted next is = subst (λ q. Evaluates view n o s t q) is ends next

  -- memory is refused behind it, and what it read is forgotten
  pub is_undone : (b : B) (u v : PlainStrand) (k : ℕ) → r ≡ Some b → k ≡ length s.layer.notes → u ≡ t → v ≡ forgetting k u → v ≡ s
  is_undone b u v k is count same new =
      new ∙ ap (forgetting k) (same ∙ (with_value b is).1)
      ∙ ap (λ j. record s { layer = record s.layer { notes = take j (kept_behind s.layer.keeps s.layer.notes o.notes) } }) count
      ∙ ap (λ ns. record s { layer = record s.layer { notes = ns } }) (first_kept s.layer.keeps s.layer.notes o.notes)

  pub is_valued : (b : B) (u v : PlainStrand) (k : ℕ) → r ≡ Some b → k ≡ length s.layer.notes → IsValued t u → v ≡ forgetting k u → IsValued s v
  is_valued b u v k is count valued new =
      subst (IsValued s) (sym (new ∙ ap (λ j. forgetting j u) count))
      (forgotten_valued s u o.notes (subst (λ (q : PlainStrand). IsValued q u) (with_value b is).1 valued))

-- the kits that a step takes and gives back between an evaluation and what is forgotten of it
pub kits_between : {S : Type 0} (source : Source S (List Kind)) (kinds : List Kind) (old new : S) (s t u v : PlainStrand) → t.lower ≡ s.lower → v.lower ≡ u.lower
    → KeepsAllKits source kinds old new t u → KeepsAllKits source kinds old new s v
kits_between source kinds old new s t u v e f h =
    subst (λ ls. KeepsKits source.fits source.gives source.free source.total kinds old new ls v.lower) e
    (subst (λ ls. KeepsKits source.fits source.gives source.free source.total kinds old new t.lower ls) (sym f) h)
