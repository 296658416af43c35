-- A steal keeps a run right.
use Rattle.std.proofs.Common.{◌+◌, ℕ, zero, suc, List, [], ◌∷◌, ◌++◌, length, length-append, append_assoc, append-nil, ◌≡◌, inl, inr, refl, sym, ap, ◌∙◌, subst, arith, true, false, Bool}
use Rattle.meaning.specs.Tables.{Tables}
use Rattle.meaning.specs.Outcome.{Place}
use Rattle.meaning.specs.Records.{Revised}
use Rattle.meaning.specs.SmallStep.{Start, Continuation, place_of_continuation}
use Rattle.meaning.specs.LayeredStrand.{stolen, marked}
use Rattle.meaning.specs.RestOfRun.{lowest}
use Rattle.meaning.specs.Strands.{Held, holds_by}
use Rattle.meaning.specs.Tallies.{no_tally}
use Rattle.meaning.specs.Schedules.{Memory, Piece, robbed, robbed_of, stolen_from}
use Rattle.trail_theory.specs.Right.{IsRightContinuation}
use Rattle.trail_theory.proofs.Joins.{steal_right}
use Rattle.run_theory.specs.RightRuns.{front, Links, under_flags, flags_of, deque_flags, IsPushed}
use Rattle.run_theory.proofs.Flags.{lowest_frame, stacked_long, child_long}
use Rattle.run_theory.proofs.Pieces.{ForSome, held_any, behind_long}
use Rattle.strand_theory.proofs.Laws.{S, L}
use Rattle.run_theory.proofs.Steps.{FitPiece, FitAll, Whole, Pushed, Put, Keeps}

pub links_split : (younger : List Continuation) (n : Place) (k : Continuation) (e : Place) → Links n (younger ++ k ∷ []) e → Links n younger (place_of_continuation k) × (lowest k.parent.frame k.under ≡ e)
links_split [] n k e h = (h.0, h.1)
links_split (y ∷ ys) n k e h = let r = links_split ys (lowest y.parent.frame y.under) k e h.1 in ((h.0, r.0), r.1)

pub none_last : (younger : List Continuation) (k : Continuation) → younger ++ k ∷ [] ≡ [] → ⊥
none_last [] k e = cc
none_last (y ∷ ys) k e = cc

flags_append : (a b : List Continuation) → deque_flags (a ++ b) ≡ deque_flags a ++ deque_flags b
flags_append [] b = refl
flags_append (k ∷ a) b = ap (λ u. flags_of k.parent.frame k.under ++ u) (flags_append a b) ∙ sym (append_assoc (flags_of k.parent.frame k.under) (deque_flags a) (deque_flags b))

regroup : (fs ys gs later : List Bool) → (fs ++ (ys ++ (gs ++ []))) ++ later ≡ (fs ++ ys) ++ (gs ++ later)
regroup fs ys gs later = simp (append_assoc, append-nil)

robbed_flags : (fs later own found : List Bool) (younger : List Continuation) (k : Continuation) → (fs ++ deque_flags (younger ++ k ∷ [])) ++ later ≡ own ++ found → (fs ++ deque_flags younger) ++ (flags_of k.parent.frame k.under ++ later) ≡ own ++ found
robbed_flags fs later own found younger k e =
    let g = flags_of k.parent.frame k.under in
    sym (regroup fs (deque_flags younger) g later) ∙ sym (ap (λ u. (fs ++ u) ++ later) (flags_append younger (k ∷ []))) ∙ e

module _ (program : Revised) (tables : Tables) (memory : Memory) where
  pub pushed_split : (m : Start) (younger : List Continuation) (k : Continuation) → Pushed program tables memory m (younger ++ k ∷ []) → Pushed program tables memory m younger × IsPushed program.tree tables (S program tables memory) (L program tables memory) m k
  pushed_split m [] k h = (tt, h.0)
  pushed_split m (y ∷ ys) k h = let r = pushed_split m ys k h.1 in ((h.0, r.0), r.1)

  abbrev thiefs : ℕ → Continuation → Piece
  thiefs thief k = record { strand = stolen program.tree k; deque = []; state = Held thief; tally = no_tally }

  thief_fits : (thief : ℕ) (k : Continuation) (later : List Bool) (ps : List Piece) → IsRightContinuation program.tree tables (S program tables memory) (L program tables memory) k → lowest k.parent.frame k.under ≡ front ps → FitAll program tables memory false ps later
      → FitPiece program tables memory false (thiefs thief k) (flags_of k.parent.frame k.under ++ later) later (front ps)
  thief_fits thief k later ps h low rest =
      let g = flags_of k.parent.frame k.under in
      let a : length (g ++ later) ≡ suc (length (under_flags k.under)) + length later = length-append g later in
      let b : length later ≡ length (front ps) = behind_long program.tree tables (S program tables memory) (L program tables memory) false ps later rest in
      let c : length (lowest k.parent.frame k.under) ≡ length (front ps) = ap length low in
      let d : length (under_flags k.under) + length (lowest k.parent.frame k.under) ≡ length k.parent.frame.instance = stacked_long k.parent.frame k.under h.stacked in
      let f : length (place_of_continuation k) ≡ suc (length k.parent.frame.instance) = child_long k.parent.frame.instance k.child in
      record {
        begins = tt;
        as_long = omega arith;
        fits = inl (record {
          right = steal_right program.tree tables (S program tables memory) (L program tables memory) k h;
          links = lowest_frame k.parent.frame (marked k) k.under refl ∙ low;
          own = [];
          flags = ap (λ u. u ++ later) (append-nil g);
          layers = refl;
          closed = tt;
        });
        deque = tt;
        laid = tt;
      }

  module _ (thief kits v : ℕ) where
    steal_whole : (first : Bool) (found later : List Bool) (p : Piece) (ps : List Piece) (younger : List Continuation) (k : Continuation) → holds_by v p.state ≡ true → FitPiece program tables memory first p found later (front ps) → Whole program tables memory p found later (front ps) → FitAll program tables memory false ps later → p.deque ≡ younger ++ k ∷ []
        → ForSome (Put program tables memory first found p ps) (robbed program tables memory thief kits p younger k)
    steal_whole first found later p ps younger k held i h rest q =
        let low = lowest p.strand.frame p.strand.under in
        let fs = flags_of p.strand.frame p.strand.under in
        let r = links_split younger low k (front ps) (subst (λ ks. Links low ks (front ps)) q h.links) in
        let c = pushed_split p.strand.start younger k (subst (λ ks. Pushed program tables memory p.strand.start ks) q i.deque) in (
          refl,
          (
            flags_of k.parent.frame k.under ++ later,
            record {
              begins = i.begins;
              as_long = i.as_long;
              fits = inl (record {
                right = h.right;
                links = r.0;
                own = h.own;
                flags = robbed_flags fs later h.own found younger k (subst (λ ks. (fs ++ deque_flags ks) ++ later ≡ h.own ++ found) q h.flags);
                layers = h.layers;
                closed = h.closed;
              });
              deque = c.0;
              laid = held_any v p.state _ younger held;
            },
            (later, thief_fits thief k later ps c.1.1 r.1 rest, rest),
          ),
        )

    rob_fits : (first : Bool) (found later : List Bool) (p : Piece) (ps : List Piece) → holds_by v p.state ≡ true → FitPiece program tables memory first p found later (front ps) → FitAll program tables memory false ps later → (younger older : List Continuation) → p.deque ≡ younger ++ older
        → ForSome (Put program tables memory first found p ps) (robbed_of program tables memory thief kits p younger older)
    rob_fits first found later p ps held i rest younger [] q = tt
    rob_fits first found later p ps held i rest younger (k ∷ []) q =
        elim i.fits [ inl h ↦ steal_whole first found later p ps younger k held i h rest q | inr c ↦ absurd (none_last younger k (sym q ∙ c.deque)) ]
    rob_fits first found later p ps held i rest younger (k ∷ j ∷ ks) q = rob_fits first found later p ps held i rest (younger ++ k ∷ []) (j ∷ ks) (q ∙ sym (append_assoc younger (k ∷ []) (j ∷ ks)))

  pub steals_fit : (thief v kits : ℕ) → Keeps program tables memory v (stolen_from program tables memory thief kits)
  steals_fit thief v zero first found later p ps held i rest = tt
  steals_fit thief v (suc kits) first found later p ps held i rest = rob_fits thief kits v first found later p ps held i rest [] p.deque refl
