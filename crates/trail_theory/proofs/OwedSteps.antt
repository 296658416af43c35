-- Each move keeps the layers that strands owe each other.
use Rattle.std.proofs.Common.{ℕ, List, [], ◌∷◌, ◌++◌, Option, ℤ, ◌≡◌, refl, sym, ap, ◌∙◌, subst, append_assoc, append-nil, true, false, Bool}
use Rattle.meaning.specs.Tree.{Tree}
use Rattle.meaning.specs.Tables.{Tables}
use Rattle.meaning.specs.Outcome.{Log, Accumulators, Place, Syncs}
use Rattle.meaning.specs.Records.{Revised}
use Rattle.meaning.specs.SmallStep.{Start, root, behind, is_entry, Frame, Todo, Child, Phase, entering, running, spawning, returning, leaving, broken, Parent, noting, opening_one, closing_one, Step, moved, taken, paused, with_layer, unless, leaving_layer, Lookup, Continuation, micro}
use Rattle.meaning.specs.Layers.{Notes, noted_top}
use Rattle.meaning.specs.LayeredStrand.{LayeredStrand, advanced, advance_with, first_layered, inlined, detached, continuation, resumed, stolen, joined, settled_frame, settled_under}
use Rattle.meaning.specs.RestOfRun.{lowest}
use Rattle.meaning.specs.Tallies.{Opened, Tally, no_tally, executions, opened_all, closed_by, tallied, tallies_joined}
use Rattle.trail_theory.specs.Order.{Every}
use Rattle.trail_theory.specs.TaskFits.{Stacked}
use Rattle.trail_theory.specs.ReadsAtEnd.{ReadsAtMainsEnd}
use Rattle.trail_theory.specs.Right.{LayersFit, Logged, IsOneLayer}
use Rattle.trail_theory.specs.OpenLayers.{recorded_by, recorded_under, recorded_top, recorded_in, IsTopLayer, OpenFit, OpenAt, EnteredSince, IsTallied}
use Rattle.trail_theory.specs.OwedLayers.{parents_behind, recorded_of, opened_names, Unbroken, IsOver, Precede, OwesLayers}
use Rattle.trail_theory.proofs.Places.{spot_above}
use Rattle.trail_theory.proofs.Joins.{same_name_true}
use Rattle.trail_theory.proofs.Openings.{LayersKept}
use Rattle.trail_theory.proofs.OpenFits.{passed_opened, opening_executes}
use Rattle.trail_theory.proofs.TalliedSteps.{micro_layers}
use Rattle.trail_theory.proofs.OwedLayers.{over_itself, over_not_above, every_join, every_over, recorded_over, under_over, lowest_over, recorded_in_append, parents_append, any_unbroken, closes_top}

pub unbroken_by : (ph : Phase) {A B : Type 0} → (A → B) → Unbroken ph A → Unbroken ph B
unbroken_by (entering child) f h = f h
unbroken_by (running todo) f h = f h
unbroken_by (spawning d x child todo) f h = f h
unbroken_by (returning v) f h = f h
unbroken_by (leaving v) f h = f h
unbroken_by (broken k) f h = tt

pub unbroken_both : (ph : Phase) (A B : Type 0) → Unbroken ph A → Unbroken ph B → Unbroken ph (A × B)
unbroken_both (entering child) A B h k = (h, k)
unbroken_both (running todo) A B h k = (h, k)
unbroken_both (spawning d x child todo) A B h k = (h, k)
unbroken_both (returning v) A B h k = (h, k)
unbroken_both (leaving v) A B h k = (h, k)
unbroken_both (broken k) A B h q = tt

-- ---- what is owed to the right

-- ---- moves without a step

pub owes_first : (program : Tree) → OwesLayers (first_layered program) [] no_tally [] []
owes_first program = record { balance = refl; precede = refl }

module _ (program : Tree) (s : LayeredStrand) (ks : List Continuation) (y : Tally) (left right : List Place) where
  at_phase : (ph : Phase) → s.phase ≡ ph → OwesLayers s ks y left right → Unbroken ph (recorded_in s.frame ph (s.under ++ parents_behind ks) ++ right ≡ opened_names y.opened ++ left)
  at_phase ph e h = subst (λ w. Unbroken w (recorded_in s.frame w (s.under ++ parents_behind ks) ++ right ≡ opened_names y.opened ++ left)) e h.balance

  pub owes_push : (d : ℕ) (x : Option ℕ) (child : Child) (todo : Todo) → s.phase ≡ spawning d x child todo → OwesLayers s ks y left right → OwesLayers (detached program s d child) (continuation s x todo ∷ ks) y left right
  owes_push d x child todo e h = record { balance = at_phase (spawning d x child todo) e h; precede = h.precede }

  pub owes_inline : (d : ℕ) (x : Option ℕ) (child : Child) (todo : Todo) → s.phase ≡ spawning d x child todo → OwesLayers s ks y left right → OwesLayers (inlined program s d x child todo) ks y left right
  owes_inline d x child todo e h = record { balance = at_phase (spawning d x child todo) e h; precede = h.precede }

pub owes_pop : (program : Tree) (s : LayeredStrand) (k : Continuation) (ks : List Continuation) (y : Tally) (left right : List Place) (v : ℤ) → s.phase ≡ leaving v → s.under ≡ [] → OwesLayers s (k ∷ ks) y left right → OwesLayers (resumed program s k v) ks y left right
owes_pop program s k ks y left right v a b h =
    record {
      balance = subst (λ t. recorded_under (t ++ parents_behind (k ∷ ks)) ++ right ≡ opened_names y.opened ++ left) b (at_phase program s (k ∷ ks) y left right (leaving v) a h);
      precede = h.precede;
    }

-- the oldest continuation is taken
pub owes_steal_left : (program : Tree) (s : LayeredStrand) (younger : List Continuation) (k : Continuation) (y : Tally) (left right : List Place) → OwesLayers s (younger ++ k ∷ []) y left right → OwesLayers s younger y left (recorded_of (stolen program k) [] ++ right)
owes_steal_left program s younger k y left right h =
    let R = recorded_of (stolen program k) [] in
    let split : recorded_of s (younger ++ k ∷ []) ≡ recorded_of s younger ++ R =
    ap (λ w. recorded_in s.frame s.phase (s.under ++ w)) (parents_append younger (k ∷ [])) ∙ ap (recorded_in s.frame s.phase) (sym (append_assoc s.under (parents_behind younger) (parents_behind (k ∷ [])))) ∙ recorded_in_append s.frame s.phase (s.under ++ parents_behind younger) (parents_behind (k ∷ [])) in
    record {
      balance = unbroken_by s.phase (λ e. sym (append_assoc (recorded_of s younger) R right) ∙ ap (λ w. w ++ right) (sym split) ∙ e) h.balance;
      precede = h.precede;
    }

pub owes_steal_right : (program : Tree) (k : Continuation) (right : List Place) → Stacked k.parent.frame.instance k.under → Every (IsOver (lowest k.parent.frame k.under)) right → OwesLayers (stolen program k) [] no_tally (recorded_of (stolen program k) [] ++ right) right
owes_steal_right program k right stacked later =
    let n = k.parent.frame.instance in
    let under : Every (IsOver n) (recorded_under (k.under ++ [])) = subst (λ t. Every (IsOver n) (recorded_under t)) (sym (append-nil k.under)) (under_over n k.under stacked) in
    record {
      balance = refl;
      precede = every_join (IsOver n) (recorded_of (stolen program k) []) right (recorded_over n n k.parent.frame.recorded (recorded_under (k.under ++ [])) (over_itself n) under) (every_over n (lowest k.parent.frame k.under) right (lowest_over k.parent.frame k.under stacked) later);
    }

-- ---- a fold

settled_recorded : (e : Place) (v : ℤ) (t : List Parent) → recorded_under (settled_under e v t) ≡ recorded_under t
settled_recorded e v [] = refl
settled_recorded e v (p ∷ t) = ap (recorded_by p.frame.recorded p.frame.instance) (settled_recorded e v t)

settled_top : (e : Place) (v : ℤ) (fr : Frame) (ph : Phase) (ns : List Place) → recorded_top (settled_frame e v fr) ph ns ≡ recorded_top fr ph ns
settled_top e v fr (entering child) ns = refl
settled_top e v fr (running todo) ns = refl
settled_top e v fr (spawning d x child todo) ns = refl
settled_top e v fr (returning w) ns = refl
settled_top e v fr (leaving w) ns = refl
settled_top e v fr (broken k) ns = refl

pub owes_join : (program : Tree) (l r : LayeredStrand) (y z : Tally) (v : ℤ) (left middle right : List Place) → l.phase ≡ leaving v → l.under ≡ [] → z.opened ≡ [] → OwesLayers l [] y left middle → OwesLayers r [] z middle right → OwesLayers (joined program l v r) [] (tallies_joined y z) left right
owes_join program l r y z v left middle right a b c hl hr =
    let e = l.frame.instance in
    let owed : middle ≡ opened_names y.opened ++ left = subst (λ t. recorded_under (t ++ []) ++ middle ≡ opened_names y.opened ++ left) b (at_phase program l [] y left middle (leaving v) a hl) in
    let same : recorded_of (joined program l v r) [] ≡ recorded_of r [] = settled_top e v r.frame r.phase (recorded_under (settled_under e v r.under ++ [])) ∙ ap (recorded_top r.frame r.phase) (ap recorded_under (append-nil (settled_under e v r.under)) ∙ settled_recorded e v r.under ∙ ap recorded_under (sym (append-nil r.under))) in
    record {
      balance = unbroken_by r.phase (λ q. ap (λ w. w ++ right) same ∙ q ∙ ap (λ os. opened_names os ++ middle) c ∙ owed) hr.balance;
      precede = hl.precede;
    }

-- ---- a strand at its entry's sync

top_over : (m : Place) (fr : Frame) (ph : Phase) (ns : List Place) → IsOver m fr.instance → Every (IsOver m) ns → Every (IsOver m) (recorded_top fr ph ns)
top_over m fr (entering child) ns o h = h
top_over m fr (running todo) ns o h = recorded_over m fr.instance fr.recorded ns o h
top_over m fr (spawning d x child todo) ns o h = recorded_over m fr.instance fr.recorded ns o h
top_over m fr (returning v) ns o h = recorded_over m fr.instance fr.recorded ns o h
top_over m fr (leaving v) ns o h = h
top_over m fr (broken k) ns o h = recorded_over m fr.instance fr.recorded ns o h

none_opened : (m : Place) (k : ℕ) (os : List Opened) (names left : List Place) → Every (EnteredSince (behind m k)) os → Every (IsOver m) names → names ≡ opened_names os ++ left → os ≡ []
none_opened m k [] names left h over e = refl
none_opened m k (o ∷ os) names left h over e = absurd (over_not_above m o.instance k (subst (Every (IsOver m)) e over).0 h.0.0)

entry_over : (m : Start) (fr : Frame) (ph : Phase) (t : List Parent) (right left : List Place) (os : List Opened) → is_entry m fr.instance ≡ true → Stacked fr.instance t → Every (EnteredSince m) os → Every (IsOver (lowest fr t)) right → recorded_in fr ph (t ++ []) ++ right ≡ opened_names os ++ left → os ≡ []
entry_over root fr ph t right left os e stacked high later q = absurd cc
entry_over (behind m k) fr ph t right left os e stacked high later q =
    let n = fr.instance in
    let same : m ≡ n = same_name_true m n e in
    let names = recorded_in fr ph (t ++ []) ++ right in
    let under : Every (IsOver n) (recorded_under (t ++ [])) = subst (λ t. Every (IsOver n) (recorded_under t)) (sym (append-nil t)) (under_over n t stacked) in
    let over : Every (IsOver n) names = every_join (IsOver n) (recorded_in fr ph (t ++ [])) right (top_over n fr ph (recorded_under (t ++ [])) (over_itself n) under) (every_over n (lowest fr t) right (lowest_over fr t stacked) later) in
    none_opened m k os names left high (subst (λ p. Every (IsOver p) names) (sym same) over) q

-- ---- a small step

module _ (program : Revised) (tables : Tables) (sight : Accumulators) (lookup : Lookup) where
  abbrev P : Tree
  P = program.tree

  owes_by : (m : Start) (ls : List Notes) (fr : Frame) (ph : Phase) (t : List Parent) (ks : List Continuation) (y : Tally) (left right : List Place) (st : Step) → LayersKept P lookup m (recorded_in fr ph t) st → recorded_in fr ph (t ++ parents_behind ks) ++ right ≡ opened_names y.opened ++ left → Precede m left
      → OwesLayers (advanced P (record { start = m; layers = ls; frame = fr; phase = ph; under = t }) st) ks (tallied program ls st y) left right
  owes_by m ls fr ph t ks y left right (moved noting evs fr' ph' t') c e p =
      let u = parents_behind ks in
      let q : recorded_in fr' ph' (t' ++ u) ≡ recorded_in fr ph (t ++ u) = recorded_in_append fr' ph' t' u ∙ ap (λ w. w ++ recorded_under u) c.1.0 ∙ sym (recorded_in_append fr ph t u) in
      record { balance = any_unbroken ph' _ (ap (λ w. w ++ right) q ∙ e ∙ ap (λ os. opened_names os ++ left) (sym (passed_opened (executions evs) y))); precede = p }
  owes_by m ls fr ph t ks y left right (moved opening_one evs fr' ph' t') c e p =
      let u = parents_behind ks in
      let op = c.1.1 in
      let n = fr'.instance in
      let ex : executions evs ≡ (op.of, op.args) ∷ [] = ap executions op.events ∙ opening_executes P tables sight lookup op.ahead fr'.left op.of op.args n op.told op.memo op.unanswered in
      let q : recorded_in fr' ph' (t' ++ u) ≡ n ∷ recorded_in fr ph (t ++ u) = recorded_in_append fr' ph' t' u ∙ ap (λ w. w ++ recorded_under u) c.1.0 ∙ ap (λ w. n ∷ w) (sym (recorded_in_append fr ph t u)) in
      subst (λ xs. OwesLayers (advanced P (record { start = m; layers = ls; frame = fr; phase = ph; under = t }) (moved opening_one evs fr' ph' t')) ks (opened_all fr' xs y) left right) (sym ex)
      (record { balance = any_unbroken ph' _ (ap (λ w. w ++ right) q ∙ ap (λ w. n ∷ w) e); precede = p })
  owes_by m ls fr ph t ks y left right (moved closing_one evs fr' ph' t') c e p = absurd c
  owes_by m ls fr ph t ks y left right (taken evs r fr' ph' t') c e p =
      let u = parents_behind ks in
      let q : recorded_in fr' ph' (t' ++ u) ≡ recorded_in fr ph (t ++ u) = recorded_in_append fr' ph' t' u ∙ ap (λ w. w ++ recorded_under u) c.1.0 ∙ sym (recorded_in_append fr ph t u) in
      record { balance = any_unbroken ph' _ (ap (λ w. w ++ right) q ∙ e); precede = p }
  owes_by m ls fr ph t ks y left right (paused j) c e p = record { balance = any_unbroken ph _ e; precede = p }

  closed_balance : (B : Log) (os : List Opened) (ls : List Notes) (ss : List Log) (n : Place) (v : ℤ) (y : Tally) (names left : List Place) → OpenFit P tables sight lookup B os ss → LayersFit P ls ss → IsTopLayer os n → n ∷ names ≡ opened_names os ++ left → names ≡ opened_names (closed_by program os (noted_top ls (Syncs n ∷ [])) (leaving v) y).opened ++ left
  closed_balance B [] ls ss n v y names left fit fits top e = absurd top
  closed_balance B (o ∷ os) ls [] n v y names left fit fits top e = absurd fit
  closed_balance B (o ∷ os) [] (s ∷ ss) n v y names left fit fits top e = absurd fits
  closed_balance B (o ∷ os) (l ∷ ls) (s ∷ ss) n v y names left fit fits top e = cc

  module _ (ruled : ReadsAtMainsEnd P) (kit : Bool) (acc : Accumulators) where
    owes_return : (m : Start) (ls : List Notes) (fr : Frame) (v : ℤ) (t : List Parent) (ks : List Continuation) (y : Tally) (left right : List Place) (B : Log) (ss : List Log) → OpenFit P tables sight lookup B y.opened ss → LayersFit P ls ss → OwesLayers (record { start = m; layers = ls; frame = fr; phase = returning v; under = t }) ks y left right
        → (b r : Bool) → fr.recorded ≡ r → (r ≡ true → b ≡ false → IsTopLayer y.opened fr.instance) → (let st = unless b (moved (leaving_layer P tables lookup kit acc r) (Syncs fr.instance ∷ []) (with_layer false fr) (leaving v) t) in OwesLayers (advanced P (record { start = m; layers = ls; frame = fr; phase = returning v; under = t }) st) ks (tallied program ls st y) left right)
    owes_return m ls fr v t ks y left right B ss fit fits h true r q top = h
    owes_return m ls fr v t ks y left right B ss fit fits h false false q top =
        let names = recorded_under (t ++ parents_behind ks) in
        record { balance = subst (λ b. recorded_by b fr.instance names ++ right ≡ opened_names y.opened ++ left) q h.balance; precede = h.precede }
    owes_return m ls fr v t ks y left right B ss fit fits h false true q top =
        let names = recorded_under (t ++ parents_behind ks) in
        record { balance = closed_balance B y.opened ls ss fr.instance v y (names ++ right) left fit fits (top refl refl) (subst (λ b. recorded_by b fr.instance names ++ right ≡ opened_names y.opened ++ left) q h.balance); precede = h.precede }

    owes_at : (m : Start) (ls : List Notes) (fr : Frame) (ph : Phase) (t : List Parent) (ks : List Continuation) (y : Tally) (left right : List Place) → (let s : LayeredStrand = record { start = m; layers = ls; frame = fr; phase = ph; under = t } in IsTallied program tables sight lookup s y → OwesLayers s ks y left right
        → OwesLayers (advance_with P tables lookup kit acc s) ks (tallied program ls (micro P tables lookup kit acc m fr ph t) y) left right)
    owes_at m ls fr (entering child) t ks y left right h o = owes_by m ls fr (entering child) t ks y left right _ (micro_layers program tables sight lookup ruled kit acc m ls fr (entering child) t tt h.right h.shallow) o.balance o.precede
    owes_at m ls fr (running todo) t ks y left right h o = owes_by m ls fr (running todo) t ks y left right _ (micro_layers program tables sight lookup ruled kit acc m ls fr (running todo) t tt h.right h.shallow) o.balance o.precede
    owes_at m ls fr (spawning d x child todo) t ks y left right h o = o
    owes_at m ls fr (returning v) t ks y left right h o = owes_return m ls fr v t ks y left right h.right.before h.right.segments h.opens h.right.logged o (is_entry m fr.instance) fr.recorded refl (λ r e. closes_top (record { start = m; layers = ls; frame = fr; phase = returning v; under = t }) ks y left right o r (spot_above m fr.instance fr.next h.right.task.fringe e))
    owes_at m ls fr (leaving v) t ks y left right h o = owes_by m ls fr (leaving v) t ks y left right _ (micro_layers program tables sight lookup ruled kit acc m ls fr (leaving v) t tt h.right h.shallow) o.balance o.precede
    owes_at m ls fr (broken k) t ks y left right h o = o

    pub owes_advance : (s : LayeredStrand) (ks : List Continuation) (y : Tally) (left right : List Place) → IsTallied program tables sight lookup s y → OwesLayers s ks y left right → OwesLayers (advance_with P tables lookup kit acc s) ks (tallied program s.layers (micro P tables lookup kit acc s.start s.frame s.phase s.under) y) left right
    owes_advance s ks y left right h o = owes_at s.start s.layers s.frame s.phase s.under ks y left right h o

  -- ---- a strand at its entry's sync, with nothing behind it, has one layer

  pub one_of : (B : Log) (os : List Opened) (ls : List Notes) (ss : List Log) → os ≡ [] → OpenFit P tables sight lookup B os ss → LayersFit P ls ss → IsOneLayer ls
  one_of B [] ls [] e fit fits = absurd fit
  one_of B [] [] (s ∷ []) e fit fits = fits
  one_of B [] (l ∷ []) (s ∷ []) e fit fits = tt
  one_of B [] (l ∷ k ∷ ls) (s ∷ []) e fit fits = absurd fits.1
  one_of B [] ls (s ∷ r ∷ ss) e fit fits = absurd fit
  one_of B (o ∷ os) ls ss e fit fits = absurd cc

  one_at : (ph : Phase) (B : Log) (os : List Opened) (ls : List Notes) (ss : List Log) → OpenAt P tables sight lookup ph B os ss → Logged P ph ls ss → Unbroken ph (os ≡ []) → Unbroken ph (IsOneLayer ls)
  one_at (entering child) B os ls ss fit fits e = one_of B os ls ss e fit fits
  one_at (running todo) B os ls ss fit fits e = one_of B os ls ss e fit fits
  one_at (spawning d x child todo) B os ls ss fit fits e = one_of B os ls ss e fit fits
  one_at (returning v) B os ls ss fit fits e = one_of B os ls ss e fit fits
  one_at (leaving v) B os ls ss fit fits e = one_of B os ls ss e fit fits
  one_at (broken k) B os ls ss fit fits e = tt

  pub entry_opened : (s : LayeredStrand) (y : Tally) (left right : List Place) → is_entry s.start s.frame.instance ≡ true → IsTallied program tables sight lookup s y → OwesLayers s [] y left right → Every (IsOver (lowest s.frame s.under)) right → Unbroken s.phase (y.opened ≡ [])
  entry_opened s y left right e h o later = unbroken_by s.phase (entry_over s.start s.frame s.phase s.under right left y.opened e h.right.task.stacked h.high later) o.balance

  pub entry_one_layer : (s : LayeredStrand) (y : Tally) (left right : List Place) → is_entry s.start s.frame.instance ≡ true → IsTallied program tables sight lookup s y → OwesLayers s [] y left right → Every (IsOver (lowest s.frame s.under)) right → Unbroken s.phase (IsOneLayer s.layers)
  entry_one_layer s y left right e h o later = one_at s.phase h.right.before y.opened s.layers h.right.segments h.opens h.right.logged (entry_opened s y left right e h o later)

  -- ---- main has no layer of its own

  pub alone_opened : (b : Bool) (m : Start) (os : List Opened) → Every (EnteredSince m) os → recorded_by b [] [] ++ [] ≡ opened_names os ++ [] → os ≡ []
  alone_opened b m [] h e = refl
  alone_opened true m (o ∷ os) h e = absurd (h.0.1 (sym (let q : [] ≡ o.instance = cc in q)))
  alone_opened false m (o ∷ os) h e = absurd cc
