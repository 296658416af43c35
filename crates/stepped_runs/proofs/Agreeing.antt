-- Steps of runs of numbers and of the definitions that agree: both are taken, and what comes of the one stands for what comes of the other, or both are refused.
use Rattle.std.proofs.Common.{◌≡◌, inl, inr, ℕ, Bool, true, false, cond, List, [], ◌∷◌, ◌++◌, append_assoc, Option, Some, None, Result, Ok, Err, refl, sym, ◌∙◌, ap, subst}
use Rattle.std.specs.Prelude.{take}
use Rattle.meaning.specs.Outcome.{Place}
use Rattle.meaning.specs.Trail.{child_of}
use Rattle.meaning.specs.SmallStep.{root, behind, Start as NamedStart}
use Rattle.meaning.specs.Strands.{State, Held, Ended, Stalled, BookStep, holds_by, waits}
use Rattle.meaning.specs.Strands as strands
use Rattle.meaning.specs.Schedules.{Piece, RunState}
use Rattle.meaning.specs.Schedules as schedules
use Rattle.positions.specs.Setting.{Setting}
use Rattle.positions.specs.declared.phase.Phase.{Phase}
use Rattle.positions.specs.declared.start.Start.{Start}
use Rattle.positions.specs.declared.start.Start.TheVariants.{Root, Behind}
use Rattle.positions.specs.Strands.{PlainStrand}
use Rattle.positions.specs.Stands.{IsStart}
use Rattle.positions.specs.Simulation.{place_of as place_behind}
use Rattle.numbered_runs.specs.declared.refusal.Refusal.{Refusal}
use Rattle.stepped_runs.specs.Pieces.{PlainPiece, Change, place_of, is_held_by}
use Rattle.stepped_runs.specs.Runs.{PlainRun, among, changed}
use Rattle.stepped_runs.specs.Stands.{IsLaidAs, StandsForPiece, StandForPieces, StandsForRun}

-- what holds of each of them
abbrev pub Each : {A : Type 0} → (A → Type 0) → List A → Type 0
Each P [] = Unit {0}
Each P (x ∷ xs) = P x × Each P xs

-- the place after which a strand begins
place_at : (st : Start) (ph : Phase) (path : Place) (m : NamedStart) → IsStart st ph path m → schedules.place_of_start m ≡ place_behind st path
place_at Root ph path root h = refl
place_at Root ph path (behind m j) h = absurd h
place_at (Behind d c) ph path root h = absurd h
place_at (Behind d c) ph path (behind m j) h = ap (λ n. child_of n j) h.0 ∙ ap (child_of (take d path)) h.1

pub held_any : (w : ℕ) (st : State) (ph : Phase) (s : PlainStrand) → holds_by w st ≡ true → IsLaidAs st ph s
held_any w (Held v) ph s e = tt
held_any w Ended ph s e = absurd cc
held_any w Stalled ph s e = absurd cc
held_any w strands.Faulted ph s e = absurd cc
held_any w strands.Finished ph s e = absurd cc

module _ (setting : Setting) where
  pub piece_place : (p : PlainPiece) (x : Piece) → StandsForPiece setting p x → schedules.place_of x ≡ place_of p
  piece_place p x h = place_at p.strand.start p.strand.phase p.strand.path x.strand.start h.strand.start

  pub record StandsForChange (c : Change) (d : schedules.Change) : Type 0 where
    pub pieces : StandForPieces setting c.pieces d.pieces
    pub kits : d.kits ≡ c.kits
    pub noted : d.noted ≡ c.noted

  abbrev pub Agrees : Result Change Refusal → Option schedules.Change → Type 0
  Agrees (Ok c) (Some d) = StandsForChange c d
  Agrees (Err e) None = Unit {0}
  Agrees _ _ = ⊥

  abbrev pub RunAgrees : Result PlainRun Refusal → Option RunState → Type 0
  RunAgrees (Ok s) (Some y) = StandsForRun setting s y
  RunAgrees (Err e) None = Unit {0}
  RunAgrees _ _ = ⊥

  -- ---- lists of pieces

  pub none_there : (q : PlainPiece) (ps : List PlainPiece) → StandForPieces setting (q ∷ ps) [] → ⊥
  none_there q [] h = h
  none_there q (r ∷ ps) h = h

  -- a strand that waits is no left one of two between which a fold was refused
  pub waiting_first : (r : PlainPiece) (ps : List PlainPiece) (y : Piece) (xs : List Piece) → waits r.state ≡ true → StandForPieces setting (r ∷ ps) (y ∷ xs) → StandsForPiece setting r y × StandForPieces setting ps xs
  waiting_first r [] y [] e h = (h, tt)
  waiting_first r [] y (z ∷ xs) e h = absurd h
  waiting_first r (q ∷ ps) y [] e h = absurd h
  waiting_first r (q ∷ ps) y (z ∷ xs) e (inl h) = h
  waiting_first r (q ∷ ps) y (z ∷ xs) e (inr h) = let f : waits r.state ≡ false = ap waits h.0.ended in absurd cc

  pub with_first : (p : PlainPiece) (ps : List PlainPiece) (x : Piece) (xs : List Piece) → StandsForPiece setting p x → StandForPieces setting ps xs → StandForPieces setting (p ∷ ps) (x ∷ xs)
  with_first p [] x [] h r = h
  with_first p [] x (y ∷ xs) h r = absurd r
  with_first p (q ∷ ps) x [] h r = absurd (none_there q ps r)
  with_first p (q ∷ ps) x (y ∷ xs) h r = inl (h, r)

  pub in_front : (bs ps : List PlainPiece) (us xs : List Piece) → StandForPieces setting bs us → StandForPieces setting ps xs → StandForPieces setting (bs ++ ps) (us ++ xs)
  in_front [] ps [] xs h r = r
  in_front [] ps (a ∷ us) xs h r = absurd h
  in_front (b ∷ bs) ps [] xs h r = absurd (none_there b bs h)
  in_front (b ∷ []) ps (a ∷ []) xs h r = with_first b ps a xs h r
  in_front (b ∷ []) ps (a ∷ c ∷ us) xs h r = absurd h
  in_front (b ∷ c ∷ bs) ps (a ∷ []) xs h r = absurd h
  in_front (b ∷ c ∷ bs) ps (a ∷ d ∷ us) xs (inl h) r = inl (h.0, in_front (c ∷ bs) ps (d ∷ us) xs h.1 r)
  in_front (b ∷ c ∷ bs) ps (a ∷ d ∷ us) xs (inr h) r = inr (h.0, in_front bs ps us xs h.1 r)

  -- ---- where a step changes the list

  pub either_agrees : (b c : Bool) (r r' : Result PlainRun Refusal) (o o' : Option RunState) → c ≡ b → (b ≡ true → RunAgrees r o) → (b ≡ false → RunAgrees r' o') → RunAgrees (cond b r r') (cond c o o')
  either_agrees true true r r' o o' e h k = h refl
  either_agrees false false r r' o o' e h k = k refl
  either_agrees true false r r' o o' e h k = absurd cc
  either_agrees false true r r' o o' e h k = absurd cc

  skip_agrees : (b c : Bool) (r r' : Result PlainRun Refusal) (o o' : Option RunState) → b ≡ false → c ≡ false → RunAgrees r' o' → RunAgrees (cond b r r') (cond c o o')
  skip_agrees false false r r' o o' e f h = h
  skip_agrees true c r r' o o' e f h = absurd cc
  skip_agrees false true r r' o o' e f h = absurd cc

  among_agrees : (before later : List PlainPiece) (us xs : List Piece) (history history' : List BookStep) (r : Result Change Refusal) (o : Option schedules.Change)
      → StandForPieces setting before us → StandForPieces setting later xs → history' ≡ history → Agrees r o → RunAgrees (among before later history r) (schedules.among us xs history' o)
  among_agrees before later us xs history history' (Ok c) (Some d) hb hl e h = record {
    pieces = in_front before (c.pieces ++ later) us (d.pieces ++ xs) hb (in_front c.pieces later d.pieces xs h.pieces hl);
    kits = h.kits;
    history = ap (λ n. n ++ d.noted) e ∙ ap (λ n. history ++ n) h.noted;
  }
  among_agrees before later us xs history history' (Err e) None hb hl e' h = tt
  among_agrees before later us xs history history' (Ok c) None hb hl e h = absurd h
  among_agrees before later us xs history history' (Err e) (Some d) hb hl e' h = absurd h

  module _ (Q : Piece → Type 0) (e : Refusal) (w : ℕ) (f : PlainPiece → Result Change Refusal) (g : Piece → Option schedules.Change) (history history' : List BookStep) (same : history' ≡ history)
      (agree : (p : PlainPiece) (x : Piece) → Q x → is_held_by w p ≡ true → StandsForPiece setting p x → Agrees (f p) (g x)) where
    pub changed_agrees : (before ps : List PlainPiece) (us xs : List Piece) → StandForPieces setting before us → StandForPieces setting ps xs → Each Q xs
        → RunAgrees (changed e w f before ps history) (schedules.changed w g us xs history')
    changed_agrees before [] us [] hb h q = tt
    changed_agrees before [] us (x ∷ xs) hb h q = absurd h
    changed_agrees before (p ∷ ps) us [] hb h q = absurd (none_there p ps h)
    changed_agrees before (p ∷ []) us (x ∷ []) hb h q =
        either_agrees (is_held_by w p) (schedules.is_held_by w x) (among before [] history (f p)) (Err e) (schedules.among us [] history' (g x)) None (ap (holds_by w) h.state)
        (λ b. among_agrees before [] us [] history history' (f p) (g x) hb tt same (agree p x q.0 b h)) (λ b. tt)
    changed_agrees before (p ∷ []) us (x ∷ y ∷ xs) hb h q = absurd h
    changed_agrees before (p ∷ r ∷ ps) us (x ∷ []) hb h q = absurd h
    changed_agrees before (p ∷ r ∷ ps) us (x ∷ y ∷ xs) hb (inl h) q =
        either_agrees (is_held_by w p) (schedules.is_held_by w x) (among before (r ∷ ps) history (f p)) (changed e w f (before ++ p ∷ []) (r ∷ ps) history)
        (schedules.among us (y ∷ xs) history' (g x)) (schedules.changed w g (us ++ x ∷ []) (y ∷ xs) history') (ap (holds_by w) h.0.state)
        (λ b. among_agrees before (r ∷ ps) us (y ∷ xs) history history' (f p) (g x) hb h.1 same (agree p x q.0 b h.0))
        (λ b. changed_agrees (before ++ p ∷ []) (r ∷ ps) (us ++ x ∷ []) (y ∷ xs) (in_front before (p ∷ []) us (x ∷ []) hb h.0) h.1 q.1)
    changed_agrees before (p ∷ r ∷ ps) us (x ∷ y ∷ xs) hb (inr h) q =
        skip_agrees (is_held_by w p) (schedules.is_held_by w x) _ (changed e w f (before ++ p ∷ []) (r ∷ ps) history) _ (schedules.changed w g (us ++ x ∷ []) (y ∷ xs) history')
        (ap (holds_by w) h.0.ended) (ap (holds_by w) (h.0.left.state ∙ h.0.ended))
        (skip_agrees (is_held_by w r) (schedules.is_held_by w y) _ (changed e w f ((before ++ p ∷ []) ++ r ∷ []) ps history) _ (schedules.changed w g ((us ++ x ∷ []) ++ y ∷ []) xs history')
        (ap (holds_by w) h.0.stalled) (ap (holds_by w) (h.0.right.state ∙ h.0.stalled))
        (changed_agrees ((before ++ p ∷ []) ++ r ∷ []) ps ((us ++ x ∷ []) ++ y ∷ []) xs
        (subst (λ bs. StandForPieces setting bs ((us ++ x ∷ []) ++ y ∷ [])) (sym (append_assoc before (p ∷ []) (r ∷ [])))
        (subst (λ zs. StandForPieces setting (before ++ p ∷ r ∷ []) zs) (sym (append_assoc us (x ∷ []) (y ∷ [])))
        (in_front before (p ∷ r ∷ []) us (x ∷ y ∷ []) hb (inr (h.0, tt))))) h.1 q.1.1))
