-- The oldest continuation is stolen.
use Rattle.std.proofs.Common.{arith, add-one, ◌≡◌, ℕ, suc, zero, ◌+◌, ◌<◌, true, false, List, [], ◌∷◌, ◌++◌, All, length, take, drop, get_or, Option, Some, None, Result, Ok, refl, sym, ap, subst, ◌∙◌, append_assoc, length-append}
use Rattle.std.specs.Prelude.{reverse, slice_set as set}
use Rattle.std.specs.List.{insert}
use Rattle.std.specs.Option.{is_some}
use Rattle.std.proofs.lemmas.List.{reverse-append, get_or_read}
use Rattle.std.proofs.lemmas.List.Elements.{All-take, All-drop, All-append, All-cons, All-get_or}
use Rattle.monoid_laws.specs.declared.Kind.{Kind}
use Rattle.meaning.specs.Outcome.{Place}
use Rattle.meaning.specs.Strands.{Held, Split}
use Rattle.positions.specs.Setting.{Setting}
use Rattle.positions.specs.Strands.{PlainStrand, PlainTask}
use Rattle.positions.specs.Moves.{stolen}
use Rattle.stepped_runs.specs.Pieces.{PlainPiece, place_of, oldest, robbed, robbed_if, stolen_of, stolen_from}
use Rattle.stepped_runs.specs.Runs.{PlainRun, among, changed, is_idle, if_idle}
use Rattle.numbered_runs.specs.declared.refusal.Refusal.{Refusal}
use Rattle.numbered_runs.specs.declared.refusal.Refusal.TheVariants.{NoMemory, Busy, Nothing, NoKit}
use Rattle.worker_core.specs.Moves.{IsFit, RefusedAs, has_tasks}
use Rattle.worker_core.specs.Strands.{PlainStrands, run_of, layers_of, layers_in, AreFit, held_at, IsRobbed}
use Rattle.worker_core.proofs.Kits.{layers_append, layers_around}
use Rattle.worker_core.proofs.Finding.{held_changes, held_refused, held_busy, none_idle, none_refused}

-- the continuation behind all younger ones
oldest_last : (xs younger : List PlainTask) (x t : PlainTask) → oldest younger x (xs ++ t ∷ []) ≡ (younger ++ x ∷ xs, t)
oldest_last [] younger x t = refl
oldest_last (y ∷ xs) younger x t = oldest_last xs (younger ++ x ∷ []) y t ∙ ap (λ zs. (zs, t)) (append_assoc younger (x ∷ []) (y ∷ xs))

module _ (setting : Setting) (thief kits : ℕ) (p : PlainPiece) where
  -- the newest first
  pub last_stolen : (xs : List PlainTask) (t : PlainTask) → stolen_of setting thief (suc kits) p (xs ++ t ∷ []) ≡ robbed setting thief kits p (xs, t)
  last_stolen [] t = refl
  last_stolen (x ∷ xs) t = ap (robbed_if setting thief (suc kits) p) (oldest_last xs [] x t)

  -- the oldest comes last of those in the deque
  pub robs : (items rest : List PlainTask) (t : PlainTask) (strand : PlainStrand) (piece : PlainPiece) (place : Place) → items ≡ t ∷ rest → p.deque ≡ reverse items
      → piece ≡ record { strand = strand; deque = []; state = Held thief } → strand ≡ stolen setting.codes setting.kinds t → place ≡ t.place
      → stolen_of setting thief (suc kits) p p.deque ≡ Ok (record { pieces = record p { deque = reverse rest } ∷ piece ∷ []; kits = kits; noted = Split (place_of p) place thief ∷ [] })
  robs items rest t strand piece place e d is s at =
      ap (stolen_of setting thief (suc kits) p) (d ∙ ap reverse e ∙ reverse-append (t ∷ []) rest) ∙ last_stolen (reverse rest) t
      ∙ ap (λ x. Ok (record { pieces = record p { deque = reverse rest } ∷ x ∷ []; kits = kits; noted = Split (place_of p) t.place thief ∷ [] })) (sym (is ∙ ap (λ x. record { strand = x; deque = []; state = Held thief }) s))
      ∙ ap (λ q. Ok (record { pieces = record p { deque = reverse rest } ∷ piece ∷ []; kits = kits; noted = Split (place_of p) q thief ∷ [] })) (sym at)

-- ---- the thief's strand behind its victim's

-- a piece put behind one that changes
pub put_behind : (ps : List PlainPiece) (i : ℕ) (p q : PlainPiece) → i < length ps → insert (set ps i p) (suc i) q ≡ take i ps ++ (p ∷ q ∷ drop (suc i) ps)
put_behind [] i p q less = absurd (omega arith)
put_behind (x ∷ ps) zero p q less = refl
put_behind (x ∷ ps) (suc i) p q less = ap (λ ys. x ∷ ys) (put_behind ps i p q (omega arith))

module _ (kinds : List Kind) (i : ℕ) (s : PlainStrands) (p l r : PlainPiece) (less : i < length s.pieces) (at : p ≡ get_or s.pieces i p) where
  -- the list of strands then
  abbrev pub parted : List PlainPiece
  parted = insert (set s.pieces i l) (suc i) r

  pub parted_taken : (setting : Setting) (thief : ℕ) (place : Place) (t : PlainStrands)
      → ((kits : ℕ) → stolen_of setting thief (suc kits) p p.deque ≡ Ok (record { pieces = l ∷ r ∷ []; kits = kits; noted = Split (place_of p) place thief ∷ [] }))
      → t.pieces ≡ parted → t.history ≡ s.history ++ Split (place_of p) place thief ∷ [] → IsRobbed setting thief i s t
  parted_taken setting thief place t robbed ps hs d kits =
      ap (λ x. among (take i s.pieces) (drop (suc i) s.pieces) s.history (stolen_of setting thief (suc kits) x x.deque)) (sym (get_or_read s.pieces i p less at d))
      ∙ ap (among (take i s.pieces) (drop (suc i) s.pieces) s.history) (robbed kits)
      ∙ ap (λ xs. Ok (record { pieces = xs; kits = kits; history = s.history ++ Split (place_of p) place thief ∷ [] })) (sym (ps ∙ put_behind s.pieces i l r less))
      ∙ ap (λ h. Ok (record { pieces = t.pieces; kits = kits; history = h })) (sym hs)

  pub parted_fit : AreFit kinds s → l.strand ≡ p.strand → IsFit kinds r → All (IsFit kinds) parted
  parted_fit fit same h =
      let old : IsFit kinds p = subst (IsFit kinds) (sym at) (All-get_or (IsFit kinds) s.pieces i p less fit.pieces) in
      let left : IsFit kinds l = ap (λ (x : PlainStrand). x.layer.kinds) same ∙ old in
      let rest : All (IsFit kinds) (drop (suc i) s.pieces) = All-drop (IsFit kinds) (suc i) s.pieces fit.pieces in
      subst (All (IsFit kinds)) (sym (put_behind s.pieces i l r less))
      (All-append (IsFit kinds) (take i s.pieces) (l ∷ r ∷ drop (suc i) s.pieces) (All-take (IsFit kinds) i s.pieces fit.pieces)
      (All-cons (IsFit kinds) l (r ∷ drop (suc i) s.pieces) left (All-cons (IsFit kinds) r (drop (suc i) s.pieces) h rest)))

  -- the thief's strand has one kit
  pub parted_layers : l.strand ≡ p.strand → r.strand.lower ≡ [] → layers_in parted ≡ layers_in s.pieces + 1
  parted_layers same bare =
      let there : layers_in s.pieces ≡ layers_in (take i s.pieces) + (layers_of (get_or s.pieces i p) + layers_in (drop (suc i) s.pieces)) = layers_around s.pieces i p less in
      let old : layers_of (get_or s.pieces i p) ≡ layers_of p = sym (ap layers_of at) in
      let left : layers_of l ≡ layers_of p = ap (λ (x : PlainStrand). suc (length x.lower)) same in
      let new : length r.strand.lower ≡ 0 = ap length bare in
      let then : layers_in parted ≡ layers_in (take i s.pieces) + layers_in (l ∷ r ∷ drop (suc i) s.pieces) = ap layers_in (put_behind s.pieces i l r less) ∙ layers_append (take i s.pieces) (l ∷ r ∷ drop (suc i) s.pieces) in
      omega arith

-- ---- what a thief takes, or why nothing

module _ (setting : Setting) (thief victim : ℕ) (s : PlainStrands) where
  abbrev theft : Result PlainRun Refusal
  theft = changed Nothing victim (stolen_from setting thief (length s.kits)) [] s.pieces s.history

  busy_by : (o : Option ℕ) → held_at thief s.pieces ≡ o → is_some o ≡ true → RefusedAs true (if_idle (is_idle thief s.pieces) theft) Busy
  busy_by None e h = absurd cc
  busy_by (Some i) e h = subst (λ b. RefusedAs true (if_idle b theft) Busy) (sym (held_busy thief i s.pieces e)) refl

  pub theft_busy : is_some (held_at thief s.pieces) ≡ true → RefusedAs true (if_idle (is_idle thief s.pieces) theft) Busy
  theft_busy h = busy_by (held_at thief s.pieces) refl h

  idle_refused : (e : Refusal) → held_at thief s.pieces ≡ None → RefusedAs true theft e → RefusedAs true (if_idle (is_idle thief s.pieces) theft) e
  idle_refused e idle h = subst (λ b. RefusedAs true (if_idle b theft) e) (sym (none_idle thief s.pieces idle)) h

  pub theft_alone : held_at thief s.pieces ≡ None → held_at victim s.pieces ≡ None → RefusedAs true (if_idle (is_idle thief s.pieces) theft) Nothing
  theft_alone idle none = idle_refused Nothing idle (none_refused true victim s.pieces Nothing (stolen_from setting thief (length s.kits)) s.history none)

  nothing_there : (kits : ℕ) (p : PlainPiece) (ks : List PlainTask) → has_tasks ks ≡ false → RefusedAs true (stolen_of setting thief kits p ks) Nothing
  nothing_there kits p [] h = refl
  nothing_there kits p (k ∷ ks) h = absurd cc

  pub theft_nothing : (i : ℕ) (p : PlainPiece) → held_at thief s.pieces ≡ None → held_at victim s.pieces ≡ Some i → p ≡ get_or s.pieces i p → has_tasks p.deque ≡ false
      → RefusedAs true (if_idle (is_idle thief s.pieces) theft) Nothing
  theft_nothing i p idle here at h = idle_refused Nothing idle
      (held_refused true victim i s.pieces Nothing (stolen_from setting thief (length s.kits)) s.history p Nothing here
      (subst (λ x. RefusedAs true (stolen_of setting thief (length s.kits) x x.deque) Nothing) at (nothing_there (length s.kits) p p.deque h)))

  no_kit : (p : PlainPiece) (ks : List PlainTask) → has_tasks ks ≡ true → RefusedAs true (stolen_of setting thief 0 p ks) NoKit
  no_kit p [] h = absurd cc
  no_kit p (k ∷ ks) h = refl

  pub theft_bare : (i : ℕ) (p : PlainPiece) → held_at thief s.pieces ≡ None → held_at victim s.pieces ≡ Some i → p ≡ get_or s.pieces i p → has_tasks p.deque ≡ true → s.kits ≡ []
      → RefusedAs true (if_idle (is_idle thief s.pieces) theft) NoKit
  theft_bare i p idle here at h none = idle_refused NoKit idle
      (held_refused true victim i s.pieces Nothing (stolen_from setting thief (length s.kits)) s.history p NoKit here
      (subst (λ x. RefusedAs true (stolen_of setting thief (length s.kits) x x.deque) NoKit) at
      (subst (λ ks. RefusedAs true (stolen_of setting thief (length ks) p p.deque) NoKit) (sym none) (no_kit p p.deque h))))

  lacks_there : (kits : ℕ) (p : PlainPiece) (ks : List PlainTask) → has_tasks ks ≡ true → RefusedAs true (stolen_of setting thief (suc kits) p ks) NoMemory
  lacks_there kits p [] h = absurd cc
  lacks_there kits p (k ∷ ks) h = refl

  one_more : (ks : List (List Kind)) (k : List Kind) → s.kits ≡ ks ++ k ∷ [] → length s.kits ≡ suc (length ks)
  one_more ks k is = ap length is ∙ length-append ks (k ∷ []) ∙ add-one (length ks)

  pub theft_lacks : (i : ℕ) (p : PlainPiece) (ks : List (List Kind)) (k : List Kind) → held_at thief s.pieces ≡ None → held_at victim s.pieces ≡ Some i → p ≡ get_or s.pieces i p → has_tasks p.deque ≡ true → s.kits ≡ ks ++ k ∷ []
      → RefusedAs true (if_idle (is_idle thief s.pieces) theft) NoMemory
  theft_lacks i p ks k idle here at h is = idle_refused NoMemory idle
      (held_refused true victim i s.pieces Nothing (stolen_from setting thief (length s.kits)) s.history p NoMemory here
      (subst (λ x. RefusedAs true (stolen_of setting thief (length s.kits) x x.deque) NoMemory) at
      (subst (λ n. RefusedAs true (stolen_of setting thief n p p.deque) NoMemory) (sym (one_more ks k is)) (lacks_there (length ks) p p.deque h))))

  pub theft_taken : (i : ℕ) (d : PlainPiece) (ks : List (List Kind)) (k : List Kind) (t : PlainStrands) → held_at thief s.pieces ≡ None → held_at victim s.pieces ≡ Some i → s.kits ≡ ks ++ k ∷ []
      → IsRobbed setting thief i (record s { kits = ks }) t → t.kits ≡ ks
      → if_idle (is_idle thief s.pieces) theft ≡ Ok (run_of t)
  theft_taken i d ks k t idle here is robbed free =
      ap (λ b. if_idle b theft) (none_idle thief s.pieces idle)
      ∙ held_changes victim i s.pieces Nothing (stolen_from setting thief (length s.kits)) s.history d here
      ∙ ap (λ n. among (take i s.pieces) (drop (suc i) s.pieces) s.history (stolen_of setting thief n (get_or s.pieces i d) (get_or s.pieces i d).deque)) (one_more ks k is)
      ∙ robbed d (length ks)
      ∙ ap (λ n. Ok (record { pieces = t.pieces; kits = n; history = t.history })) (ap length (sym free))
