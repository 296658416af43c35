-- The history that a run keeps is legal, and gives the list of its strands.
use Rattle.std.proofs.Common.{ℕ, List, [], ◌∷◌, ◌++◌, map, append_assoc, append-nil, Option, Some, None, ◌≡◌, inl, inr, refl, sym, ap, ap₂, ◌∙◌, subst, true, false, Bool, not, ◌&&◌, bytes_eq}
use Rattle.meaning.specs.Tables.{Tables}
use Rattle.meaning.specs.Every.{every}
use Rattle.meaning.specs.Outcome.{Place}
use Rattle.meaning.specs.Records.{Revised}
use Rattle.meaning.specs.Strands.{State, Held, Ended, Stalled, Line, BookStep, Split, End, Stall, Finish, Fold, Book, holds_by, is_held, is_free, is_root, is_alone, is_held_at, becomes, splits, if_allowed, stepped, first_book, replayed_on, replayed}
use Rattle.meaning.specs.Strands as strands
use Rattle.meaning.specs.Schedules.{Memory, Piece, RunState, Change, place_of, place_of_start, line_of, is_held_by, among, changed}
use Rattle.trail_theory.specs.Order.{Every}
use Rattle.run_theory.specs.RightRuns.{front, Begins}
use Rattle.strand_theory.proofs.Names.{both_true}
use Rattle.run_theory.proofs.Pieces.{ForSome, either}
use Rattle.run_theory.proofs.Steps.{FitAll}
use Rattle.run_theory.proofs.Kits.{inner}
use Rattle.strand_theory.proofs.Books.{held_at, becomes_at, splits_at, replayed_append, map_append, other_bytes}
use Rattle.run_theory.proofs.Ascending.{Order, UsedIn, Asc, Covered, none_before, asc_replaced, covered_replaced, is_fresh, not_root, begins_later}
use Rattle.run_theory.proofs.Telling.{TellsAll, Quiet, Lays, ends, stalls, faults, finishes, Splits, Tells, quiet, laid, split}

-- the history so far gives these pieces
pub record Told (ps : List Piece) (history : List BookStep) : Type 0 where
  pub book : Book
  pub replays : replayed history ≡ Some book
  pub lines : book.lines ≡ map line_of ps
  pub ascending : Asc true ps
  pub covered : Every (Covered true ps) book.split_off

every_map : {A : Type 0} (P Q : A → Type 0) (xs : List A) → ((x : A) → P x → Q x) → Every P xs → Every Q xs
every_map P Q [] k h = tt
every_map P Q (x ∷ xs) k h = (k x h.0, every_map P Q xs k h.1)

pub same_line : (p p' : Piece) → p'.strand.start ≡ p.strand.start → (st : State) → p'.state ≡ st → line_of p' ≡ (place_of p, st)
same_line p p' e st q = ap₂ (λ m s. (place_of_start m, s)) e q

-- the book after one more step
pub record Stepping (b : Book) (step : BookStep) (new : List Piece) : Type 0 where
  pub book : Book
  pub steps : stepped b step ≡ Some book
  pub lines : book.lines ≡ map line_of new
  pub used : Every (Covered true new) b.split_off → Every (Covered true new) book.split_off

pub told_next : (old new : List Piece) (history : List BookStep) (step : BookStep) → (h : Told old history) → Asc true new → ((u : Place) → Covered true old u → Covered true new u) → Stepping h.book step new → Told new (history ++ step ∷ [])
told_next old new history step h a k s =
    record {
      book = s.book;
      replays = replayed_append (Some first_book) history (step ∷ []) ∙ ap (λ o. replayed_on o (step ∷ [])) h.replays ∙ ap (λ o. replayed_on o []) s.steps;
      lines = s.lines;
      ascending = a;
      covered = s.used (every_map (Covered true old) (Covered true new) h.book.split_off k h.covered);
    }

-- ---- a piece goes on, or is laid down

asc_one : (p p' : Piece) (ps : List Piece) → p'.strand.start ≡ p.strand.start → (first : Bool) → Asc first (p ∷ ps) → Asc first (p' ∷ ps)
asc_one p p' ps e first h = (subst (Begins first) (sym e) h.0, subst (λ m. Order first (place_of_start m) (front ps)) (sym e) h.1, h.2)

covered_one : (p p' : Piece) (ps : List Piece) → Quiet p p' (front ps) → (u : Place) (first : Bool) → Asc first (p ∷ ps) → Covered first (p ∷ ps) u → Covered first (p' ∷ ps) u
covered_one p p' ps q u first a (inl h) = inl (q.covers first u h)
covered_one p p' ps q u first a (inr h) = inr h

lines_one : (before : List Piece) (p' : Piece) (ps : List Piece) (l : Line) → line_of p' ≡ l → map line_of before ++ l ∷ map line_of ps ≡ map line_of (before ++ p' ∷ ps)
lines_one before p' ps l e = ap (λ x. map line_of before ++ x ∷ map line_of ps) (sym e) ∙ sym (map_append line_of before (p' ∷ ps))

told_quiet : (before : List Piece) (p p' : Piece) (ps : List Piece) (history : List BookStep) → Quiet p p' (front ps) → p'.state ≡ p.state → Told (before ++ p ∷ ps) history → Told (before ++ p' ∷ ps) (history ++ [])
told_quiet before p p' ps history q s h =
    record {
      book = h.book;
      replays = ap replayed (append-nil history) ∙ h.replays;
      lines = h.lines ∙ map_append line_of before (p ∷ ps) ∙ lines_one before p' ps (line_of p) (same_line p p' q.start p.state s);
      ascending = asc_replaced before (p ∷ ps) (p' ∷ ps) (ap place_of_start q.start) (asc_one p p' ps q.start) true h.ascending;
      covered = every_map (Covered true (before ++ p ∷ ps)) (Covered true (before ++ p' ∷ ps)) h.book.split_off (λ u c. covered_replaced before (p ∷ ps) (p' ∷ ps) u (ap place_of_start q.start) (covered_one p p' ps q u) true h.ascending c) h.covered;
    }

-- the lines of a book that gives these pieces
lines_are : (before : List Piece) (p : Piece) (ps : List Piece) (history : List BookStep) → (h : Told (before ++ p ∷ ps) history) → h.book.lines ≡ map line_of before ++ line_of p ∷ map line_of ps
lines_are before p ps history h = h.lines ∙ map_append line_of before (p ∷ ps)

held_there : (before : List Piece) (p : Piece) (ps : List Piece) (history : List BookStep) → is_held p.state ≡ true → (h : Told (before ++ p ∷ ps) history) → is_held_at h.book.lines (place_of p) ≡ true
held_there before p ps history e h =
    subst (λ l. is_held_at l (place_of p) ≡ true) (sym (lines_are before p ps history h)) (held_at (map line_of before) (place_of p) p.state (map line_of ps) (none_before true before p ps h.ascending) e)

becomes_there : (before : List Piece) (p p' : Piece) (ps : List Piece) (history : List BookStep) → p'.strand.start ≡ p.strand.start → (h : Told (before ++ p ∷ ps) history) → becomes p'.state h.book.lines (place_of p) ≡ map line_of (before ++ p' ∷ ps)
becomes_there before p p' ps history e h =
    ap (λ l. becomes p'.state l (place_of p)) (lines_are before p ps history h)
    ∙ becomes_at p'.state (map line_of before) (place_of p) p.state (map line_of ps) (none_before true before p ps h.ascending)
    ∙ lines_one before p' ps (place_of p, p'.state) (same_line p p' e p'.state refl)

root_false : (n : Place) → (n ≡ [] → ⊥) → not (is_root n) ≡ true
root_false [] h = absurd (h refl)
root_false (a ∷ n) h = refl

root_true : (n : Place) → n ≡ [] → is_root n ≡ true
root_true n e = ap is_root e

-- main's strand is the only one where none is behind it
none_first : (before : List Piece) (p : Piece) (ps : List Piece) → Asc true (before ++ p ∷ ps) → place_of p ≡ [] → before ≡ []
none_first [] p ps a e = refl
none_first (q ∷ before) p ps a e = absurd (not_root p.strand.start (begins_later before p ps a.2) e)

alone_there : (before : List Piece) (p : Piece) (ps : List Piece) → before ≡ [] → ps ≡ [] → is_alone (map line_of (before ++ p ∷ ps)) ≡ true
alone_there before p ps e f = ap₂ (λ a b. is_alone (map line_of (a ++ p ∷ b))) e f

lay_step : (before : List Piece) (p p' : Piece) (ps : List Piece) (history : List BookStep) (st : State) (step : BookStep) → p'.state ≡ st → p'.strand.start ≡ p.strand.start → is_held p.state ≡ true → (h : Told (before ++ p ∷ ps) history) → Lays p ps st step → Stepping h.book step (before ++ p' ∷ ps)
lay_step before p p' ps history st step q e i h ends =
    let n = place_of p in
    record {
      book = record { lines = becomes Ended h.book.lines n; split_off = h.book.split_off };
      steps = ap (λ c. if_allowed c (becomes Ended h.book.lines n) h.book.split_off) (held_there before p ps history i h);
      lines = ap (λ s. becomes s h.book.lines n) (sym q) ∙ becomes_there before p p' ps history e h;
      used = λ x. x;
    }
lay_step before p p' ps history st step q e i h faults =
    let n = place_of p in
    record {
      book = record { lines = becomes strands.Faulted h.book.lines n; split_off = h.book.split_off };
      steps = ap (λ c. if_allowed c (becomes strands.Faulted h.book.lines n) h.book.split_off) (held_there before p ps history i h);
      lines = ap (λ s. becomes s h.book.lines n) (sym q) ∙ becomes_there before p p' ps history e h;
      used = λ x. x;
    }
lay_step before p p' ps history st step q e i h (stalls r) =
    let n = place_of p in
    record {
      book = record { lines = becomes Stalled h.book.lines n; split_off = h.book.split_off };
      steps = ap (λ c. if_allowed c (becomes Stalled h.book.lines n) h.book.split_off) (both_true (is_held_at h.book.lines n) (not (is_root n)) (held_there before p ps history i h) (root_false n r));
      lines = ap (λ s. becomes s h.book.lines n) (sym q) ∙ becomes_there before p p' ps history e h;
      used = λ x. x;
    }
lay_step before p p' ps history st step q e i h (finishes r l) =
    let n = place_of p in
    let one : is_alone h.book.lines ≡ true = ap is_alone h.lines ∙ alone_there before p ps (none_first before p ps h.ascending r) l in
    let may : (is_held_at h.book.lines n && is_root n && is_alone h.book.lines) ≡ true = rw (held_there before p ps history i h, root_true n r, one) in
    record {
      book = record { lines = becomes strands.Finished h.book.lines n; split_off = h.book.split_off };
      steps = ap (λ c. if_allowed c (becomes strands.Finished h.book.lines n) h.book.split_off) may;
      lines = ap (λ s. becomes s h.book.lines n) (sym q) ∙ becomes_there before p p' ps history e h;
      used = λ x. x;
    }

told_laid : (before : List Piece) (p p' : Piece) (ps : List Piece) (history : List BookStep) (step : BookStep) → Quiet p p' (front ps) → is_held p.state ≡ true → Lays p ps p'.state step → Told (before ++ p ∷ ps) history → Told (before ++ p' ∷ ps) (history ++ step ∷ [])
told_laid before p p' ps history step q i l h =
    told_next (before ++ p ∷ ps) (before ++ p' ∷ ps) history step h
    (asc_replaced before (p ∷ ps) (p' ∷ ps) (ap place_of_start q.start) (asc_one p p' ps q.start) true h.ascending)
    (λ u c. covered_replaced before (p ∷ ps) (p' ∷ ps) u (ap place_of_start q.start) (covered_one p p' ps q u) true h.ascending c)
    (lay_step before p p' ps history p'.state step refl q.start i h l)

-- ---- a steal

asc_two : (p p1 p2 : Piece) (ps : List Piece) (t : ℕ) → Splits p p1 p2 (front ps) t → (first : Bool) → Asc first (p ∷ ps) → Asc first (p1 ∷ p2 ∷ ps)
asc_two p p1 p2 ps t s first a =
    (subst (Begins first) (sym s.start) a.0, subst (λ m. Order first (place_of_start m) (place_of p2)) (sym s.start) (s.order first a.0), (s.begins, s.later, a.2))

covered_two : (p p1 p2 : Piece) (ps : List Piece) (t : ℕ) → Splits p p1 p2 (front ps) t → (u : Place) (first : Bool) → Asc first (p ∷ ps) → Covered first (p ∷ ps) u → Covered first (p1 ∷ p2 ∷ ps) u
covered_two p p1 p2 ps t s u first a (inl h) = inl (s.covers first u h)
covered_two p p1 p2 ps t s u first a (inr h) = inr (inr h)

place_covered : (before : List Piece) (p1 p2 : Piece) (ps : List Piece) (n : Place) → UsedIn false p2 (front ps) n → (first : Bool) → Covered first (before ++ p1 ∷ p2 ∷ ps) n
place_covered [] p1 p2 ps n h first = inr (inl h)
place_covered (q ∷ before) p1 p2 ps n h first = inr (place_covered before p1 p2 ps n h false)

all_other : (n : Place) (xs : List Place) → Every (λ u. u ≡ n → ⊥) xs → every (λ p. not (bytes_eq p n)) xs ≡ true
all_other n [] h = refl
all_other n (u ∷ xs) h = both_true (not (bytes_eq u n)) (every (λ p. not (bytes_eq p n)) xs) (ap not (other_bytes u n h.0)) (all_other n xs h.1)

lines_two : (before : List Piece) (p p1 p2 : Piece) (ps : List Piece) (t : ℕ) → p1.strand.start ≡ p.strand.start → p1.state ≡ p.state → p2.state ≡ Held t → map line_of before ++ line_of p ∷ (place_of p2, Held t) ∷ map line_of ps ≡ map line_of (before ++ p1 ∷ p2 ∷ ps)
lines_two before p p1 p2 ps t e s k =
    ap₂ (λ x y. map line_of before ++ x ∷ y ∷ map line_of ps) (sym (same_line p p1 e p.state s)) (sym (same_line p2 p2 refl (Held t) k)) ∙ sym (map_append line_of before (p1 ∷ p2 ∷ ps))

split_step : (before : List Piece) (p p1 p2 : Piece) (ps : List Piece) (history : List BookStep) (t : ℕ) → Splits p p1 p2 (front ps) t → is_held p.state ≡ true → (h : Told (before ++ p ∷ ps) history) → is_free (map line_of (before ++ p ∷ ps)) t ≡ true → Stepping h.book (Split (place_of p) (place_of p2) t) (before ++ p1 ∷ p2 ∷ ps)
split_step before p p1 p2 ps history t s i h f =
    let v = place_of p in
    let n = place_of p2 in
    let b = h.book in
    let fresh : Every (λ u. u ≡ n → ⊥) b.split_off =
    every_map (Covered true (before ++ p ∷ ps)) (λ u. u ≡ n → ⊥) b.split_off (λ u c. is_fresh before p ps n u (λ first g. s.fresh first u g) s.order s.later true h.ascending c) h.covered in
    let free : is_free b.lines t ≡ true = ap (λ l. is_free l t) h.lines ∙ f in
    let may : (is_held_at b.lines v && not (is_root n) && every (λ p. not (bytes_eq p n)) b.split_off && is_free b.lines t) ≡ true =
    rw (held_there before p ps history i h, root_false n (not_root p2.strand.start s.begins), all_other n b.split_off fresh, free) in
    record {
      book = record { lines = splits b.lines v n t; split_off = n ∷ b.split_off };
      steps = ap (λ c. if_allowed c (splits b.lines v n t) (n ∷ b.split_off)) may;
      lines = ap (λ l. splits l v n t) (lines_are before p ps history h) ∙ splits_at n t (map line_of before) v p.state (map line_of ps) (none_before true before p ps h.ascending) ∙ lines_two before p p1 p2 ps t s.start s.state s.held;
      used = λ x. (place_covered before p1 p2 ps n s.used true, x);
    }

told_split : (before : List Piece) (p p1 p2 : Piece) (ps : List Piece) (history : List BookStep) (t : ℕ) → Splits p p1 p2 (front ps) t → is_held p.state ≡ true → is_free (map line_of (before ++ p ∷ ps)) t ≡ true → Told (before ++ p ∷ ps) history → Told (before ++ p1 ∷ p2 ∷ ps) (history ++ Split (place_of p) (place_of p2) t ∷ [])
told_split before p p1 p2 ps history t s i f h =
    told_next (before ++ p ∷ ps) (before ++ p1 ∷ p2 ∷ ps) history (Split (place_of p) (place_of p2) t) h
    (asc_replaced before (p ∷ ps) (p1 ∷ p2 ∷ ps) (ap place_of_start s.start) (asc_two p p1 p2 ps t s) true h.ascending)
    (λ u c. covered_replaced before (p ∷ ps) (p1 ∷ p2 ∷ ps) u (ap place_of_start s.start) (covered_two p p1 p2 ps t s u) true h.ascending c)
    (split_step before p p1 p2 ps history t s i h f)

-- a change that tells what it does
pub told_change : (t : ℕ) (F : Type 0) (before : List Piece) (p : Piece) (ps : List Piece) (history : List BookStep) (c : Change) → Tells t F p ps c → is_held p.state ≡ true → (F → is_free (map line_of (before ++ p ∷ ps)) t ≡ true) → Told (before ++ p ∷ ps) history → Told (before ++ (c.pieces ++ ps)) (history ++ c.noted)
told_change t F before p ps history c (quiet {p' = p'} q s) i f h = told_quiet before p p' ps history q s h
told_change t F before p ps history c (laid {p' = p'} {step = step} q l) i f h = told_laid before p p' ps history step q i l h
told_change t F before p ps history c (split {p1 = p1} {p2 = p2} idle s) i f h = told_split before p p1 p2 ps history t s i (f idle) h

held_is : (w : ℕ) (st : State) → holds_by w st ≡ true → is_held st ≡ true
held_is w (Held v) e = refl
held_is w Ended e = absurd cc
held_is w Stalled e = absurd cc
held_is w strands.Faulted e = absurd cc
held_is w strands.Finished e = absurd cc

abbrev pub ToldOf : RunState → Type 0
ToldOf s = Told s.pieces s.history

among_told : (t : ℕ) (F : Type 0) (before : List Piece) (p : Piece) (ps : List Piece) (history : List BookStep) (o : Option Change) → ForSome (Tells t F p ps) o → is_held p.state ≡ true → (F → is_free (map line_of (before ++ p ∷ ps)) t ≡ true) → Told (before ++ p ∷ ps) history → ForSome ToldOf (among before ps history o)
among_told t F before p ps history None k i f h = tt
among_told t F before p ps history (Some c) k i f h = told_change t F before p ps history c k i f h

module _ (program : Revised) (tables : Tables) (memory : Memory) where
  pub changed_told : (w t : ℕ) (F : Type 0) (change : Piece → Option Change) → TellsAll program tables memory w t F change → (before ps : List Piece) (history : List BookStep) (first : Bool) (found : List Bool) → FitAll program tables memory first (before ++ ps) found → (F → is_free (map line_of (before ++ ps)) t ≡ true) → Told (before ++ ps) history
      → ForSome ToldOf (changed w change before ps history)
  changed_told w t F change k before [] history first found r f h = tt
  changed_told w t F change k before (p ∷ ps) history first found r f h =
      let moved = sym (append_assoc before (p ∷ []) ps) in
      either ToldOf (is_held_by w p) (among before ps history (change p)) (changed w change (before ++ p ∷ []) ps history)
      (λ e. let i = inner program tables memory before (p ∷ ps) first found r in among_told t F before p ps history (change p) (k i.0 i.1.0 i.1.1.0 p ps e i.1.1.1 i.1.1.2) (held_is w p.state e) f h)
      (changed_told w t F change k (before ++ p ∷ []) ps history first found (subst (λ u. FitAll program tables memory first u found) moved r) (subst (λ u. F → is_free (map line_of u) t ≡ true) moved f) (subst (λ u. Told u history) moved h))
