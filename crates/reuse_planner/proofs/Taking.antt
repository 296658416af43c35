-- Steps that a run is given, as they are taken: each is one of the definitions, or changes nothing.
use Rattle.std.proofs.Common.{arith, get_or, drop, length, ◌<◌, ◌≤◌, ◌≡◌, ◌⊎◌, inl, inr, ℕ, suc, ◌+◌, Bool, true, false, not, ◌&&◌, ◌||◌, cond, List, [], ◌∷◌, ◌++◌, map, Option, Some, None, Result, Ok, Err, OnOk, IfErr, refl, sym, ap, ap₂, subst, ◌∙◌}
use Rattle.std.proofs.lemmas.Bool.{and_parts}
use Rattle.std.proofs.lemmas.List.{drop_more, drop_all}
use Rattle.meaning.specs.Schedules.{RunState, RunStep}
use Rattle.meaning.specs.Strands.{BookStep}
use Rattle.positions.specs.declared.phase.Phase.{Phase}
use Rattle.positions.specs.declared.phase.Phase.TheVariants as phase
use Rattle.numbered_runs.specs.Named.{run_step}
use Rattle.stepped_runs.specs.Pieces.{PlainPiece, inlined, inlined_at, is_held_by}
use Rattle.stepped_runs.specs.Runs.{PlainRun, are_workers, among, changed, may_be_tried_again}
use Rattle.stepped_runs.specs.Simulation.{LeadsTo, IsStepOf, IsNoStepOf}
use Rattle.numbered_runs.specs.declared.refusal.Refusal.{Refusal}
use Rattle.numbered_runs.specs.declared.refusal.Refusal.TheVariants as refusal
use Rattle.numbered_runs.specs.declared.step.Step.{Step}
use Rattle.numbered_runs.specs.declared.step.Step.TheVariants as step
use Rattle.worker_core.specs.Moves.{RefusedAs}
use Rattle.worker_core.specs.Strands.{PlainStrands, run_of, kits_in}
use Rattle.worker_core.specs.Cores.{PlainCore, is_no_memory, is_open_to, taken_if, taken, failed_by, StandsAfter}
use Rattle.worker_core.specs.Keeps.{HasSound, recalling, IsStep, IsNoStep}
use Rattle.reuse_planner.specs.Steps.{done_as, done_of, marked, by_workers}
use Rattle.reuse_planner.specs.Driven.{or_same_in, IsSameRun, Follows, IsTaken, AreTaken}
use Rattle.reuse_planner.proofs.Paths.{first_apart, through}

-- ---- a step that is taken, or that there is not

module _ (c : PlainCore) (e : RunStep) where
  leads_same : (k : HasSound c) (x : RunState) (o : Option RunState) (t : PlainRun) → LeadsTo (recalling c k) o t → LeadsTo (recalling c k) (Some (or_same_in (recalling c k) x o)) t
  leads_same k x None t h = absurd h
  leads_same k x (Some y) t h = h

  by_one : (t : PlainStrands) (b : Bool) → b ≡ true → ((k : HasSound c) → IsStepOf (recalling c k) e (run_of c.strands) (run_of t)) → Follows (cond b (e ∷ []) []) c t
  by_one t true q h k x r s = leads_same k x _ (run_of t) (h k x r s)
  by_one t false q h k x r s = absurd cc

  by_none : (b : Bool) → (b ≡ true → (k : HasSound c) → IsNoStepOf (recalling c k) e (run_of c.strands)) → Follows (cond b (e ∷ []) []) c c.strands
  by_none false h k x r s = (r, s)
  by_none true h k x r s = subst (λ (o : Option RunState). LeadsTo (recalling c k) (Some (or_same_in (recalling c k) x o)) (run_of c.strands)) (sym (h refl k x r s)) (r, s)

is_open : (b : Bool) (c : PlainCore) (s : Step) (r : PlainRun) → taken_if b c s ≡ Ok r → b ≡ true
is_open true c s r e = refl
is_open false c s r e = absurd cc

pub step_taken : (s : Step) (c d : PlainCore) → d ≡ record c { strands = d.strands } → taken c s ≡ Ok (run_of d.strands) → IsStep s c d → IsTaken false s c d
step_taken s c d same is h = record {
  placed = tt;
  same = same;
  follows = λ f. by_one c (run_step s) d.strands (are_workers c.workers (run_step s)) (and_parts (not c.failed) (are_workers c.workers (run_step s)) (is_open (is_open_to c s) c s (run_of d.strands) is)).1 h;
}

both : (a b : Bool) → a ≡ false → b ≡ true → (not a && b) ≡ true
both true b p q = absurd cc
both false b p q = q

no_step_taken : (s : Step) (c : PlainCore) → IsNoStep s c → IsTaken false s c c
no_step_taken s c h = record {
  placed = tt;
  same = refl;
  follows = λ f. by_none c (run_step s) (are_workers c.workers (run_step s)) (λ w. h (both c.failed (are_workers c.workers (run_step s)) f w));
}

-- ---- what a refusal leaves

same_strands : (s : Step) (e : Refusal) (t u : PlainStrands) → is_no_memory e ≡ false → StandsAfter s e t u → u ≡ t
same_strands (step.Work w) refusal.NoMemory t u q h = absurd cc
same_strands (step.Work w) refusal.NotThere t u q h = h
same_strands (step.Work w) refusal.Busy t u q h = h
same_strands (step.Work w) refusal.Nothing t u q h = h
same_strands (step.Work w) refusal.NoKit t u q h = h
same_strands (step.Fold w p) refusal.NoMemory t u q h = absurd cc
same_strands (step.Fold w p) refusal.NotThere t u q h = h
same_strands (step.Fold w p) refusal.Busy t u q h = h
same_strands (step.Fold w p) refusal.Nothing t u q h = h
same_strands (step.Fold w p) refusal.NoKit t u q h = h
same_strands (step.Push w) e t u q h = h
same_strands (step.Inline w) e t u q h = h
same_strands (step.Pop w) e t u q h = h
same_strands (step.Stall w) e t u q h = h
same_strands (step.Steal v w) e t u q h = h

pub unchanged : (s : Step) (e : Refusal) (c d : PlainCore) → is_no_memory e ≡ false → d ≡ record (failed_by s e c) { strands = d.strands } → StandsAfter s e c.strands d.strands → d ≡ c
unchanged s e c d q is stands =
    is ∙ ap₂ (λ (b : Bool) (t : PlainStrands). record c { failed = (b && not (may_be_tried_again (run_step s))) || c.failed; strands = t }) q (same_strands s e c.strands d.strands q stands)

-- a push that memory is refused for changes nothing
pub push_unchanged : (w : ℕ) (e : Refusal) (c d : PlainCore) → is_no_memory e ≡ true → d ≡ record (failed_by (step.Push w) e c) { strands = d.strands } → d.strands ≡ c.strands → d ≡ c
push_unchanged w e c d q is stands =
    is ∙ ap₂ (λ (b : Bool) (t : PlainStrands). record c { failed = (b && false) || c.failed; strands = t }) q stands

not_memory : (P : Type 0) (e : Refusal) → is_no_memory e ≡ false → (e ≡ refusal.NoMemory) ⊎ P → P
not_memory P e q (inl m) = absurd cc
not_memory P e q (inr p) = p

pub step_passed : (s : Step) (e : Refusal) (c d : PlainCore) → is_no_memory e ≡ false → d ≡ record (failed_by s e c) { strands = d.strands } → StandsAfter s e c.strands d.strands
    → (e ≡ refusal.NoMemory) ⊎ IsNoStep s c → IsTaken false s c d
step_passed s e c d q is stands h = subst (IsTaken false s c) (sym (unchanged s e c d q is stands)) (no_step_taken s c (not_memory (IsNoStep s c) e q h))

-- ---- an inline takes no memory

at_phase : (ph : Phase) (kits : ℕ) (p : PlainPiece) (before later : List PlainPiece) (history : List BookStep) (e : Refusal) → RefusedAs false (among before later history (inlined_at ph kits p)) e → is_no_memory e ≡ false
at_phase phase.AtSpawn kits p before later history e h = absurd h
at_phase phase.Entering kits p before later history e h = ap is_no_memory h
at_phase phase.Running kits p before later history e h = ap is_no_memory h
at_phase (phase.Returning v) kits p before later history e h = ap is_no_memory h
at_phase (phase.Leaving v) kits p before later history e h = ap is_no_memory h
at_phase (phase.Broken f) kits p before later history e h = ap is_no_memory h

where_held : (b : Bool) (x y : Result PlainRun Refusal) (e : Refusal) → RefusedAs false (cond b x y) e → (RefusedAs false x e → is_no_memory e ≡ false) → (RefusedAs false y e → is_no_memory e ≡ false) → is_no_memory e ≡ false
where_held true x y e h f g = f h
where_held false x y e h f g = g h

among_all : (w kits : ℕ) (before ps : List PlainPiece) (history : List BookStep) (e : Refusal) → RefusedAs false (changed refusal.NotThere w (inlined kits) before ps history) e → is_no_memory e ≡ false
among_all w kits before [] history e h = ap is_no_memory h
among_all w kits before (p ∷ ps) history e h =
    where_held (is_held_by w p) (among before ps history (inlined kits p)) (changed refusal.NotThere w (inlined kits) (before ++ p ∷ []) ps history) e h
    (at_phase p.strand.phase kits p before ps history e)
    (among_all w kits (before ++ p ∷ []) ps history e)

inline_by : (b : Bool) (c : PlainCore) (w : ℕ) (e : Refusal) → RefusedAs false (taken_if b c (step.Inline w)) e → is_no_memory e ≡ false
inline_by false c w e h = ap is_no_memory h
inline_by true c w e h = among_all w _ [] c.strands.pieces c.strands.history e h

pub inline_lacks_none : (c : PlainCore) (w : ℕ) (e : Refusal) → RefusedAs false (taken c (step.Inline w)) e → is_no_memory e ≡ false
inline_lacks_none c w e h = inline_by (is_open_to c (step.Inline w)) c w e h

-- an inline is taken, or there is none
pub inline_taken : (w : ℕ) (c d : PlainCore) (r : Result Unit Refusal)
    → OnOk r (taken c (step.Inline w) ≡ Ok (run_of d.strands)) → OnOk r (IsStep (step.Inline w) c d) → OnOk r (d ≡ record c { strands = d.strands })
    → IfErr r (RefusedAs false (taken c (step.Inline w))) → IfErr r (λ e. (e ≡ refusal.NoMemory) ⊎ IsNoStep (step.Inline w) c)
    → IfErr r (λ e. d ≡ record (failed_by (step.Inline w) e c) { strands = d.strands }) → IfErr r (λ e. StandsAfter (step.Inline w) e c.strands d.strands)
    → IsTaken false (step.Inline w) c d
inline_taken w c d (Ok x) is h going refused none failed stands = step_taken (step.Inline w) c d going is h
inline_taken w c d (Err e) is h going refused none failed stands = step_passed (step.Inline w) e c d (inline_lacks_none c w e refused) failed stands none

-- a push that memory was refused for is done as an inline
pub push_as_inline : (w : ℕ) (b c d : PlainCore) → c ≡ b → IsTaken false (step.Inline w) c d → IsTaken true (step.Push w) b d
push_as_inline w b c d q h =
    let t : IsTaken false (step.Inline w) b d = subst (λ (z : PlainCore). IsTaken false (step.Inline w) z d) q h in
    record { placed = tt; same = t.same; follows = t.follows }

-- ---- the same run

pub same_taken : (c d : PlainCore) → d ≡ record c { strands = d.strands } → kits_in d.strands ≡ kits_in c.strands → d.strands.total ≡ c.strands.total → IsSameRun c d
same_taken c d is kits total =
    record { program = ap (λ (z : PlainCore). z.program) is; tables = ap (λ (z : PlainCore). z.tables) is; records = ap (λ (z : PlainCore). z.records) is; kits = kits; total = total }

pub same_refused : (s : Step) (e : Refusal) (c d : PlainCore) → d ≡ record (failed_by s e c) { strands = d.strands } → kits_in d.strands ≡ kits_in c.strands → d.strands.total ≡ c.strands.total → IsSameRun c d
same_refused s e c d is kits total =
    record { program = ap (λ (z : PlainCore). z.program) is; tables = ap (λ (z : PlainCore). z.tables) is; records = ap (λ (z : PlainCore). z.records) is; kits = kits; total = total }

pub also : {c d e : PlainCore} → IsSameRun c d → IsSameRun d e → IsSameRun c e
also p q = record { program = q.program ∙ p.program; tables = q.tables ∙ p.tables; records = q.records ∙ p.records; kits = q.kits ∙ p.kits; total = q.total ∙ p.total }

-- ---- all steps

abbrev pub with_mark : Bool → ℕ → ℕ
with_mark true n = suc n
with_mark false n = n

count_more : (b : Bool) (bs : List Bool) (n : ℕ) → marked bs ≡ n → marked (b ∷ bs) ≡ with_mark b n
count_more true bs n e = ap suc e
count_more false bs n e = e

pub none_taken : (c : PlainCore) → AreTaken [] 0 c c
none_taken c = record { marks = []; placed = tt; counted = refl; same = refl; follows = λ f k x r s. (r, s) }

pub more_taken : (b : Bool) (s : Step) (ss : List Step) (n : ℕ) (c d e : PlainCore) → IsTaken b s c d → AreTaken ss n d e → AreTaken (s ∷ ss) (with_mark b n) c e
more_taken b s ss n c d e one rest =
    let then : c.failed ≡ false → Follows (by_workers c.workers (done_of rest.marks (map run_step ss))) (record c { strands = d.strands }) e.strands =
    subst (λ (z : PlainCore). z.failed ≡ false → Follows (by_workers z.workers (done_of rest.marks (map run_step ss))) z e.strands) one.same rest.follows in
    record {
      marks = b ∷ rest.marks;
      placed = (one.placed, rest.placed);
      counted = count_more b rest.marks n rest.counted;
      same = rest.same ∙ ap (λ (z : PlainCore). record z { strands = e.strands }) one.same;
      follows = λ f. subst (λ (l : List RunStep). Follows l c e.strands) (sym (first_apart (are_workers c.workers) (done_as b (run_step s)) (done_of rest.marks (map run_step ss)))) (through c d.strands e.strands (by_workers c.workers (done_as b (run_step s) ∷ [])) (by_workers c.workers (done_of rest.marks (map run_step ss))) (one.follows f) (then f));
    }

-- where the rest of the steps is taken, all are
abbrev pub TakesAll : (steps rest : List Step) (done : ℕ) (c d : PlainCore) → Type 0
TakesAll steps rest done c d = (n m : ℕ) (e : PlainCore) → m ≡ done + n → AreTaken rest n d e → AreTaken steps m c e

pub takes_more : (b : Bool) (s : Step) (steps rest : List Step) (done more : ℕ) (c d e : PlainCore) → more ≡ done + with_mark b 0 → IsTaken b s d e → TakesAll steps (s ∷ rest) done c d → TakesAll steps rest more c e
takes_more true s steps rest done more c d e is one h n m z q rest_taken =
    let sum : m ≡ done + suc n = omega arith in
    h (suc n) m z sum (more_taken true s rest n d e z one rest_taken)
takes_more false s steps rest done more c d e is one h n m z q rest_taken =
    let sum : m ≡ done + n = omega arith in
    h n m z sum (more_taken false s rest n d e z one rest_taken)

-- ---- one turn of the loop over the steps

pub mark_within : (b : Bool) (done more i : ℕ) → more ≡ done + with_mark b 0 → done ≤ i → more ≤ i + 1
mark_within true done more i e h = let f : more ≡ done + 1 = e in omega arith
mark_within false done more i e h = let f : more ≡ done + 0 = e in omega arith

pub takes_turn : (b : Bool) (s : Step) (steps : List Step) (i done more : ℕ) (c d e : PlainCore) → i < length steps → s ≡ get_or steps i s → more ≡ done + with_mark b 0
    → IsTaken b s d e → TakesAll steps (drop i steps) done c d → TakesAll steps (drop (i + 1) steps) more c e
takes_turn b s steps i done more c d e within at is one h =
    let split : drop i steps ≡ s ∷ drop (i + 1) steps = drop_more steps i s within ∙ ap (λ x. x ∷ drop (i + 1) steps) (sym at) in
    takes_more b s steps (drop (i + 1) steps) done more c d e is one (subst (λ (l : List Step). TakesAll steps l done c d) split h)

pub takes_end : (steps : List Step) (i done : ℕ) (c d : PlainCore) → length steps ≤ i → TakesAll steps (drop i steps) done c d → AreTaken steps done c d
takes_end steps i done c d over h =
    let sum : done ≡ done + 0 = omega arith in
    h 0 done d sum (subst (λ (l : List Step). AreTaken l 0 d d) (sym (drop_all i steps over)) (none_taken d))
