-- What a run that has come to its end without a fault has counted, which instances its new records are of, and what they leave to execute.
use Rattle.std.proofs.Common.{◌++◌, ℤ, List, [], ◌∷◌, None, Ok, Some, ◌≡◌, refl, sym, ap, ◌∙◌, subst, append-nil, true}
use Rattle.meaning.specs.Tables.{Tables}
use Rattle.meaning.specs.Outcome.{Log, Accumulators, Fault, Leaves}
use Rattle.meaning.specs.Elision.{Answer, Finished}
use Rattle.meaning.specs.Records.{Revised, needed, executed}
use Rattle.meaning.specs.Trail.{sight_of, trail_at}
use Rattle.meaning.specs.SmallStep.{root, Frame, Phase, entering, running, spawning, returning, leaving, broken, Lookup, look_of}
use Rattle.meaning.specs.Layers.{Notes}
use Rattle.meaning.specs.Strands.{State, Held, Ended, Stalled}
use Rattle.meaning.specs.Strands as strands
use Rattle.meaning.specs.Tallies.{Opened, executions, valid_record}
use Rattle.meaning.specs.Schedules.{Memory, Piece, RunState, first_state, path, answer_by, end_of}
use Rattle.trail_theory.specs.Right.{stretch, RightAt}
use Rattle.trail_theory.specs.ElisionBeside.{first_fault, before_fault}
use Rattle.trail_theory.specs.OpenLayers.{IsNumbered, recorded_in}
use Rattle.trail_theory.specs.OwedLayers.{opened_names, parents_behind, Unbroken, OwesLayers}
use Rattle.trail_theory.proofs.AddingUp.{add_up}
use Rattle.trail_theory.proofs.FirstFaults.{quiet_first, inside_none}
use Rattle.trail_theory.proofs.Ends.{at_end}
use Rattle.trail_theory.proofs.Keys.{executions_append}
use Rattle.trail_theory.proofs.Needed.{quiet_before}
use Rattle.trail_theory.proofs.Counts.{needed_marks, end_counts}
use Rattle.trail_theory.proofs.NothingNeeded.{end_leaves_none}
use Rattle.run_theory.specs.RightRuns.{IsFinished, IsLaid}
use Rattle.strand_theory.specs.Ready.{IsReady}
use Rattle.run_theory.specs.Theorems.{PathsCountNeeded, PathsLeaveNothing}
use Rattle.run_theory.proofs.Pieces.{ForSome, some_is}
use Rattle.run_theory.proofs.Steps.{FitAll}
use Rattle.run_theory.proofs.Paths.{begins_root, paths_right, runs_answer}
use Rattle.run_theory.specs.Recorded.{PathsRecordExecutions}
use Rattle.strand_theory.proofs.Recorded.{recorded_end}
use Rattle.strand_theory.proofs.RecordedStrands.{at_parts}
use Rattle.run_theory.proofs.News.{PieceTallied, TallyFit, now_of, adds_of, records_of, paths_tallied}

abbrev EndsAs : State → Phase → Answer → Type 0
EndsAs st ph a = (v : ℤ) (acc : Accumulators) → a ≡ Finished v acc → (st ≡ strands.Finished) × (ph ≡ leaving v)

ends_as : (st : State) (ph : Phase) (ls : List Notes) → ForSome (EndsAs st ph) (answer_by st ph ls)
ends_as strands.Finished (leaving u) (l ∷ []) = λ v acc e. (let q : u ≡ v = cc in (refl, ap leaving q))
ends_as strands.Finished (leaving u) [] = tt
ends_as strands.Finished (leaving u) (l ∷ k ∷ ls) = tt
ends_as strands.Finished (entering child) ls = tt
ends_as strands.Finished (running todo) ls = tt
ends_as strands.Finished (spawning d x child todo) ls = tt
ends_as strands.Finished (returning u) ls = tt
ends_as strands.Finished (broken k) ls = tt
ends_as strands.Faulted (broken k) ls = λ v acc e. absurd cc
ends_as strands.Faulted (leaving u) ls = tt
ends_as strands.Faulted (entering child) ls = tt
ends_as strands.Faulted (running todo) ls = tt
ends_as strands.Faulted (spawning d x child todo) ls = tt
ends_as strands.Faulted (returning u) ls = tt
ends_as (Held w) ph ls = tt
ends_as Ended ph ls = tt
ends_as Stalled ph ls = tt

no_names : (os : List Opened) → [] ≡ opened_names os ++ [] → os ≡ []
no_names [] e = refl
no_names (o ∷ os) e = absurd cc

module _ (program : Revised) (tables : Tables) (memory : Memory) where
  abbrev S : Accumulators
  S = sight_of program.tree tables

  abbrev L : Lookup
  L = valid_record program tables memory.records

  abbrev T : Log
  T = trail_at program.tree tables S (look_of L)

  -- main's strand, alone and over
  record IsMain (p : Piece) (v : ℤ) : Type 0 where
    phase : p.strand.phase ≡ leaving v
    laid : IsFinished p.strand p.deque
    begins : p.strand.start ≡ root
    tallied : PieceTallied program tables memory [] [] p

  main_of : (s : RunState) (p : Piece) (v : ℤ) (acc : Accumulators) → FitAll program tables memory true s.pieces [] → TallyFit program tables memory [] s.pieces → s.pieces ≡ p ∷ [] → end_of s ≡ Some (Finished v acc) → IsMain p v
  main_of s p v acc r t q e =
      let i = subst (λ ps. FitAll program tables memory true ps []) q r in
      let h = subst (λ ps. TallyFit program tables memory [] ps) q t in
      let a : answer_by p.state p.strand.phase p.strand.layers ≡ Some (Finished v acc) = subst (λ ps. end_of (record { pieces = ps; kits = s.kits; history = s.history }) ≡ Some (Finished v acc)) q e in
      let x = some_is (EndsAs p.state p.strand.phase) (answer_by p.state p.strand.phase p.strand.layers) (Finished v acc) (ends_as p.state p.strand.phase p.strand.layers) a v acc refl in
      record {
        phase = x.1;
        laid = subst (λ st. IsLaid st p.strand p.deque) x.0 i.1.laid;
        begins = begins_root p.strand.start i.1.begins;
        tallied = subst (λ right. PieceTallied program tables memory [] right p) h.2 h.1;
      }

  good_of : (p : Piece) (v : ℤ) → IsMain p v → (k : Fault) → p.strand.phase ≡ broken k → ⊥
  good_of p v m k z = let c : leaving v ≡ broken k = sym m.phase ∙ z in cc

  none_open : (p : Piece) (v : ℤ) → IsMain p v → p.tally.opened ≡ []
  none_open p v m =
      let s = p.strand in
      let o = subst (λ ds. OwesLayers s ds p.tally [] []) m.laid.deque m.tallied.owes in
      let b = subst (λ ph. Unbroken ph (recorded_in s.frame ph (s.under ++ parents_behind []) ++ [] ≡ opened_names p.tally.opened ++ [])) m.phase o.balance in
      no_names p.tally.opened (subst (λ t. recorded_in s.frame (leaving v) (t ++ []) ++ [] ≡ opened_names p.tally.opened ++ []) m.laid.under b)

  module _ (ready : IsReady program tables memory) (numbers : IsNumbered program) where
    pub counts_needed : PathsCountNeeded program tables memory
    counts_needed kits es p v acc q e =
        let s = path program tables memory (first_state program.tree kits) es in
        let m = main_of s p v acc (paths_right program tables memory ready kits es) (paths_tallied program tables memory ready numbers kits es) q e in
        end_counts program tables memory.records ready.rules.reads ready.sound p.strand p.tally v m.begins m.phase m.laid.under m.laid.main (now_of program tables memory [] [] p (good_of p v m) m.tallied)

    pub leaves_nothing : PathsLeaveNothing program tables memory
    leaves_nothing kits es p v acc q e u =
        let s = path program tables memory (first_state program.tree kits) es in
        let r = paths_right program tables memory ready kits es in
        let m = main_of s p v acc r (paths_tallied program tables memory ready numbers kits es) q e in
        let as_many = (add_up program).ends p.tally (adds_of program tables memory [] [] p (good_of p v m) m.tallied) (none_open p v m) u in
        end_leaves_none program tables memory.records ready.rules.reads numbers ready.sound v acc (sym (runs_answer program tables memory ready s (Finished v acc) r e)) p.strand p.tally v m.begins m.phase m.laid.under m.laid.main (now_of program tables memory [] [] p (good_of p v m) m.tallied) as_many

    -- the executions of main's whole stretch are the needed ones
    whole_executed : (ls : List Notes) (fr : Frame) (v : ℤ) (h : RightAt program.tree tables S L root ls fr (leaving v) []) → fr.instance ≡ [] → executions (stretch h.segments) ≡ executed program.tree (needed program tables memory.records)
    whole_executed ls fr v h d =
        let here = stretch h.segments in
        let last = Leaves [] (Ok v) ∷ [] in
        let whole : here ++ last ≡ T = (at_end program.tree tables S L ls fr v h d).0 in
        let quiet : first_fault T ≡ None = ap first_fault (sym whole) ∙ quiet_first here last (inside_none root here h.inside) in
        let upto : before_fault T ≡ here ++ last = quiet_before program tables S memory.records T quiet ∙ sym whole in
        let n = needed_marks program tables memory.records ready.rules.reads ready.sound S in
        sym (append-nil (executions here)) ∙ sym (executions_append here last) ∙ ap executions (sym upto) ∙ sym n.executed_are

    pub records_executed : PathsRecordExecutions program tables memory
    records_executed kits es p v acc q e =
        let s = path program tables memory (first_state program.tree kits) es in
        let m = main_of s p v acc (paths_right program tables memory ready kits es) (paths_tallied program tables memory ready numbers kits es) q e in
        let r = at_parts program tables S L p.strand p.tally root p.strand.layers (leaving v) [] m.begins refl m.phase m.laid.under (records_of program tables memory [] [] p (good_of p v m) m.tallied) in
        recorded_end p.tally (stretch r.right.segments) (executed program.tree (needed program tables memory.records)) (none_open p v m) (whole_executed p.strand.layers p.strand.frame v r.right m.laid.main) r.recorded
