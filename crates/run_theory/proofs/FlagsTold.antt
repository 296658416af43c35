-- After any steps, what an instance's flag says is what the top layer's name says, and a strand that stands at a read has one layer.
use Rattle.std.proofs.Common.{ℕ, List, [], ◌∷◌, ◌≡◌, inl, inr, refl, sym, ap, ◌∙◌, subst, true, false, Bool}
use Rattle.meaning.specs.Tree.{read, step, Tree}
use Rattle.meaning.specs.Tables.{Tables}
use Rattle.meaning.specs.Outcome.{Fault, Place}
use Rattle.meaning.specs.Records.{Revised}
use Rattle.meaning.specs.SmallStep.{is_entry, blocks, running, broken}
use Rattle.meaning.specs.Layers.{Notes, bottom, total}
use Rattle.meaning.specs.Schedules.{Memory, Piece, RunStep, first_state, path}
use Rattle.trail_theory.specs.Order.{Every}
use Rattle.trail_theory.specs.ReadsAtEnd.{ReadsAtMainsEnd}
use Rattle.trail_theory.specs.Right.{IsOneLayer}
use Rattle.trail_theory.specs.OpenLayers.{IsNumbered}
use Rattle.trail_theory.specs.OwnLayers.{TopTest, is_top, is_top_by_length, strand_by}
use Rattle.trail_theory.proofs.ReadPoints.{sees_when}
use Rattle.trail_theory.proofs.OwnTheorems.{flags_names, own_read}
use Rattle.run_theory.specs.RightRuns.{front}
use Rattle.strand_theory.specs.Ready.{IsReady}
use Rattle.run_theory.specs.UnflaggedRuns.{IsToldByName, ReadsByOne, FlagsAreTold, PathsReadByOne, RunsBy}
use Rattle.run_theory.proofs.Telling.{broken_or}
use Rattle.strand_theory.proofs.Laws.{L}
use Rattle.run_theory.proofs.Steps.{FitPiece, FitAll}
use Rattle.run_theory.proofs.Paths.{paths_right}
use Rattle.run_theory.proofs.News.{PieceTallied, TallyFit, own_of, around_of, paths_tallied}
use Rattle.run_theory.proofs.UnflaggedRuns.{IsTold, runs_by}

one_is_all : (program : Tree) (ls : List Notes) → IsOneLayer ls → bottom ls ≡ (total program ls).worth
one_is_all program [] h = absurd h
one_is_all program (l ∷ []) h = refl
one_is_all program (l ∷ m ∷ ls) h = absurd h

module _ (program : Revised) (tables : Tables) (memory : Memory) where
  -- ---- one piece

  -- by its name, and by the length of its name; and what it reads
  record IsToldBoth (p : Piece) : Type 0 where
    named : IsToldByName p
    long : is_entry p.strand.start p.strand.frame.instance ≡ false → strand_by is_top_by_length p.strand p.tally ≡ p.strand
    one : ReadsByOne p

  broken_told : (test : TopTest) (p : Piece) (k : Fault) → p.strand.phase ≡ broken k → strand_by test p.strand p.tally ≡ p.strand
  broken_told test p k e =
      let s = p.strand in
      subst (λ ph. strand_by test (record { start = s.start; layers = s.layers; frame = s.frame; phase = ph; under = s.under }) p.tally ≡ record { start = s.start; layers = s.layers; frame = s.frame; phase = ph; under = s.under }) (sym e) refl

  piece_told : ReadsAtMainsEnd program.tree → (first : Bool) (found later : List Bool) (left right : List Place) (p : Piece) (ps : List Piece) → FitPiece program tables memory first p found later (front ps) → FitAll program tables memory false ps later → PieceTallied program tables memory left right p → TallyFit program tables memory right ps → IsToldBoth p
  piece_told ruled first found later left right p ps i f h g =
      elim (broken_or p.strand.phase) [
        | inl k ↦ record { named = λ e. broken_told is_top p k.0 k.1; long = λ e. broken_told is_top_by_length p k.0 k.1; one = λ n x r b bs e. absurd (let q : broken k.0 ≡ running (blocks (step n (read x r) b ∷ bs)) = sym k.1 ∙ e in cc) }
        | inr good ↦
            let s = p.strand in
            let names = flags_names program tables (L program tables memory) in
            let t = own_of program tables memory left right p good h in
            let around = around_of program tables memory first found later right p ps i f g good in
            let named : IsToldByName p = λ e. names.same s p.tally t.tallied e (names.knows s p.deque p.tally left right h.owes around) in
            record { named = named; long = λ e. names.lengths s p.deque p.tally left right h.owes around ∙ named e; one = λ n x r b bs e. (own_read program tables (L program tables memory) ruled s p.tally n x r b bs e t).1 }
      ]

  all_told : ReadsAtMainsEnd program.tree → (first : Bool) (found : List Bool) (left : List Place) (ps : List Piece) → FitAll program tables memory first ps found → TallyFit program tables memory left ps → Every IsToldBoth ps
  all_told ruled first found left [] f h = tt
  all_told ruled first found left (p ∷ ps) f h = (piece_told ruled first found f.0 left h.0 p ps f.1 f.2 h.1 h.2, all_told ruled false f.0 h.0 ps f.2 h.2)

  is_told : (test : TopTest) (p : Piece) → (is_entry p.strand.start p.strand.frame.instance ≡ false → strand_by test p.strand p.tally ≡ p.strand) → ReadsByOne p → IsTold program tables memory test p
  is_told test p flag one =
      record {
        flag = λ e. ap (λ s. s.frame) (flag e);
        reads = sees_when (bottom p.strand.layers) (total program.tree p.strand.layers).worth p.strand.phase (λ n x r b bs e. one_is_all program.tree p.strand.layers (one n x r b bs e));
      }

  -- ---- whole runs

  every_of : (P Q : Piece → Type 0) → ((p : Piece) → P p → Q p) → (ps : List Piece) → Every P ps → Every Q ps
  every_of P Q k [] h = tt
  every_of P Q k (p ∷ ps) h = (k p h.0, every_of P Q k ps h.1)

  module _ (ready : IsReady program tables memory) (numbers : IsNumbered program) where
    told : (kits : ℕ) (es : List RunStep) → Every IsToldBoth (path program tables memory (first_state program.tree kits) es).pieces
    told kits es =
        let s = path program tables memory (first_state program.tree kits) es in
        all_told ready.rules.reads true [] [] s.pieces (paths_right program tables memory ready kits es) (paths_tallied program tables memory ready numbers kits es)

    pub flags_told : FlagsAreTold program tables memory
    flags_told kits es = every_of IsToldBoth IsToldByName (λ p h. h.named) (path program tables memory (first_state program.tree kits) es).pieces (told kits es)

    pub reads_by_one : PathsReadByOne program tables memory
    reads_by_one kits es = every_of IsToldBoth ReadsByOne (λ p h. h.one) (path program tables memory (first_state program.tree kits) es).pieces (told kits es)

    pub runs_by_name : RunsBy program tables memory is_top
    runs_by_name = runs_by program tables memory is_top (λ kits es. every_of IsToldBoth (IsTold program tables memory is_top) (λ p h. is_told is_top p h.named h.one) (path program tables memory (first_state program.tree kits) es).pieces (told kits es))

    pub told_by_length : (kits : ℕ) (es : List RunStep) → Every (IsTold program tables memory is_top_by_length) (path program tables memory (first_state program.tree kits) es).pieces
    told_by_length kits es = every_of IsToldBoth (IsTold program tables memory is_top_by_length) (λ p h. is_told is_top_by_length p h.long h.one) (path program tables memory (first_state program.tree kits) es).pieces (told kits es)

    pub runs_by_length : RunsBy program tables memory is_top_by_length
    runs_by_length = runs_by program tables memory is_top_by_length told_by_length
