-- A program that meets what the theorems ask: it spawns twice, and updates a list.
use Rattle.std.proofs.Common.{sym, true≢false, ℕ, List, [], ◌∷◌, Some, None, ◌≡◌, refl, Bool, true, false, cond, bytes_eq, arith}
use Rattle.std.proofs.lemmas.Slice.Eq.{bytes_eq-Decides}
use Rattle.meaning.specs.Tree.{Name, Proc}
use Rattle.meaning.proofs.Samples.{first_list}
use Rattle.meaning.specs.Elision.{Answer, from_scratch, main}
use Rattle.meaning.specs.Records.{Revised}
use Rattle.meaning.specs.Schedules.{recording_from, RunStep, first_state, path, end_of}
use Rattle.meaning.specs.Statements.{absent, found, proc_of}
use Rattle.trail_theory.specs.Waiting.{IsOrderly, NoReads}
use Rattle.trail_theory.specs.ReadsAtEnd.{IsOther, EntersOnly}
use Rattle.meaning.specs.Fitting.{FitsBody}
use Rattle.trail_theory.proofs.FitNumbers.{natural_fits}
use Rattle.strand_theory.specs.Ready.{IsReady}
use Rattle.run_theory.proofs.Paths.{paths_answer}

abbrev program : Revised
program = record { tree = first_list; revisions = []; counter = 0 }

one_of_two : (P : Proc → Type 0) (p q : Proc) → P p → P q → P absent → (b c : Bool) → P (found (cond b (Some p) (cond c (Some q) None)))
one_of_two P p q h k a true c = h
one_of_two P p q h k a false true = k
one_of_two P p q h k a false false = a

-- what holds of both procedures holds of each name's
each : (P : Proc → Type 0) → P (proc_of first_list (108 ∷ 101 ∷ 97 ∷ 102 ∷ [])) → P (proc_of first_list main) → P absent → (f : Name) → P (proc_of first_list f)
each P h k a f = one_of_two P (proc_of first_list (108 ∷ 101 ∷ 97 ∷ 102 ∷ [])) (proc_of first_list main) h k a (bytes_eq (108 ∷ 101 ∷ 97 ∷ 102 ∷ []) f) (bytes_eq main f)

leaf_is_other : IsOther (108 ∷ 101 ∷ 97 ∷ 102 ∷ [])
leaf_is_other e = true≢false (sym ((bytes_eq-Decides (108 ∷ 101 ∷ 97 ∷ 102 ∷ []) main).1 e))

is_ready : IsReady program [] (recording_from [])
is_ready =
    record {
      rules = record {
        waiting = each (λ p. IsOrderly [] p.body) (((λ i. i), tt), ((λ i. i), tt)) ((tt, tt), ((tt, tt), ((tt, tt), (tt, (((λ i. i), (λ i. i)), tt))))) tt;
        reads = record {
          in_main = (tt, (tt, (tt, (tt, tt))));
          elsewhere = λ f o. each (λ p. NoReads p.body) (tt, (tt, tt)) (tt, (tt, (tt, (tt, (tt, tt))))) tt f;
          alone = each (λ p. EntersOnly IsOther p.body) (tt, (tt, tt)) (leaf_is_other, (leaf_is_other, (tt, (tt, (tt, tt))))) tt;
          unrecorded = refl;
        };
      };
      monoids = (tt, tt);
      numbers = record {
        bodies = each (λ p. FitsBody p.body) ((tt, tt), (tt, tt)) ((natural_fits 1 (omega arith), tt), ((natural_fits 2 (omega arith), tt), ((natural_fits 9 (omega arith), tt), (tt, ((tt, tt), tt))))) tt;
        initials = (tt, tt);
      };
      cells = λ t row c v e. cc;
      sound = tt;
    }

-- so every run of it that comes to its end answers as the serial one
answers : (kits : ℕ) (es : List RunStep) (a : Answer) → end_of (path program [] (recording_from []) (first_state first_list kits) es) ≡ Some a → a ≡ from_scratch first_list []
answers = paths_answer program [] (recording_from []) is_ready
