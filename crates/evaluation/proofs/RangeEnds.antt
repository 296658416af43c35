-- How the range of a loop ends.
use Rattle.std.proofs.Common.{◌≡◌, ◌≤◌, ◌<◌, ◌++◌, ℕ, ℤ, List, true, false, cond, Result, Ok, Err, sym, ap, ◌∙◌, arith, append-nil}
use Rattle.std.proofs.lemmas.Bool.Decides.{nat_tests}
use Rattle.std.specs.Prelude.{nat_le}
use Rattle.meaning.specs.Statements.{most_iterations, span}
use Rattle.meaning.specs.declared.FaultKind.TheVariants.{RangeTooLong}
use Rattle.evaluation.specs.declared.note.Note.{Note}
use Rattle.evaluation.specs.declared.stop.Stop.{Stop}
use Rattle.evaluation.specs.declared.stop.Stop.TheVariants.{Fault}
use Rattle.evaluation.specs.Values.{NumberedOut, ◌>>=◌, mapped, changed, ranged, pure, fail}
use Rattle.evaluation.specs.Ends.{Stops}
use Rattle.evaluation.proofs.Ending.{second_ends}

-- how many iterations there are between two numbers
abbrev pub between : ℤ → ℤ → NumberedOut (ℤ × ℕ)
between x y = mapped (λ n. (x, n)) (ranged (span x y))

abbrev pub Ranges : NumberedOut (ℤ × ℕ) → List Note → List Note → Result (ℤ × ℕ) Stop → Type 0
Ranges o old new r = Stops {A = ℤ × ℕ} {B = ℤ × ℕ} (λ p. p) o old new r

-- both bounds have ended with an answer, and nothing more is noted
pub both_bounds : (low high : NumberedOut ℤ) (old mid new : List Note) (x y : ℤ) (r : Result (ℤ × ℕ) Stop)
    → low.answer ≡ Ok x → mid ≡ old ++ low.notes → high.answer ≡ Ok y → new ≡ mid ++ high.notes → Ranges (between x y) new new r
    → Ranges (low >>= (λ a. high >>= (λ b. between a b))) old new r
both_bounds low high old mid new x y r first noted second more is =
    second_ends (λ p. p) low (λ a. high >>= (λ b. between a b)) old mid new x r first noted
    (second_ends (λ p. p) high (λ b. between x b) mid new new y r second more is)

pub few_between : (x y : ℤ) (notes : List Note) (n : ℕ) → n ≡ span x y → n ≤ most_iterations → Ranges (between x y) notes notes (Ok (x, n))
few_between x y notes n count few =
    let k = span x y in
    let within : nat_le n most_iterations ≡ true = grind (arith, nat_tests) in
    let is : ranged k ≡ pure k = ap (λ b. cond b (pure k) (fail RangeTooLong)) (ap (λ m. nat_le m most_iterations) (sym count) ∙ within) in (
      ap (λ (o : NumberedOut ℕ). changed (λ m. (x, m)) o.answer) is ∙ ap (λ m. Ok (x, m)) (sym count),
      sym (append-nil notes) ∙ ap (λ (o : NumberedOut ℕ). notes ++ o.notes) (sym is),
    )

pub many_between : (x y : ℤ) (notes : List Note) (n : ℕ) → n ≡ span x y → most_iterations < n → Ranges (between x y) notes notes (Err (Fault RangeTooLong))
many_between x y notes n count many =
    let k = span x y in
    let past : nat_le n most_iterations ≡ false = grind (arith, nat_tests) in
    let is : ranged k ≡ fail RangeTooLong = ap (λ b. cond b (pure k) (fail RangeTooLong)) (ap (λ m. nat_le m most_iterations) (sym count) ∙ past) in (
      ap (λ (o : NumberedOut ℕ). changed (λ m. (x, m)) o.answer) is,
      sym (append-nil notes) ∙ ap (λ (o : NumberedOut ℕ). notes ++ o.notes) (sym is),
    )
