-- Parameters, cells and declarations, read one in each turn.
use Rattle.std.proofs.Common.{◌≡◌, ℕ, zero, suc, ◌-◌, Bool, true, ltb, List, [], ◌∷◌, ◌++◌, Result, Ok, refl, sym, ap, subst, ◌∙◌, arith}
use Rattle.std.proofs.lemmas.Bool.{lt-ltb}
use Rattle.token_readers.specs.declared.fault.ParseError.{ParseError}
use Rattle.token_scanner.specs.declared.token.Mark.TheVariants.{Comma}
use Rattle.token_scanner.specs.Words.{Words, starts, rest}
use Rattle.source_tree.specs.Source.{Decl, Source}
use Rattle.token_readers.specs.Reading.{◌>>=◌, Gives, Read, name_at}
use Rattle.procedure_parser.specs.Reading.{with_front, comma_number_at, more_cells_at, more_params_at, procedure_at, procedure_word_at, counted, worded}
use Rattle.procedure_parser.proofs.Many.{regroup}

pub gives_along : {X Y : Type 0} (view : X → Y) (r : Result X ParseError) (a b : Result Y Words) → a ≡ b → Gives view r a → Gives view r b
gives_along view r a b e g = subst (λ (y : Result _ Words). Gives view r y) e g

pub param_turn : (all : List (List ℕ)) (ts us : Words) (n : ℕ) (x : List ℕ) → (n ≡ 0 → ⊥) → starts Comma ts ≡ true → name_at (rest ts) ≡ Ok (x, us) → with_front (all ++ x ∷ []) (more_params_at (n - 1) us) ≡ with_front all (more_params_at n ts)
unfolding more_params_at
param_turn all ts us zero x z h e = absurd (z refl)
param_turn all ts us (suc n) x z h e = let k : suc n - 1 ≡ n = omega arith in rw (k, h, e) (sym (regroup all x (more_params_at n us)))

pub cell_turn : (size : ℕ) (all : List ℕ) (ts us : Words) (n x : ℕ) → (n ≡ 0 → ⊥) → comma_number_at size ts ≡ Ok (x, us) → with_front (all ++ x ∷ []) (more_cells_at size (n - 1) us) ≡ with_front all (more_cells_at size n ts)
unfolding more_cells_at
cell_turn size all ts us zero x z e = absurd (z refl)
cell_turn size all ts us (suc n) x z e = let k : suc n - 1 ≡ n = omega arith in rw (k, e) (sym (regroup all x (more_cells_at size n us)))

module _ (n : ℕ) (item : Words → Read Decl) (next : Words → Read Source) (all : Source) (ts : Words) where
  pub counted_turn : (us : Words) (d : Decl) → (n ≡ 0 → ⊥) → item ts ≡ Ok (d, us) → with_front (all ++ d ∷ []) (next us) ≡ with_front all (counted n item next ts)
  counted_turn us d z e = let lt : ltb 0 n ≡ true = lt-ltb _ _ (omega (arith, z)) in rw (lt, e) (sym (regroup all d (next us)))

pub worded_turn : (p : ℕ) (next : Words → Read Source) (l : ℕ) (all : Source) (ts us vs : Words) (m : Bool) (d : Decl) → (p ≡ 0 → ⊥) → procedure_word_at ts ≡ Ok (m, us) → procedure_at l m us ≡ Ok (d, vs) → with_front (all ++ d ∷ []) (next vs) ≡ with_front all (worded p next l ts)
worded_turn p next l all ts us vs m d z w e = counted_turn p (procedure_at l m) next all us vs d z e ∙ sym (ap (λ (r : Read Bool). with_front all (r >>= λ m. counted p (procedure_at l m.0) next m.1)) w)
