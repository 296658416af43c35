-- Readings that are put in once.
use Rattle.std.proofs.Common.{◌≡◌, ℕ, suc, arith, ℤ, ◌+◌, ◌<◌, Bool, true, false, not, nat_eq, cond, if◌then◌else◌, ◌||◌, ◌&&◌, List, [], ◌∷◌, ◌++◌, length, drop, map, refl, sym, ap, ◌∙◌, get_or}
use Rattle.std.specs.List.{list_any}
use Rattle.std.specs.Ordering.{int_eq}
use Rattle.std.proofs.lemmas.Bool.Decides.{Decides-eqb}
use Rattle.std.proofs.lemmas.List.{append-nil, drop_more}
use Rattle.indexmap.specs.IndexSet.{insert_key}
use Rattle.evaluation.specs.declared.note.Note.{Note}
use Rattle.evaluation.specs.declared.note.Note.TheVariants as n
use Rattle.evaluation.specs.declared.reading.Reading.{Reading}
use Rattle.evaluation.specs.Short.{note_of}
use Rattle.evaluation.specs.contracts.note.NotePartialEq.TheImpl as notes
use Rattle.instance_records.specs.Readings.{all_of}
use Rattle.record_theory.specs.Same.{same_note}
use Rattle.record_theory.proofs.Same.{derived_same}
use Rattle.positions.specs.Values.{once, once_behind, put_note}

module _ (eq : Note → Note → Bool) (same : (a b : Note) → eq a b ≡ same_note a b) where
  any_same : (n : Note) (seen : List Note) → list_any (eq n) seen ≡ list_any (same_note n) seen
  any_same n [] = refl
  any_same n (m ∷ seen) = ap (λ b. b || list_any (eq n) seen) (same n m) ∙ ap (λ b. same_note n m || b) (any_same n seen)

  put_by : (b : Bool) (seen more : List Note) → (if b then seen else more) ≡ cond b seen more
  put_by true seen more = refl
  put_by false seen more = refl

  pub put_as_key : (seen : List Note) (n : Note) → insert_key eq seen n ≡ put_note seen n
  put_as_key seen n = put_by (list_any (eq n) seen) seen (seen ++ n ∷ []) ∙ ap (λ b. cond b seen (seen ++ n ∷ [])) (any_same n seen)

pub inserted_is : (seen : List Note) (n : Note) → insert_key (notes.ghosts).eq seen n ≡ put_note seen n
inserted_is seen n = put_as_key (notes.ghosts).eq derived_same seen n

pub still_once : (seen more : List Note) (rs : List Reading) (i : ℕ) (r : Reading) → i < length rs → more ≡ put_note seen (note_of (get_or rs i r))
    → once_behind seen (map note_of (drop i rs)) ≡ once (map note_of rs) → once_behind more (map note_of (drop (i + 1) rs)) ≡ once (map note_of rs)
still_once seen more rs i r l put so_far =
    ap (λ s. once_behind s (map note_of (drop (i + 1) rs))) put ∙ ap (λ xs. once_behind seen (map note_of xs)) (sym (drop_more rs i r l)) ∙ so_far

-- ---- readings that are apart

apart_by : (a b c v : Bool) → not c ≡ true → (a && (b && (c && v))) ≡ false
apart_by false b c v h = refl
apart_by true false c v h = refl
apart_by true true false v h = refl
apart_by true true true v h = absurd cc

-- cells in different columns
pub apart_cells : (t u c d : ℕ) (row s v w : ℤ) → not (nat_eq c d) ≡ true → same_note (n.Cell t row c v) (n.Cell u s d w) ≡ false
apart_cells t u c d row s v w h = apart_by (nat_eq t u) (int_eq row s) (nat_eq c d) (int_eq v w) h

-- no reading, and a single one, stand there once
pub few_once : (rs : List Reading) → length rs < 2 → once (map note_of rs) ≡ map note_of rs
few_once [] few = refl
few_once (r ∷ []) few = refl
few_once (r ∷ s ∷ rs) few = absurd (omega (arith, few))

-- readings that are distinct are kept as they are, where nothing is shared
pub two_kept : (ns ms r : List Note) (shared : List (List Note)) → ms ≡ ns → once ms ≡ ms → nat_eq (length shared) 0 ≡ true → r ≡ ms → r ≡ once ns ++ all_of shared
two_kept ns ms r [] e o n f = f ∙ sym o ∙ ap once e ∙ sym (append-nil (once ns))
two_kept ns ms r (x ∷ shared) e o n f = (let none : suc (length shared) ≡ 0 = (Decides-eqb (suc (length shared)) 0).0 n in absurd (omega (arith, none)))
