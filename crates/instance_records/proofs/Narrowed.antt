-- Readings that a change may have changed, found by going past those that it can't have.
use Rattle.std.proofs.Common.{◌≡◌, ℕ, zero, suc, ◌<◌, ◌≤◌, ◌+◌, ◌-◌, ℤ, Bool, true, false, true≢false, cond, not, List, [], ◌∷◌, ◌++◌, Some, None, length, map, take, drop, refl, sym, ap, ◌∙◌, subst, arith, get_or}
use Rattle.std.proofs.lemmas.List.{take_rest}
use Rattle.std.specs.Prelude.{◌||◌, Box}
use Rattle.std.specs.declared.alloc.Global.{Global}
use Rattle.std.specs.declared.sync.Arc.{Arc}
use Rattle.std.specs.List.{flat_map, list_any}
use Rattle.meaning.specs.Every.{every}
use Rattle.evaluation.specs.declared.note.Note.{Note}
use Rattle.evaluation.specs.declared.reading.Reading.{Reading}
use Rattle.evaluation.specs.Short.{note_of}
use Rattle.instance_records.specs.declared.readings.Node.{Node, out-Node}
use Rattle.instance_records.specs.declared.readings.Below.{Below, out-Below}
use Rattle.instance_records.specs.ShortLists.{items_in}
use Rattle.record_theory.specs.InStep.{is_apart, rests_on}
use Rattle.record_theory.specs.Counts.{how_many}
use Rattle.record_numbers.specs.Stale.{number_by}
use Rattle.record_theory.specs.Numbers.{number_then}
use Rattle.instance_records.specs.Readings.{node_notes, shared_notes}
use Rattle.record_theory.specs.Same.{same_note, is_read}
use Rattle.record_theory.proofs.Members.{left_is, right_is, every_append}
use Rattle.instance_records.proofs.NodeNotes.{alone}
use Rattle.record_theory.proofs.Same.{note_is, read_append}
use Rattle.instance_records.proofs.Among.{read_in_parts}
use Rattle.instance_records.proofs.Touched.{own_apart}

not_so : (b : Bool) → not b ≡ true → b ≡ false
not_so true e = absurd (true≢false (sym e))
not_so false e = refl

no_more : (a b : Bool) → b ≡ false → (a || b) ≡ a
no_more true b e = refl
no_more false b e = e

other : (q : Note → Bool) (note x : Note) (b : Bool) → q note ≡ false → q x ≡ true → same_note note x ≡ b → b ≡ false
other q note x false h e s = refl
other q note x true h e s = absurd (true≢false (sym e ∙ ap q (sym (note_is note x s)) ∙ h))

-- where all of some pass a test that a note doesn't, it is none of these
none_of : (q : Note → Bool) (ns : List Note) (note : Note) → every q ns ≡ true → q note ≡ false → is_read ns note ≡ false
none_of q [] note e h = refl
none_of q (x ∷ ns) note e h =
    ap (λ b. b || is_read ns note) (other q note x (same_note note x) h (left_is (q x) (every q ns) e) refl)
    ∙ none_of q ns note (right_is (q x) (every q ns) e) h

-- notes of which each is among both or none of two lists
pub same_many : (q : Note → Bool) (ys xs zs : List Note) → every (λ n. not (q n)) ys ≡ true → ((note : Note) → q note ≡ false → is_read xs note ≡ is_read zs note) → how_many same_note ys xs ≡ how_many same_note ys zs
same_many q [] xs zs r h = refl
same_many q (y ∷ ys) xs zs r h =
    ap (λ b. cond b (suc (how_many same_note ys xs)) (how_many same_note ys xs)) (h y (not_so (q y) (left_is (not (q y)) (every (λ n. not (q n)) ys) r)))
    ∙ ap (λ k. cond (is_read zs y) (suc k) k) (same_many q ys xs zs (right_is (not (q y)) (every (λ n. not (q n)) ys) r) h)

pub left_rest : (q : Note → Bool) (xs ys : List Note) → every (λ n. not (q n)) (xs ++ ys) ≡ true → every (λ n. not (q n)) xs ≡ true
left_rest q xs ys e = left_is (every (λ n. not (q n)) xs) (every (λ n. not (q n)) ys) (sym (every_append (λ n. not (q n)) xs ys) ∙ e)

pub right_rest : (q : Note → Bool) (xs ys : List Note) → every (λ n. not (q n)) (xs ++ ys) ≡ true → every (λ n. not (q n)) ys ≡ true
right_rest q xs ys e = right_is (every (λ n. not (q n)) xs) (every (λ n. not (q n)) ys) (sym (every_append (λ n. not (q n)) xs ys) ∙ e)

-- so a number is the same by either
pub same_number : (q : Note → Bool) (lost won xs zs : List Note) (number more fewer : ℕ) → every (λ n. not (q n)) (lost ++ won) ≡ true
    → ((note : Note) → q note ≡ false → is_read xs note ≡ is_read zs note) → more ≡ how_many same_note lost xs → fewer ≡ how_many same_note won xs
    → number_by number more fewer ≡ number_then lost won number zs
same_number q lost won xs zs number more fewer r h m f =
    ap (λ (k : ℕ). number_by number k fewer) (m ∙ same_many q lost xs zs (left_rest q lost won r) h)
    ∙ ap (λ (k : ℕ). number_by number (how_many same_note lost zs) k) (f ∙ same_many q won xs zs (right_rest q lost won r) h)

-- ---- the one part that has it

only_there : (q : Note → Bool) (parts : List (Arc Node Global)) (k : ℕ) (x : Arc Node Global) (note : Note) → k < length parts → x ≡ get_or parts k x → every q (flat_map shared_notes (take k parts)) ≡ true
    → every q (flat_map shared_notes (drop (suc k) parts)) ≡ true → q note ≡ false → is_read (shared_notes x) note ≡ is_read (flat_map shared_notes parts) note
only_there q [] k x note l at before behind h = absurd (omega (arith, l))
only_there q (p ∷ ps) zero x note l at before behind h =
    ap (λ y. is_read (shared_notes y) note) at
    ∙ sym (no_more (is_read (shared_notes p) note) (is_read (flat_map shared_notes ps) note) (none_of q (flat_map shared_notes ps) note behind h))
    ∙ sym (read_append (shared_notes p) (flat_map shared_notes ps) note)
only_there q (p ∷ ps) (suc k) x note l at before behind h =
    let each = sym (every_append q (shared_notes p) (flat_map shared_notes (take k ps))) ∙ before in
    only_there q ps k x note (omega (arith, l)) at (right_is (every q (shared_notes p)) (every q (flat_map shared_notes (take k ps))) each) behind h
    ∙ sym (ap (λ b. b || is_read (flat_map shared_notes ps) note) (none_of q (shared_notes p) note (left_is (every q (shared_notes p)) (every q (flat_map shared_notes (take k ps))) each) h))
    ∙ sym (read_append (shared_notes p) (flat_map shared_notes ps) note)

pub only_part : (q : Note → Bool) (parts : List (Arc Node Global)) (k : ℕ) (x : Arc Node Global) (note : Note) → k < length parts → x ≡ get_or parts k x → every q (flat_map shared_notes (take k parts)) ≡ true
    → every q (flat_map shared_notes (drop (k + 1) parts)) ≡ true → q note ≡ false → is_read (shared_notes x) note ≡ is_read (flat_map shared_notes parts) note
only_part q parts k x note l at before behind h =
    let next : k + 1 ≡ suc k = omega arith in
    only_there q parts k x note l at before (subst (λ (n : ℕ). every q (flat_map shared_notes (drop n parts)) ≡ true) next behind) h

-- ---- readings up to the last that rests on a change

apart_if : (change : ℕ × ℤ) (x : Note) → rests_on x change ≡ false → is_apart (change ∷ []) x ≡ true
apart_if change x e = ap (λ b. not (b || false)) e

sooner : (change : ℕ × ℤ) (own : List Reading) (k : ℕ) (x : Reading) (note : Note) → k < length own → x ≡ get_or own k x → rests_on (note_of x) change ≡ false → is_apart (change ∷ []) note ≡ false
    → is_read (map note_of (take k own)) note ≡ is_read (map note_of (take (suc k) own)) note
sooner change [] k x note l at e h = absurd (omega (arith, l))
sooner change (r ∷ rs) zero x note l at e h =
    let apart : is_apart (change ∷ []) (note_of r) ≡ true = apart_if change (note_of r) (ap (λ y. rests_on (note_of y) change) (sym at) ∙ e) in
    sym (ap (λ b. b || false) (other (is_apart (change ∷ [])) note (note_of r) (same_note note (note_of r)) h apart refl))
sooner change (r ∷ rs) (suc k) x note l at e h = ap (λ b. same_note note (note_of r) || b) (sooner change rs k x note (omega (arith, l)) at e h)

-- what was read is read without the last reading of those so far, where that doesn't rest on the change
pub one_fewer : (change : ℕ × ℤ) (own : List Reading) (end : ℕ) (x : Reading) → 0 < end → end ≤ length own → x ≡ get_or own (end - 1) x → rests_on (note_of x) change ≡ false
    → ((note : Note) → is_apart (change ∷ []) note ≡ false → is_read (map note_of (take end own)) note ≡ is_read (map note_of own) note)
    → (note : Note) → is_apart (change ∷ []) note ≡ false → is_read (map note_of (take (end - 1) own)) note ≡ is_read (map note_of own) note
one_fewer change own end x some within at e so_far note h =
    let next : suc (end - 1) ≡ end = omega (arith, some) in
    subst (λ (n : ℕ). is_read (map note_of (take (end - 1) own)) note ≡ is_read (map note_of (take n own)) note) next (sooner change own (end - 1) x note (omega (arith, some, within)) at e h) ∙ so_far note h

-- ---- a node by its own readings, or by its parts

pub alone_is : (n : Node) (note : Note) → (out-Node n).below ≡ None → is_read (map note_of (items_in (out-Node n).own)) note ≡ is_read (node_notes n) note
alone_is n note b =
    let own = map note_of (items_in (out-Node n).own) in
    sym (ap (λ ns. is_read ns note) (alone n b) ∙ read_append own [] note ∙ no_more (is_read own note) false refl)

-- where none of its own rests on the change, what does is in its parts
pub below_is : (n : Node) (note : Note) (change : ℕ × ℤ) (changes : List (ℕ × ℤ)) (b : Box Below Global) → (out-Node n).below ≡ Some b → changes ≡ change ∷ []
    → list_any (λ x. list_any (rests_on x) changes) (map note_of (items_in (out-Node n).own)) ≡ false → is_apart (change ∷ []) note ≡ false
    → is_read (node_notes n) note ≡ is_read (flat_map shared_notes (items_in (out-Below b.value).parts)) note
below_is n note change changes b at is e h =
    let own = map note_of (items_in (out-Node n).own) in
    let apart : every (is_apart (change ∷ [])) own ≡ true = subst (λ cs. every (is_apart cs) own ≡ true) is (own_apart changes own e) in
    read_in_parts n note b at (none_of (is_apart (change ∷ [])) own note apart h)

-- ---- the parts behind one

every_dropped : {A : Type 0} (p : A → Bool) (n : ℕ) (xs : List A) → every p xs ≡ true → every p (drop n xs) ≡ true
every_dropped p zero xs e = e
every_dropped p (suc n) [] e = e
every_dropped p (suc n) (x ∷ xs) e = every_dropped p n xs (right_is (p x) (every p xs) e)

pub every_behind : {A : Type 0} (p : A → Bool) (n : ℕ) (xs : List A) → every p xs ≡ true → every p (take (length xs - n) (drop n xs)) ≡ true
every_behind p n xs e = ap (every p) (take_rest xs n) ∙ every_dropped p n xs e

pub behind_is : (q : Note → Bool) (n : ℕ) (parts : List (Arc Node Global)) → every q (flat_map shared_notes (take (length parts - n) (drop n parts))) ≡ true → every q (flat_map shared_notes (drop n parts)) ≡ true
behind_is q n parts e = ap (λ ps. every q (flat_map shared_notes ps)) (sym (take_rest parts n)) ∙ e

-- ---- readings one by one
