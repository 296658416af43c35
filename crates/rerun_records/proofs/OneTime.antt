-- Of what tables held at one time each cell has one value, so a reading of a cell tells which others of it there are.
use Rattle.std.proofs.Common.{◌≡◌, ℕ, ℤ, Bool, true, false, true≢false, List, [], ◌∷◌, Option, Some, None, refl, sym, ap, ◌∙◌, subst}
use Rattle.std.specs.Prelude.{◌||◌}
use Rattle.std.proofs.lemmas.List.Elements.{All-nil, All-cons, All-head, All-tail}
use Rattle.meaning.specs.Every.{every}
use Rattle.meaning.specs.Records.{same_number}
use Rattle.meaning.specs.Tables.{Tables}
use Rattle.input_tables.specs.Edited.{cell_at}
use Rattle.evaluation.specs.declared.note.Note.{Note}
use Rattle.evaluation.specs.declared.note.Note.TheVariants.{Cell}
use Rattle.record_theory.specs.Record.{PlainRecord}
use Rattle.record_theory.specs.Commits.{put_records}
use Rattle.record_theory.specs.InStep.{ReadNow, reads_agree}
use Rattle.record_theory.specs.Numbers.{with_numbers}
use Rattle.record_theory.specs.OneTime.{IsOfOneTime, AreOfOneTime}
use Rattle.record_theory.specs.Same.{same_note, is_read}
use Rattle.record_theory.specs.Validity.{note_agrees}
use Rattle.record_theory.proofs.Members.{left_is, right_is}
use Rattle.record_theory.proofs.Puts.{all_put_in}
use Rattle.record_theory.proofs.Same.{integer_is, note_is}

-- ---- what tables hold

pub held : (o : Option ℤ) (v w : ℤ) → same_number o v ≡ true → same_number o w ≡ true → v ≡ w
held None v w e f = absurd (true≢false (sym e))
held (Some x) v w e f = sym (integer_is x v e) ∙ integer_is x w f

passes_as : (q : Note → Bool) (note x : Note) (ns : List Note) (b : Bool) → same_note note x ≡ b → (b || is_read ns note) ≡ true → (is_read ns note ≡ true → q note ≡ true) → q x ≡ true → q note ≡ true
passes_as q note x ns true s r f p = ap q (note_is note x s) ∙ p
passes_as q note x ns false s r f p = f r

pub read_passes : (q : Note → Bool) (ns : List Note) (note : Note) → every q ns ≡ true → is_read ns note ≡ true → q note ≡ true
read_passes q [] note e r = absurd (true≢false (sym r))
read_passes q (x ∷ ns) note e r =
    passes_as q note x ns (same_note note x) refl r (read_passes q ns note (right_is (q x) (every q ns) e)) (left_is (q x) (every q ns) e)

pub agreed_once : (tables : Tables) (notes : List Note) → every (note_agrees tables) notes ≡ true → IsOfOneTime notes
agreed_once tables notes e t row c v w f g =
    held (cell_at tables t row c) v w (read_passes (note_agrees tables) notes (Cell t row c v) e f) (read_passes (note_agrees tables) notes (Cell t row c w) e g)

-- ---- records

pub read_now_once : (tables : Tables) (rs : List PlainRecord) → ReadNow tables rs → AreOfOneTime rs
read_now_once tables [] e = All-nil (λ (x : PlainRecord). IsOfOneTime x.reads)
read_now_once tables (r ∷ rs) e =
    All-cons (λ (x : PlainRecord). IsOfOneTime x.reads) r rs (agreed_once tables r.reads (left_is (reads_agree tables r) (every (reads_agree tables) rs) e))
    (read_now_once tables rs (right_is (reads_agree tables r) (every (reads_agree tables) rs) e))

pub without_numbers_once : (ns : List ℕ) (rs : List PlainRecord) → AreOfOneTime (with_numbers ns rs) → AreOfOneTime rs
without_numbers_once ns [] a = a
without_numbers_once [] (r ∷ rs) a =
    All-cons (λ (x : PlainRecord). IsOfOneTime x.reads) r rs (All-head (λ (x : PlainRecord). IsOfOneTime x.reads) r (with_numbers [] rs) a)
    (without_numbers_once [] rs (All-tail (λ (x : PlainRecord). IsOfOneTime x.reads) r (with_numbers [] rs) a))
without_numbers_once (n ∷ ns) (r ∷ rs) a =
    All-cons (λ (x : PlainRecord). IsOfOneTime x.reads) r rs (All-head (λ (x : PlainRecord). IsOfOneTime x.reads) (record r { stale = n }) (with_numbers ns rs) a)
    (without_numbers_once ns rs (All-tail (λ (x : PlainRecord). IsOfOneTime x.reads) (record r { stale = n }) (with_numbers ns rs) a))

pub with_numbers_once : (ns : List ℕ) (rs : List PlainRecord) → AreOfOneTime rs → AreOfOneTime (with_numbers ns rs)
with_numbers_once ns [] a = a
with_numbers_once [] (r ∷ rs) a =
    All-cons (λ (x : PlainRecord). IsOfOneTime x.reads) r (with_numbers [] rs) (All-head (λ (x : PlainRecord). IsOfOneTime x.reads) r rs a)
    (with_numbers_once [] rs (All-tail (λ (x : PlainRecord). IsOfOneTime x.reads) r rs a))
with_numbers_once (n ∷ ns) (r ∷ rs) a =
    All-cons (λ (x : PlainRecord). IsOfOneTime x.reads) (record r { stale = n }) (with_numbers ns rs) (All-head (λ (x : PlainRecord). IsOfOneTime x.reads) r rs a)
    (with_numbers_once ns rs (All-tail (λ (x : PlainRecord). IsOfOneTime x.reads) r rs a))

-- records that were put in among others
pub put_once : (ns news : List ℕ) (rs list made : List PlainRecord) → with_numbers news list ≡ put_records (with_numbers ns rs) made → AreOfOneTime rs → AreOfOneTime made → AreOfOneTime list
put_once ns news rs list made e a b =
    without_numbers_once news list (subst AreOfOneTime (sym e) (all_put_in (λ (x : PlainRecord). IsOfOneTime x.reads) (with_numbers ns rs) made (with_numbers_once ns rs a) b))

pub first_once : (news : List ℕ) (list made : List PlainRecord) → with_numbers news list ≡ put_records [] made → AreOfOneTime [] → AreOfOneTime made → AreOfOneTime list
first_once news list made e a b = without_numbers_once news list (subst AreOfOneTime (sym e) (all_put_in (λ (x : PlainRecord). IsOfOneTime x.reads) [] made a b))

-- ---- a cell by one of its readings
