-- Readings that a layer keeps, or forgets at once.
use Rattle.std.proofs.Common.{◌≡◌, ℕ, Bool, true, false, List, [], ◌∷◌, ◌++◌, length, take, Result, Ok, Err, refl, sym, ◌∙◌, ap, subst}
use Rattle.std.proofs.Math.Seq.{take-append_seam}
use Rattle.evaluation.specs.declared.note.Note.{Note}
use Rattle.evaluation.specs.declared.stop.Stop.{Stop}
use Rattle.evaluation.specs.declared.stop.Stop.TheVariants.{NoMemory, Fault}
use Rattle.evaluation.specs.Values.{NumberedOut}
use Rattle.evaluation.specs.Ends.{Ends, Answers}
use Rattle.positions.specs.Layers.{PlainLayer, kept_behind, noting}
use Rattle.layers.specs.Ends.{HasNoted, kept_or_first, without_unkept}

pub take_all : {A : Type 0} (xs : List A) → take (length xs) xs ≡ xs
take_all [] = refl
take_all (x ∷ xs) = ap (λ ys. x ∷ ys) (take_all xs)

-- the first readings are there, whether the others are kept or not
pub first_kept : (b : Bool) (xs ys : List Note) → take (length xs) (kept_behind b xs ys) ≡ xs
first_kept true xs ys = take-append_seam xs ys
first_kept false xs ys = take_all xs

kept_same : (b : Bool) (xs ys : List Note) → kept_or_first b (length xs) (xs ++ ys) ≡ kept_behind b xs ys
kept_same true xs ys = refl
kept_same false xs ys = take-append_seam xs ys

none_more : (b : Bool) (xs : List Note) → kept_or_first b (length xs) xs ≡ xs
none_more true xs = refl
none_more false xs = take_all xs

unkept_more : (l : PlainLayer) (ns more : List Note) → ns ≡ l.notes ++ more → without_unkept (length l.notes) (record l { notes = ns }) ≡ noting more l
unkept_more l ns more e = ap (λ xs. record l { notes = kept_or_first l.keeps (length l.notes) xs }) e ∙ ap (λ xs. record l { notes = xs }) (kept_same l.keeps l.notes more)

ends_without_unkept : {A B : Type 0} (view : B → A) (o : NumberedOut A) (l : PlainLayer) (ns : List Note) (r : Result B Stop) → Ends view o l.notes ns r
    → HasNoted view o l (without_unkept (length l.notes) (record l { notes = ns })) r
ends_without_unkept view o l ns (Ok b) h = (h.0, unkept_more l ns o.notes h.1)
ends_without_unkept view o l ns (Err (Fault k)) h = (h.0, unkept_more l ns o.notes h.1)
ends_without_unkept view o l ns (Err NoMemory) h = ap (λ xs. record l { notes = kept_or_first l.keeps (length l.notes) xs }) h ∙ ap (λ xs. record l { notes = xs }) (none_more l.keeps l.notes)

-- what an evaluation has read is kept or forgotten
pub noted_without_unkept : {A B : Type 0} (view : B → A) (o : NumberedOut A) (l m new : PlainLayer) (ns : List Note) (n : ℕ) (r : Result B Stop) → Ends view o l.notes ns r
    → m ≡ record l { notes = ns } → n ≡ length l.notes → new ≡ without_unkept n m → HasNoted view o l new r
noted_without_unkept view o l m new ns n r h e f g =
    subst (λ k. HasNoted view o l k r) (sym (g ∙ ap (without_unkept n) e ∙ ap (λ k. without_unkept k (record l { notes = ns })) f)) (ends_without_unkept view o l ns r h)

pub noted_nothing : (b : Bool) (xs ys : List Note) → b ≡ false → kept_behind b xs ys ≡ xs
noted_nothing true xs ys e = absurd cc
noted_nothing false xs ys e = refl

-- where nothing is kept, an evaluation that notes nothing is enough
pub unnoted_is : {A B : Type 0} (view : B → A) (o : NumberedOut A) (l new : PlainLayer) (r : Result B Stop) → Answers view o r → l.keeps ≡ false → new ≡ l → HasNoted view o l new r
unnoted_is view o l new (Ok b) h e f = (h, f ∙ ap (λ xs. record l { notes = xs }) (sym (noted_nothing l.keeps l.notes o.notes e)))
unnoted_is view o l new (Err (Fault k)) h e f = (h, f ∙ ap (λ xs. record l { notes = xs }) (sym (noted_nothing l.keeps l.notes o.notes e)))
unnoted_is view o l new (Err NoMemory) h e f = f

pub noted_all : (b : Bool) (xs ys : List Note) → b ≡ true → kept_behind b xs ys ≡ xs ++ ys
noted_all true xs ys e = refl
noted_all false xs ys e = absurd cc

more_kept : (l : PlainLayer) (ns more : List Note) → l.keeps ≡ true → ns ≡ l.notes ++ more → record l { notes = ns } ≡ noting more l
more_kept l ns more e h = ap (λ xs. record l { notes = xs }) (h ∙ sym (noted_all l.keeps l.notes more e))

-- where all is kept, what an evaluation has noted is
pub noted_is : {A B : Type 0} (view : B → A) (o : NumberedOut A) (l new : PlainLayer) (ns : List Note) (r : Result B Stop) → Ends view o l.notes ns r → l.keeps ≡ true → new ≡ record l { notes = ns }
    → HasNoted view o l new r
noted_is view o l new ns (Ok b) h e f = (h.0, f ∙ more_kept l ns o.notes e h.1)
noted_is view o l new ns (Err (Fault k)) h e f = (h.0, f ∙ more_kept l ns o.notes e h.1)
noted_is view o l new ns (Err NoMemory) h e f = f ∙ ap (λ xs. record l { notes = xs }) h
