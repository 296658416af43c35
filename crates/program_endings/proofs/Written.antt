-- Bytes written one part after another.
use Rattle.std.proofs.Common.{◌≡◌, ℕ, ◌+◌, ◌-◌, ◌≤◌, List, [], ◌++◌, Option, Some, None, length, take, drop, refl, sym, append_assoc, append-nil, arith, length-drop}
use Rattle.std.proofs.Math.Seq.{take-add, take-append_seam}
use Rattle.std.proofs.lemmas.List.{take_all, take-append-drop}
use Rattle.std.specs.Prelude.{IfSome}
use Rattle.std.specs.Io.KnownBytes.{Appends}
use Rattle.program_endings.specs.Written.{HasBeginning}

pub Appends-nothing : (a : Option (List ℕ)) → Appends a a []
Appends-nothing None = tt
Appends-nothing (Some xs) = sym (append-nil xs)

pub Appends-more : (a b c : Option (List ℕ)) (xs ys : List ℕ) → Appends a b xs → Appends b c ys → Appends a c (xs ++ ys)
Appends-more None b c xs ys p q = tt
Appends-more (Some a) None c xs ys p q = absurd p
Appends-more (Some a) (Some b) None xs ys p q = absurd q
Appends-more (Some a) (Some b) (Some c) xs ys p q = rw (q, p, append_assoc) refl

-- one more write of what follows the bytes that are written
pub Appends-next : (a b c : Option (List ℕ)) (bytes : List ℕ) (at n : ℕ) → at ≤ length bytes
    → Appends a b (take at bytes) → Appends b c (take n (take (length bytes - at) (drop at bytes)))
    → Appends a c (take (at + n) bytes)
Appends-next a b c bytes at n h before next =
    let all : take (length bytes - at) (drop at bytes) ≡ drop at bytes = take_all (length bytes - at) (drop at bytes) (omega (arith, length-drop at bytes)) in
    rw take-add (Appends-more a b c _ _ before (rw all at next))

-- the part that is written begins all of it
pub beginning_of : (a b : Option (List ℕ)) (done rest all : List ℕ) → Appends a b done → done ++ rest ≡ all → HasBeginning a b all
beginning_of a b done rest all wrote is =
    let front : take (length done) all ≡ done = rw (← is) (take-append_seam done rest) in
    (length done, rw front wrote)

-- a beginning of the next part is written
pub beginning_after : (a b c : Option (List ℕ)) (done part rest all : List ℕ) → Appends a b done → HasBeginning b c part
    → done ++ (part ++ rest) ≡ all → HasBeginning a c all
beginning_after a b c done part rest all wrote (n, more) is =
    let whole : (done ++ take n part) ++ (drop n part ++ rest) ≡ all =
    rw (append_assoc, ← append_assoc (take n part) (drop n part) rest, take-append-drop n part) is in
    beginning_of a c (done ++ take n part) (drop n part ++ rest) all (Appends-more a b c done (take n part) wrote more) whole

-- where nothing is written, whatever was to be
pub nothing_written : (o a : Option (List ℕ)) (all : List ℕ → List ℕ) → IfSome o (λ x. HasBeginning a a (all x))
nothing_written None a all = tt
nothing_written (Some x) a all = (0, Appends-nothing a)
