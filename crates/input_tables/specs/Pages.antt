-- Rows in pages: a page has a number, and the rows whose numbers it covers.
use Rattle.std.specs.Prelude.{◌≡◌, ℕ, suc, ℤ, pos, negsuc, List, [], ◌∷◌, ◌++◌, ◌/◌, true, cond, int_lt, Option, Some, None}
use Rattle.std.specs.Ordering.{int_eq}
use Rattle.meaning.specs.Edits.{in_range}
use Rattle.input_tables.specs.Rows.{Row, AreCells}

-- how many entries at the front have lower numbers
abbrev pub lower_count : {A : Type 0} → ℤ → List (ℤ × A) → ℕ
lower_count n [] = 0
lower_count n (e ∷ es) = cond (int_lt e.0 n) (suc (lower_count n es)) 0

-- all numbers are greater than this one, or lower
abbrev pub AreOver : {A : Type 0} → ℤ → List (ℤ × A) → Type 0
AreOver n [] = Unit {0}
AreOver n (e ∷ es) = (int_lt n e.0 ≡ true) × AreOver n es

abbrev pub AreUnder : {A : Type 0} → ℤ → List (ℤ × A) → Type 0
AreUnder n [] = Unit {0}
AreUnder n (e ∷ es) = (int_lt e.0 n ≡ true) × AreUnder n es

-- each number is greater than those before it
abbrev pub AreRising : {A : Type 0} → List (ℤ × A) → Type 0
AreRising [] = Unit {0}
AreRising (e ∷ es) = AreOver e.0 es × AreRising es

-- this is an entry of a number, or there is none of it
abbrev pub IsOf : {A : Type 0} → ℤ → Option (ℤ × A) → Type 0
IsOf n None = ⊥
IsOf n (Some e) = e.0 ≡ n

abbrev pub IsAbsent : {A : Type 0} → ℤ → Option (ℤ × A) → Type 0
IsAbsent n None = Unit {0}
IsAbsent n (Some e) = ¬ (e.0 ≡ n)

-- what a number's entry holds
abbrev pub entry_of : {A : Type 0} → ℤ → List (ℤ × A) → Option A
entry_of n [] = None
entry_of n (e ∷ es) = cond (int_eq e.0 n) (Some e.1) (entry_of n es)

-- the page of a row's number; none has the page of the negative numbers
abbrev pub page_of : ℤ → ℤ
page_of (pos n) = pos (n / 64)
page_of (negsuc n) = negsuc 0

-- a page's number and its rows
abbrev pub Page : Type 0
Page = ℤ × List Row

-- rows that a page may hold
abbrev pub AreOn : ℤ → List Row → Type 0
AreOn page [] = Unit {0}
AreOn page (r ∷ rs) = (in_range r.0 ≡ true) × (page_of r.0 ≡ page) × AreCells r.1 × AreOn page rs

abbrev pub HasRows : List Row → Type 0
HasRows [] = ⊥
HasRows (r ∷ rs) = Unit {0}

-- each page holds rows of its own, rising, and at least one
abbrev pub ArePages : List Page → Type 0
ArePages [] = Unit {0}
ArePages (p ∷ ps) = AreOn p.0 p.1 × AreRising p.1 × HasRows p.1 × ArePages ps

-- the rows of all pages
abbrev pub all_of : List Page → List Row
all_of [] = []
all_of (p ∷ ps) = p.1 ++ all_of ps

-- an entry put in the place of the one of its number, and the entry of a number taken out
abbrev pub put_entry : {A : Type 0} → ℤ → A → List (ℤ × A) → List (ℤ × A)
put_entry n x [] = (n, x) ∷ []
put_entry n x (e ∷ es) = cond (int_lt n e.0) ((n, x) ∷ e ∷ es) (cond (int_lt e.0 n) (e ∷ put_entry n x es) ((n, x) ∷ es))

abbrev pub gone_entry : {A : Type 0} → ℤ → List (ℤ × A) → List (ℤ × A)
gone_entry n [] = []
gone_entry n (e ∷ es) = cond (int_eq e.0 n) es (e ∷ gone_entry n es)
