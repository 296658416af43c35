-- The operation, the identity and the elements of each kind, as plain functions.
use Rattle.std.specs.Prelude.{◌≡◌, ℕ, ◌+◌, ◌-◌, ◌*◌, ◌<◌, ◌≤◌, ℤ, pos, negsuc, ◌+ℤ◌, ◌*ℤ◌, int_lt, cond, List, [], ◌∷◌, ◌++◌, take, drop}
use Rattle.std.specs.Prelude.{length, map, Option, Some, None, slice_index, FitsSigned, All, IfSome, slice_index_or, ◌<ℤ◌, unsigned_abs}
use Rattle.std.specs.Prelude.{Bool, not, true, ◌&&◌}
use Rattle.std.specs.Int.{int_wrap, int_max, int_min, int_bit_and, int_bit_or, int_bit_xor, w64}
use Rattle.monoid_laws.specs.Worth.{Worth, number, items, best, line, amounts, element, the_number, the_items, the_best, the_factor}
use Rattle.monoid_laws.specs.Worth.{the_term, the_amounts, the_element}
use Rattle.monoid_laws.specs.declared.Kind.{Kind}
use Rattle.monoid_laws.specs.declared.Kind.TheVariants as k
use Rattle.monoid_laws.specs.declared.Val.{Val}
use Rattle.monoid_laws.specs.declared.Val.TheVariants as v
use Rattle.monoid_laws.specs.declared.Table.{Table}
use Rattle.monoid_laws.specs.declared.InjectError.{InjectError}
use Rattle.monoid_laws.specs.declared.InjectError.TheVariants.{NoMemory, BadElement}

abbrev pub wrap : ℤ → ℤ
wrap z = int_wrap w64 z

-- the greater first number, the left one on ties
abbrev pub better_pair : (ℤ × ℤ) → (ℤ × ℤ) → ℤ × ℤ
better_pair p q = cond (int_lt p.0 q.0) q p

abbrev pub better : Option (ℤ × ℤ) → Option (ℤ × ℤ) → Option (ℤ × ℤ)
better None y = y
better (Some p) None = Some p
better (Some p) (Some q) = Some (better_pair p q)

-- the amounts with v more at k
abbrev pub add_at : ℤ → ℤ → List (ℤ × ℤ) → List (ℤ × ℤ)
add_at k v [] = (k, v) ∷ []
add_at k v (e ∷ es) = cond (int_lt k e.0) ((k, v) ∷ (e ∷ es)) (cond (int_lt e.0 k) (e ∷ add_at k v es) ((k, wrap (v +ℤ e.1)) ∷ es))

-- the sums by key
abbrev pub merge : List (ℤ × ℤ) → List (ℤ × ℤ) → List (ℤ × ℤ)
merge [] ys = ys
merge (x ∷ xs) ys = add_at x.0 x.1 (merge xs ys)

-- the last n of a list
abbrev pub last_of : ℕ → List ℤ → List ℤ
last_of n xs = drop (length xs - n) xs

abbrev pub table_at : Table → ℕ → ℕ → ℕ
table_at t a b = slice_index t.cells (a * t.size + b)

-- the operation, left then right
abbrev pub operate : Kind → Worth → Worth → Worth
operate k.Add x y = number (wrap (the_number x +ℤ the_number y))
operate k.Mul x y = number (wrap (the_number x *ℤ the_number y))
operate k.Min x y = number (int_min (the_number x) (the_number y))
operate k.Max x y = number (int_max (the_number x) (the_number y))
operate k.And x y = number (int_bit_and w64 (the_number x) (the_number y))
operate k.Or x y = number (int_bit_or w64 (the_number x) (the_number y))
operate k.Xor x y = number (int_bit_xor w64 (the_number x) (the_number y))
operate k.List x y = items (the_items x ++ the_items y)
operate (k.First n) x y = items (take n (the_items x ++ the_items y))
operate (k.Last n) x y = items (last_of n (the_items x ++ the_items y))
operate k.Argmax x y = best (better (the_best x) (the_best y))
operate k.Affine x y = line (wrap (the_factor x *ℤ the_factor y)) (wrap (the_factor y *ℤ the_term x +ℤ the_term y))
operate k.Hist x y = amounts (merge (the_amounts x) (the_amounts y))
operate (k.Table t) x y = element (table_at t (the_element x) (the_element y))

abbrev pub identity_of : Kind → Worth
identity_of k.Add = number (pos 0)
identity_of k.Mul = number (pos 1)
identity_of k.Min = number (pos 9223372036854775807)
identity_of k.Max = number (negsuc 9223372036854775807)
identity_of k.And = number (negsuc 0)
identity_of k.Or = number (pos 0)
identity_of k.Xor = number (pos 0)
identity_of k.List = items []
identity_of (k.First n) = items []
identity_of (k.Last n) = items []
identity_of k.Argmax = best None
identity_of k.Affine = line (pos 1) (pos 0)
identity_of k.Hist = amounts []
identity_of (k.Table t) = element t.unit

-- the lists, one after another
abbrev pub joined : List (List ℤ) → List ℤ
joined [] = []
joined (p ∷ ps) = p ++ joined ps

-- the sums by key of all the pieces
abbrev pub merged : List (List (ℤ × ℤ)) → List (ℤ × ℤ)
merged [] = []
merged (p ∷ ps) = merge p (merged ps)

-- what a value stands for
abbrev pub meaning : Val → Worth
meaning (v.Int z) = number z
meaning (v.List xs) = items xs.items
meaning (v.Pieces ps) = items (joined (map (λ p. p.items) ps.items))
meaning (v.Arg o) = best o
meaning (v.Pair a b) = line a b
meaning (v.Hist es) = amounts es.items
meaning (v.HistPieces ps) = amounts (merged (map (λ p. p.items) ps.items))
meaning (v.Elem e) = element e

-- the numbers fit 64 bits
abbrev pub Fits : ℤ → Type 0
Fits z = FitsSigned w64 z

abbrev pub FitsPair : ℤ × ℤ → Type 0
FitsPair e = Fits e.0 × Fits e.1

-- a value of each form, with its numbers
abbrev pub IsNumber : Worth → Type 0
IsNumber w = (w ≡ number (the_number w)) × Fits (the_number w)

abbrev pub IsItems : Worth → Type 0
IsItems w = (w ≡ items (the_items w)) × All Fits (the_items w)

abbrev pub IsItemsTo : ℕ → Worth → Type 0
IsItemsTo n w = (w ≡ items (the_items w)) × All Fits (the_items w) × (length (the_items w) ≤ n)

abbrev pub IsBest : Worth → Type 0
IsBest w = (w ≡ best (the_best w)) × IfSome (the_best w) FitsPair

abbrev pub IsLine : Worth → Type 0
IsLine w = (w ≡ line (the_factor w) (the_term w)) × Fits (the_factor w) × Fits (the_term w)

-- each key is above k
abbrev pub AreAbove : ℤ → List (ℤ × ℤ) → Type 0
AreAbove k [] = Unit {0}
AreAbove k (e ∷ es) = (k <ℤ e.0) × AreAbove k es

-- the keys rise
abbrev pub IsRising : List (ℤ × ℤ) → Type 0
IsRising [] = Unit {0}
IsRising (e ∷ es) = AreAbove e.0 es × IsRising es

abbrev pub IsAmounts : Worth → Type 0
IsAmounts w = (w ≡ amounts (the_amounts w)) × IsRising (the_amounts w) × All FitsPair (the_amounts w)

abbrev pub IsElement : ℕ → Worth → Type 0
IsElement n w = (w ≡ element (the_element w)) × (the_element w < n)

-- the values of a kind
abbrev pub IsWorth : Kind → Worth → Type 0
IsWorth k.List w = IsItems w
IsWorth (k.First n) w = IsItemsTo n w
IsWorth (k.Last n) w = IsItemsTo n w
IsWorth k.Argmax w = IsBest w
IsWorth k.Affine w = IsLine w
IsWorth k.Hist w = IsAmounts w
IsWorth (k.Table t) w = IsElement t.size w
IsWorth _ w = IsNumber w

-- how many numbers an update takes
abbrev pub arity : Kind → ℕ
arity k.Argmax = 2
arity k.Affine = 2
arity k.Hist = 2
arity _ = 1

abbrev pub zero_at : List ℤ → ℕ → ℤ
zero_at xs i = slice_index_or xs i (pos 0)

-- whether the numbers of an update name an element
abbrev pub names_element : Kind → List ℤ → Bool
names_element (k.Table t) xs = not (int_lt (zero_at xs 0) (pos 0)) && int_lt (zero_at xs 0) (pos t.size)
names_element _ xs = true

-- why an update by these numbers is refused, if it is
abbrev pub refusal : Kind → List ℤ → InjectError
refusal c xs = cond (names_element c xs) NoMemory BadElement

-- the element that the numbers of an update name
abbrev pub element_of : Kind → List ℤ → Worth
element_of k.List xs = items (take 1 xs)
element_of (k.First n) xs = items (take n (take 1 xs))
element_of (k.Last n) xs = items (last_of n (take 1 xs))
element_of k.Argmax xs = best (Some (zero_at xs 0, zero_at xs 1))
element_of k.Affine xs = line (zero_at xs 0) (zero_at xs 1)
element_of k.Hist xs = amounts ((zero_at xs 0, zero_at xs 1) ∷ [])
element_of (k.Table t) xs = element (unsigned_abs (zero_at xs 0))
element_of _ xs = number (zero_at xs 0)

-- both laws of a table, on its elements
pub record IsMonoidTable (t : Table) : Type 0 where
  pub left_identity : (a : ℕ) → a < t.size → table_at t t.unit a ≡ a
  pub right_identity : (a : ℕ) → a < t.size → table_at t a t.unit ≡ a
  pub associative : (a b c : ℕ) → a < t.size → b < t.size → c < t.size → table_at t (table_at t a b) c ≡ table_at t a (table_at t b c)

abbrev pub IsTableMonoid : Kind → Type 0
IsTableMonoid (k.Table t) = IsMonoidTable t
IsTableMonoid _ = Unit {0}

-- both laws, on the kind's values
pub record IsMonoid (kind : Kind) : Type 0 where
  pub left_identity : (x : Worth) → IsWorth kind x → operate kind (identity_of kind) x ≡ x
  pub right_identity : (x : Worth) → IsWorth kind x → operate kind x (identity_of kind) ≡ x
  pub associative : (x y z : Worth) → IsWorth kind x → IsWorth kind y → IsWorth kind z → operate kind (operate kind x y) z ≡ operate kind x (operate kind y z)

-- the values of each reducer combined, left then right
abbrev pub operate_all : List Kind → List Worth → List Worth → List Worth
operate_all (c ∷ cs) (x ∷ xs) (y ∷ ys) = operate c x y ∷ operate_all cs xs ys
operate_all (c ∷ cs) (x ∷ xs) [] = []
operate_all (c ∷ cs) [] ys = []
operate_all [] xs ys = []

abbrev pub identities : List Kind → List Worth
identities cs = map identity_of cs

-- one value of each kind
abbrev pub AreWorths : List Kind → List Worth → Type 0
AreWorths [] [] = Unit {0}
AreWorths (c ∷ cs) (x ∷ xs) = IsWorth c x × AreWorths cs xs
AreWorths [] (x ∷ xs) = ⊥
AreWorths (c ∷ cs) [] = ⊥

-- the kinds whose values are numbers
abbrev pub IsNumberKind : Kind → Type 0
IsNumberKind k.List = ⊥
IsNumberKind (k.First n) = ⊥
IsNumberKind (k.Last n) = ⊥
IsNumberKind k.Argmax = ⊥
IsNumberKind k.Affine = ⊥
IsNumberKind k.Hist = ⊥
IsNumberKind (k.Table t) = ⊥
IsNumberKind _ = Unit {0}
