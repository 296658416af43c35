-- One more update, and what the reducers are worth after it.
use Rattle.std.proofs.Common.{◌≡◌, ℕ, zero, suc, ◌+◌, ◌-◌, ◌<◌, ◌≤◌, length, get_or, List, [], ◌∷◌, ◌++◌, ℤ, Bool, true, false, cond, Option, Some, None, Result, Ok, Err, refl, ap, sym, ◌∙◌, subst, map, arith, append_assoc}
use Rattle.std.specs.Prelude.{slice_get, slice_set, option_map}
use Rattle.std.proofs.Common.{rules}
use Rattle.std.proofs.lemmas.List.{length-map}
use Rattle.std.specs.Prelude.{All}
use Rattle.std.proofs.lemmas.List.Elements.{All-head, All-tail}
use Rattle.std.specs.Str.{bytes_eq}
use Rattle.std.specs.Result.{OnOk}
use Rattle.std.proofs.lemmas.Option.{slice_get-map, slice_get_read}
use Rattle.monoid_laws.specs.declared.Val.{Val}
use Rattle.monoid_laws.specs.declared.Kind.{Kind}
use Rattle.monoid_laws.specs.Worth.{Worth}
use Rattle.monoid_laws.specs.Kinds.{meaning, operate, operate_all, element_of, names_element, IsWorth, AreWorths}
use Rattle.meaning.specs.Tree.{Name, Red, Tree}
use Rattle.meaning.specs.Outcome.{Log, after, updated, combined}
use Rattle.meaning.specs.Statements.{numbered, reducers, identities, beginning, initial_values, naming, updating}
use Rattle.std.specs.Global.{Vec}
use Rattle.meaning.specs.Records.{Kept, Key, with_kinds}
use Rattle.serial_oracle.specs.declared.journal.Journal.{Journal}
use Rattle.serial_oracle.specs.declared.scope.Scope.{Scope}
use Rattle.serial_oracle.specs.Keeping.{tree_in, records_in, key_plain}
use Rattle.serial_oracle.specs.Pieces.{by_record}
use Rattle.serial_oracle.specs.declared.journal.Change.{Change}
use Rattle.serial_oracle.specs.declared.journal.Change.TheVariants as c
use Rattle.serial_oracle.specs.Worths.{kinds, noticed, change_log, reused_log, noted, noted_in, combined_from, AreFit, summary, worths, outcome_of, updated_by}
use Rattle.monoid_laws.specs.Kinds as laws
use Rattle.monoid_laws.proofs.Rows.{AreWorths-identities}
use Rattle.meaning.specs.declared.FaultKind.{FaultKind}
use Rattle.meaning.specs.Tree.{Term}
use Rattle.meaning.specs.Tables.{Tables}
use Rattle.meaning.specs.Values.{Env, values}
use Rattle.meaning.specs.Outcome.{Out, onward}
use Rattle.meaning.specs.Statements.{update_of}
use Rattle.serial_oracle.specs.declared.stops.Trouble.{Trouble}
use Rattle.serial_oracle.specs.declared.stops.Trouble.TheVariants as trouble
use Rattle.serial_oracle.specs.Results.{Summary, Notes, EvaluatesAll}
use Rattle.serial_oracle.proofs.Forgetting.{after-append, still, values_quiet}

abbrev pair_in : ℕ × Kind → Option (ℕ × Kind) → ℕ × Kind
pair_in d None = d
pair_in d (Some p) = p

abbrev pub place_and_kind : ℕ × Red → ℕ × Kind
place_and_kind p = (p.0, p.1.kind)

numbered_here : (k : ℕ) (x : Red) (xs : List Red) (name : Name) (n : ℕ) (kind : Kind) (b : Bool)
    → (option_map place_and_kind (numbered (k + 1) xs name) ≡ Some (n, kind) → (k + 1 ≤ n) × (slice_get (map (λ r. r.kind) xs) (n - (k + 1)) ≡ Some kind))
    → option_map place_and_kind (cond b (Some (k, x)) (numbered (k + 1) xs name)) ≡ Some (n, kind)
    → (k ≤ n) × (slice_get (x.kind ∷ map (λ r. r.kind) xs) (n - k) ≡ Some kind)
numbered_here k x xs name n kind true ih h =
    let e : k ≡ n = ap (λ o. (pair_in (k, x.kind) o).0) h in
    let f : x.kind ≡ kind = ap (λ o. (pair_in (k, x.kind) o).1) h in
    let z : n - k ≡ 0 = omega (arith, e) in
    (omega (arith, e), rw z (ap (λ c. Some c) f))
numbered_here k x xs name n kind false ih h =
    let p = ih h in
    let lt : k + 1 ≤ n = p.0 in
    let z : n - k ≡ suc (n - (k + 1)) = omega (arith, lt) in
    (omega (arith, lt), rw z p.1)

pub numbered_at : (k : ℕ) (reds : List Red) (name : Name) (n : ℕ) (kind : Kind)
    → option_map place_and_kind (numbered k reds name) ≡ Some (n, kind)
    → (k ≤ n) × (slice_get (map (λ r. r.kind) reds) (n - k) ≡ Some kind)
numbered_at k [] name n kind h = absurd cc
numbered_at k (x ∷ xs) name n kind h = numbered_here k x xs name n kind (bytes_eq x.called name) (numbered_at (k + 1) xs name n kind) h

pub kind_at : (program : Tree) (name : Name) (n : ℕ) (kind : Kind)
    → option_map place_and_kind (numbered 0 (reducers program) name) ≡ Some (n, kind)
    → slice_get (kinds program) n ≡ Some kind
kind_at program name n kind h =
    let p = numbered_at 0 (reducers program) name n kind h in
    let e : n - 0 ≡ n = omega arith in
    subst (λ m. slice_get (kinds program) m ≡ Some kind) e p.1

pub noted-append : (program : Tree) (records : List Kept) (us : List Change) (u : Change) → noted program records (us ++ (u ∷ [])) ≡ noted program records us ++ (change_log program records u ++ [])
noted-append program records [] u = refl
noted-append program records (v ∷ us) u = ap (λ l. change_log program records v ++ l) (noted-append program records us u) ∙ sym (append_assoc (change_log program records v) (noted program records us) (change_log program records u ++ []))

worths_change : (program : Tree) (records : List Kept) (us : List Change) (u : Change) → worths program records (us ++ (u ∷ [])) ≡ after (change_log program records u ++ []) (worths program records us)
unfolding worths
worths_change program records us u =
    ap (λ l. after l (identities program)) (noted-append program records us u)
    ∙ after-append (noted program records us) (change_log program records u ++ []) (identities program)

pub worths_push : (program : Tree) (records : List Kept) (us : List Change) (n : ℕ) (numbers : Vec ℤ) (kind : Kind) → slice_get (kinds program) n ≡ Some kind
    → worths program records (us ++ (c.Update n numbers ∷ [])) ≡ after (noticed (Some kind) n numbers.items ++ []) (worths program records us)
worths_push program records us n numbers kind h =
    worths_change program records us (c.Update n numbers) ∙ ap (λ o. after (noticed o n numbers.items ++ []) (worths program records us)) h

-- the contribution of a record
pub worths_reuse : (program : Tree) (records : List Kept) (us : List Change) (place : ℕ) (k : Kept) → slice_get records place ≡ Some k
    → worths program records (us ++ (c.Reused place ∷ [])) ≡ combined (worths program records us) (with_kinds (reducers program) k.contribution)
worths_reuse program records us place k h =
    worths_change program records us (c.Reused place) ∙ ap (λ o. after (reused_log (reducers program) o ++ []) (worths program records us)) h

named_outcome : (n : ℕ) (kind : Kind) (vs : List ℤ) (b : Bool) (acc : List Worth) → b ≡ true → outcome_of (naming n kind vs b) acc ≡ (Ok tt, after ((naming n kind vs b).log ++ []) acc)
named_outcome n kind vs true acc h = refl
named_outcome n kind vs false acc h = absurd cc

-- the update of a reducer, from what its name stands for
by_kind : (o : Option (ℕ × Red)) (n : ℕ) (kind : Kind) (vs : List ℤ) → option_map place_and_kind o ≡ Some (n, kind) → updating o vs ≡ naming n kind vs (names_element kind vs)
by_kind None n kind vs h = absurd cc
by_kind (Some p) n kind vs h =
    let e : p.0 ≡ n = ap (λ o. (pair_in (p.0, p.1.kind) o).0) h in
    let f : p.1.kind ≡ kind = ap (λ o. (pair_in (p.0, p.1.kind) o).1) h in
    ap (λ m. naming m p.1.kind vs (names_element p.1.kind vs)) e ∙ ap (λ c. naming n c vs (names_element c vs)) f

pub note_good : (program : Tree) (records : List Kept) (name : Name) (us : List Change) (n : ℕ) (numbers : Vec ℤ) (kind : Kind)
    → option_map place_and_kind (numbered 0 (reducers program) name) ≡ Some (n, kind) → names_element kind numbers.items ≡ true
    → updated_by program name numbers.items (worths program records us) ≡ (Ok tt, worths program records (us ++ (c.Update n numbers ∷ [])))
note_good program records name us n numbers kind h b =
    ap (λ o. outcome_of o (worths program records us)) (by_kind (numbered 0 (reducers program) name) n kind numbers.items h)
    ∙ named_outcome n kind numbers.items (names_element kind numbers.items) (worths program records us) b
    ∙ ap (λ w. (Ok tt, w)) (sym (worths_push program records us n numbers kind (kind_at program name n kind h)))

-- ---- one update of values

pub worths_set : (ks : List Kind) (ws : List Worth) (n : ℕ) (kind : Kind) (w : Worth) → AreWorths ks ws → slice_get ks n ≡ Some kind → IsWorth kind w → AreWorths ks (slice_set ws n w)
worths_set [] [] n kind w a h i = a
worths_set [] (u ∷ ws) n kind w a h i = absurd a
worths_set (k ∷ ks) [] n kind w a h i = absurd a
worths_set (k ∷ ks) (u ∷ ws) zero kind w a h i = let e : k ≡ kind = cc in (subst (λ c. IsWorth c w) (sym e) i, a.1)
worths_set (k ∷ ks) (u ∷ ws) (suc n) kind w a h i = (a.0, worths_set ks ws n kind w a.1 h i)

pub worths_at : (ks : List Kind) (ws : List Worth) (n : ℕ) (kind : Kind) (w : Worth) → AreWorths ks ws → slice_get ks n ≡ Some kind → slice_get ws n ≡ Some w → IsWorth kind w
worths_at [] ws n kind w a h g = absurd cc
worths_at (k ∷ ks) [] n kind w a h g = absurd a
worths_at (k ∷ ks) (u ∷ ws) zero kind w a h g = let e : k ≡ kind = cc in let f : u ≡ w = cc in subst (λ c. IsWorth c w) e (subst (λ v. IsWorth k v) f a.0)
worths_at (k ∷ ks) (u ∷ ws) (suc n) kind w a h g = worths_at ks ws n kind w a.1 h g

named_after : (n : ℕ) (kind : Kind) (vs : List ℤ) (b : Bool) (ws : List Worth) → b ≡ true → after (naming n kind vs b).log ws ≡ updated ws n kind (element_of kind vs) (slice_get ws n)
named_after n kind vs true ws h = refl
named_after n kind vs false ws h = absurd cc

pub after_good : (n : ℕ) (kind : Kind) (vs : List ℤ) (ws : List Worth) (w : Worth) → names_element kind vs ≡ true → slice_get ws n ≡ Some w
    → after (noticed (Some kind) n vs) ws ≡ slice_set ws n (operate kind w (element_of kind vs))
after_good n kind vs ws w h g = named_after n kind vs (names_element kind vs) ws h ∙ ap (updated ws n kind (element_of kind vs)) g

-- ---- all updates

identities_same : (reds : List Red) → laws.identities (map (λ r. r.kind) reds) ≡ map (λ r. laws.identity_of r.kind) reds
identities_same [] = refl
identities_same (r ∷ reds) = ap (λ ws. laws.identity_of r.kind ∷ ws) (identities_same reds)

worths_is : (program : Tree) (records : List Kept) (us : List Change) → worths program records us ≡ after (noted program records us) (identities program)
unfolding worths
worths_is program records us = refl

pub worths_initial : (scope : Scope) (us : List Change) → noted_in scope us ≡ beginning (tree_in scope) → worths (tree_in scope) (records_in scope) us ≡ initial_values (tree_in scope)
worths_initial scope us h = worths_is (tree_in scope) (records_in scope) us ∙ ap (λ l. after l (identities (tree_in scope))) h

pub worths_begin : (program : Tree) (records : List Kept) (us : List Change) (ws : List Worth) → ws ≡ laws.identities (kinds program)
    → (worths program records us ≡ after (noted program records us) ws) × AreWorths (kinds program) ws
worths_begin program records us ws h =
    (worths_is program records us ∙ ap (after (noted program records us)) (sym (identities_same (reducers program)) ∙ sym h), subst (AreWorths (kinds program)) (sym h) (AreWorths-identities (kinds program)))

-- ---- an update that is evaluated first

abbrev Still : Log → Type 0
Still log = (acc : List Worth) → after log acc ≡ acc

first_ends : (log : Log) (r : Result (List ℤ) FaultKind) (f : List ℤ → Out FaultKind (Unit {0})) (kind : FaultKind) (acc : List Worth) → Still log → r ≡ Err kind → outcome_of (onward log r f) acc ≡ (Err kind, acc)
first_ends log (Ok a) f kind acc q h = absurd cc
first_ends log (Err e) f kind acc q h = let d : e ≡ kind = cc in ap (λ w. (Err e, w)) (q acc) ∙ ap (λ k. (Err k, acc)) d

first_goes : (log : Log) (r : Result (List ℤ) FaultKind) (f : List ℤ → Out FaultKind (Unit {0})) (vs : List ℤ) (acc : List Worth) → Still log → r ≡ Ok vs → outcome_of (onward log r f) acc ≡ outcome_of (f vs) acc
first_goes log (Ok a) f vs acc q h =
    let d : a ≡ vs = cc in
    ap (λ w. ((f a).answer, w)) (after-append log (f a).log acc ∙ ap (after (f a).log) (q acc)) ∙ ap (λ v. outcome_of (f v) acc) d
first_goes log (Err e) f vs acc q h = absurd cc

module _ (program : Tree) (tables : Tables) (env : Env) (name : Name) (es : List Term) where
  pub update_ends : (tr : Trouble) (acc : List Worth) → EvaluatesAll (Err tr) (values tables env es).answer → Notes (Err tr) acc (outcome_of (update_of tables (reducers program) env name es) acc)
  update_ends (trouble.Fault kind) acc h = first_ends (values tables env es).log (values tables env es).answer (λ vs. updating (numbered 0 (reducers program) name) vs) kind acc (still program (values tables env es).log (values_quiet program tables env es)) h
  update_ends trouble.NoMemory acc h = tt

  pub update_noted : (vs : List ℤ) (acc : List Worth) → (values tables env es).answer ≡ Ok vs → outcome_of (update_of tables (reducers program) env name es) acc ≡ updated_by program name vs acc
  update_noted vs acc h = first_goes (values tables env es).log (values tables env es).answer (λ ws. updating (numbered 0 (reducers program) name) ws) vs acc (still program (values tables env es).log (values_quiet program tables env es)) h

-- ---- one value set

pub map-slice_set : {A B : Type 0} (f : A → B) (xs : List A) (n : ℕ) (x : A) → map f (slice_set xs n x) ≡ slice_set (map f xs) n (f x)
map-slice_set f [] n x = refl
map-slice_set f (y ∷ xs) zero x = refl
map-slice_set f (y ∷ xs) (suc n) x = ap (λ l. f y ∷ l) (map-slice_set f xs n x)

pub at_map : {A B : Type 0} (f : A → B) (xs : List A) (n : ℕ) (x : A) → n < length xs → x ≡ get_or xs n x → slice_get (map f xs) n ≡ Some (f x)
at_map f xs n x lt e = slice_get-map f xs n ∙ ap (option_map f) (slice_get_read xs (length xs) n x refl lt e)

pub on_ok : {T E : Type 0} (r : Result T E) (P Q : Type 0) → (P → Q) → OnOk r P → OnOk r Q
on_ok (Ok t) P Q f p = f p
on_ok (Err e) P Q f p = p

-- one of the values after an update
pub added_after : (vals : List Val) (n : ℕ) (kind : Kind) (vs : List ℤ) (old new : Val) → n < length vals → old ≡ get_or vals n old → names_element kind vs ≡ true
    → meaning new ≡ operate kind (meaning old) (element_of kind vs) → map meaning (slice_set vals n new) ≡ after (noticed (Some kind) n vs) (map meaning vals)
added_after vals n kind vs old new lt e h m =
    map-slice_set meaning vals n new ∙ ap (slice_set (map meaning vals) n) m ∙ sym (after_good n kind vs (map meaning vals) (meaning old) h (at_map meaning vals n old lt e))

pub added_kept : (ks : List Kind) (vals : List Val) (n : ℕ) (kind : Kind) (new : Val) → AreWorths ks (map meaning vals) → slice_get ks n ≡ Some kind → IsWorth kind (meaning new) → AreWorths ks (map meaning (slice_set vals n new))
added_kept ks vals n kind new a h i = subst (AreWorths ks) (sym (map-slice_set meaning vals n new)) (worths_set ks (map meaning vals) n kind (meaning new) a h i)

-- ---- the contribution of a record

-- the i-th value with another on its right
pub combined_at : (i : ℕ) (ks : List Kind) (xs ys : List Worth) (k : Kind) (x y : Worth) → slice_get ks i ≡ Some k → slice_get xs i ≡ Some x → slice_get ys i ≡ Some y
    → combined_from (suc i) ks (slice_set xs i (operate k x y)) ys ≡ combined_from i ks xs ys
combined_at i [] xs ys k x y a b d = absurd cc
combined_at i (l ∷ ks) [] ys k x y a b d = absurd cc
combined_at i (l ∷ ks) (u ∷ xs) [] k x y a b d = absurd cc
combined_at zero (l ∷ ks) (u ∷ xs) (v ∷ ys) k x y a b d =
    let e : l ≡ k = cc in let f : u ≡ x = cc in let g : v ≡ y = cc in
    let h : operate k x y ≡ operate l u v = cc in
    ap (λ w. w ∷ operate_all ks xs ys) h
combined_at (suc i) (l ∷ ks) (u ∷ xs) (v ∷ ys) k x y a b d = ap (λ ws. u ∷ ws) (combined_at i ks xs ys k x y a b d)

-- past the last one, there is nothing left to do
pub combined_end : (ks : List Kind) (xs ys : List Worth) → AreWorths ks xs → AreWorths ks ys → combined_from (length ks) ks xs ys ≡ xs
combined_end [] [] [] a b = refl
combined_end [] [] (y ∷ ys) a b = absurd b
combined_end [] (x ∷ xs) ys a b = absurd a
combined_end (k ∷ ks) [] ys a b = absurd a
combined_end (k ∷ ks) (x ∷ xs) [] a b = absurd b
combined_end (k ∷ ks) (x ∷ xs) (y ∷ ys) a b = ap (λ ws. x ∷ ws) (combined_end ks xs ys a.1 b.1)

-- all values combined, as the reducers of a program
combined_all : (reds : List Red) (xs ys : List Worth) → AreWorths (map (λ r. r.kind) reds) xs → AreWorths (map (λ r. r.kind) reds) ys
    → operate_all (map (λ r. r.kind) reds) xs ys ≡ combined xs (with_kinds reds ys)
combined_all [] [] [] a b = refl
combined_all [] [] (y ∷ ys) a b = absurd b
combined_all [] (x ∷ xs) ys a b = absurd a
combined_all (r ∷ reds) [] ys a b = absurd a
combined_all (r ∷ reds) (x ∷ xs) [] a b = absurd b
combined_all (r ∷ reds) (x ∷ xs) (y ∷ ys) a b = ap (λ ws. operate r.kind x y ∷ ws) (combined_all reds xs ys a.1 b.1)

pub record_after : (program : Tree) (records : List Kept) (place : ℕ) (k : Kept) (ks : List Kind) (xs new : List Worth) → slice_get records place ≡ Some k → ks ≡ kinds program
    → AreWorths ks xs → AreWorths ks k.contribution → new ≡ operate_all ks xs k.contribution → new ≡ after (reused_log (reducers program) (slice_get records place)) xs
record_after program records place k ks xs new h e a b n =
    n ∙ ap (λ l. operate_all l xs k.contribution) e
    ∙ combined_all (reducers program) xs k.contribution (subst (λ l. AreWorths l xs) e a) (subst (λ l. AreWorths l k.contribution) e b)
    ∙ sym (ap (λ o. after (reused_log (reducers program) o) xs) h)

fit_at : (ks : List Kind) (records : List Kept) (place : ℕ) (k : Kept) → All (λ r. AreWorths ks r.contribution) records → slice_get records place ≡ Some k → AreWorths ks k.contribution
fit_at ks [] place k a h = absurd cc
fit_at ks (r ∷ records) zero k a h = let e : r ≡ k = cc in subst (λ q. AreWorths ks q.contribution) e (All-head (λ r. AreWorths ks r.contribution) r records a)
fit_at ks (r ∷ records) (suc place) k a h = fit_at ks records place k (All-tail (λ r. AreWorths ks r.contribution) r records a) h

pub fits_at : (program : Tree) (records : List Kept) (place : ℕ) (k : Kept) → AreFit program records → slice_get records place ≡ Some k → AreWorths (kinds program) k.contribution
unfolding AreFit
fits_at program records place k a h = fit_at (kinds program) records place k a h

pub none_fit : (program : Tree) → AreFit program []
unfolding AreFit
none_fit program = search rules

same_length : (ks : List Kind) (xs : List Worth) → AreWorths ks xs → length xs ≡ length ks
same_length [] [] a = refl
same_length [] (x ∷ xs) a = absurd a
same_length (k ∷ ks) [] a = absurd a
same_length (k ∷ ks) (x ∷ xs) a = ap suc (same_length ks xs a.1)

pub within : (ks : List Kind) (vals : List Val) (i : ℕ) → AreWorths ks (map meaning vals) → i < length ks → i < length vals
within ks vals i a lt =
    let e : length (map meaning vals) ≡ length vals = length-map vals meaning in
    let f : length (map meaning vals) ≡ length ks = same_length ks (map meaning vals) a in
    omega (arith, e, f, lt)

pub value_at : (ks : List Kind) (vals : List Val) (i : ℕ) (k : Kind) (x : Val) → AreWorths ks (map meaning vals) → i < length ks → k ≡ get_or ks i k → x ≡ get_or vals i x → IsWorth k (meaning x)
value_at ks vals i k x a lt e f =
    worths_at ks (map meaning vals) i k (meaning x) a (slice_get_read ks (length ks) i k refl lt e) (at_map meaning vals i x (within ks vals i a lt) f)

-- one value with another on its right, in a list of values
pub combined_in : (ks : List Kind) (vals rights : List Val) (i : ℕ) (k : Kind) (old new right : Val) → AreWorths ks (map meaning vals) → AreWorths ks (map meaning rights) → i < length ks
    → k ≡ get_or ks i k → old ≡ get_or vals i old → right ≡ get_or rights i right → meaning new ≡ operate k (meaning old) (meaning right)
    → combined_from (suc i) ks (map meaning (slice_set vals i new)) (map meaning rights) ≡ combined_from i ks (map meaning vals) (map meaning rights)
combined_in ks vals rights i k old new right a b lt e f g m =
    ap (λ ws. combined_from (suc i) ks ws (map meaning rights)) (map-slice_set meaning vals i new ∙ ap (slice_set (map meaning vals) i) m)
    ∙ combined_at i ks (map meaning vals) (map meaning rights) k (meaning old) (meaning right) (slice_get_read ks (length ks) i k refl lt e)
    (at_map meaning vals i old (within ks vals i a lt) f) (at_map meaning rights i right (within ks rights i b lt) g)

pub kept_in : (ks : List Kind) (vals : List Val) (i : ℕ) (k : Kind) (new : Val) → AreWorths ks (map meaning vals) → i < length ks → k ≡ get_or ks i k → IsWorth k (meaning new) → AreWorths ks (map meaning (slice_set vals i new))
kept_in ks vals i k new a lt e h = added_kept ks vals i k new a (slice_get_read ks (length ks) i k refl lt e) h

-- ---- a record that answers

abbrev summary_of : List Worth → List Key → List Key → Summary
summary_of ws executed reused = record { worths = ws; executed = executed; reused = reused }

pub record_answers : (scope : Scope) (old new : Journal) (place : ℕ) (k : Kept) (key : Key) → slice_get (records_in scope) place ≡ Some k
    → new.changes.items ≡ old.changes.items ++ (c.Reused place ∷ []) → map key_plain new.reused.items ≡ map key_plain old.reused.items ++ (key ∷ []) → new.executed ≡ old.executed
    → by_record (tree_in scope) k key (summary scope old) ≡ (Ok k.value, summary scope new)
record_answers scope old new place k key h ch re ex =
    let w : combined (worths (tree_in scope) (records_in scope) old.changes.items) (with_kinds (reducers (tree_in scope)) k.contribution) ≡ worths (tree_in scope) (records_in scope) new.changes.items =
    sym (worths_reuse (tree_in scope) (records_in scope) old.changes.items place k h) ∙ ap (worths (tree_in scope) (records_in scope)) (sym ch) in
    ap (λ a. (Ok k.value, summary_of a (map key_plain old.executed.items) (map key_plain old.reused.items ++ (key ∷ [])))) w
    ∙ ap (λ e. (Ok k.value, summary_of (worths (tree_in scope) (records_in scope) new.changes.items) (map key_plain e.items) (map key_plain old.reused.items ++ (key ∷ [])))) (sym ex)
    ∙ ap (λ r. (Ok k.value, summary_of (worths (tree_in scope) (records_in scope) new.changes.items) (map key_plain new.executed.items) r)) (sym re)

pub summary_begin : (scope : Scope) (j : Journal) → noted_in scope j.changes.items ≡ beginning (tree_in scope) → j.executed.items ≡ [] → j.reused.items ≡ []
    → summary scope j ≡ record { worths = initial_values (tree_in scope); executed = []; reused = [] }
summary_begin scope j ch ex re =
    ap (λ a. summary_of a (map key_plain j.executed.items) (map key_plain j.reused.items)) (worths_initial scope j.changes.items ch)
    ∙ ap (λ e. summary_of (initial_values (tree_in scope)) (map key_plain e) (map key_plain j.reused.items)) ex
    ∙ ap (λ r. summary_of (initial_values (tree_in scope)) [] (map key_plain r)) re

pub fit_all : (program : Tree) (ks : List Kind) (records : List Kept) → ks ≡ kinds program → All (λ k. AreWorths ks k.contribution) records → AreFit program records
unfolding AreFit
fit_all program ks records h a = subst (λ l. All (λ k. AreWorths l k.contribution) records) h a
