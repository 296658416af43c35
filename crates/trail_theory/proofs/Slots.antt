-- Slots beside the serial run's values.
use Rattle.std.proofs.Common.{ℕ, zero, suc, ◌+◌, List, [], ◌∷◌, ◌++◌, Option, Some, None, Ok, Err, ℤ, pos, ◌≡◌, inl, inr, ⊎_elim, refl, sym, ap, ◌∙◌, arith, map, true, false, Bool, cond}
use Rattle.std.specs.Prelude.{slice_get, slice_set, ◌+ℤ◌}
use Rattle.meaning.specs.Tree.{Name, Term, number, name, cell, has as has_row, limit, sum, negate, binary, Deed, bind, enter, read, sync, update, choose, loop, give, Body, end, step, Red}
use Rattle.meaning.specs.declared.tree.Way.TheVariants.{Call, Spawn}
use Rattle.meaning.specs.Tables.{Tables}
use Rattle.meaning.specs.Outcome.{Log, Fault, Place, Site}
use Rattle.meaning.specs.Values.{Env, put, value, values}
use Rattle.meaning.specs.Statements.{put_into, job_of, update_of, bounds, turn_values}
use Rattle.meaning.specs.SmallStep.{Slot, unset, waits, has, seen, slot, Start, set_into}
use Rattle.trail_theory.specs.Order.{In}
use Rattle.trail_theory.specs.Waiting.{IsFree, AreFree, with_name, waiting_deed, waiting_body, IsOrderlyDeed, IsOrderly, AreOrderly}
use Rattle.trail_theory.specs.TaskFits.{value_in, SlotFits, same, late, lost, EnvFits, DoomFits, hit, Higher}
use Rattle.trail_theory.proofs.Places.{IsEarly}
use Rattle.trail_theory.proofs.Places.{no_child_before, in_append, in_left, in_right}

seen_value : (s : Slot) (o : Option ℤ) → value_in s o → seen s ≡ o
seen_value unset o h = sym h
seen_value (waits j) o h = absurd h
seen_value (has v) o h = sym h

slot_free : {B : Log} {n : Place} {W : List ℕ} {x : ℕ} {s : Slot} {o : Option ℤ} → SlotFits B n W x s o → (In x W → ⊥) → seen s ≡ o
slot_free {s = s} {o = o} (same t) f = seen_value s o t
slot_free (late i w) f = absurd (f w)
slot_free (lost k i w) f = absurd (f w)

-- names that don't wait have the serial run's values
pub get_free : (B : Log) (n : Place) (W : List ℕ) (k : ℕ) (env : List Slot) (E : Env) → EnvFits B n W k env E → (x : ℕ) → (In (k + x) W → ⊥) → slice_get (map seen env) x ≡ slice_get E x
get_free B n W k [] [] h x f = refl
get_free B n W k [] (o ∷ E) h x f = absurd h
get_free B n W k (s ∷ env) [] h x f = absurd h
get_free B n W k (s ∷ env) (o ∷ E) h zero f = ap Some (slot_free h.0 (let e : k + 0 ≡ k = omega arith in rw e at f))
get_free B n W k (s ∷ env) (o ∷ E) h (suc x) f = get_free B n W (suc k) env E h.1 x (let e : k + suc x ≡ suc k + x = omega arith in rw e at f)

-- environments that agree on the names that don't wait
pub Agree : List ℕ → Env → Env → Type 0
Agree W a b = (x : ℕ) → (In x W → ⊥) → slice_get a x ≡ slice_get b x

pub agree_of : (B : Log) (n : Place) (W : List ℕ) (env : List Slot) (E : Env) → EnvFits B n W 0 env E → Agree W (map seen env) E
unfolding Agree
agree_of B n W env E h x f = get_free B n W 0 env E h x (let e : 0 + x ≡ x = omega arith in rw e f)

pub value_free : (tables : Tables) (W : List ℕ) (a b : Env) → Agree W a b → (e : Term) → IsFree W e → value tables a e ≡ value tables b e
unfolding Agree
value_free tables W a b h (number k) f = refl
value_free tables W a b h (name x) f = rw (h x f) refl
value_free tables W a b h (cell t e c) f = rw (value_free tables W a b h e f) refl
value_free tables W a b h (has_row t e) f = rw (value_free tables W a b h e f) refl
value_free tables W a b h (limit t) f = refl
value_free tables W a b h (sum t c) f = refl
value_free tables W a b h (negate e) f = rw (value_free tables W a b h e f) refl
value_free tables W a b h (binary op e e') f = rw (value_free tables W a b h e f.0, value_free tables W a b h e' f.1) refl

pub values_free : (tables : Tables) (W : List ℕ) (a b : Env) → Agree W a b → (es : List Term) → AreFree W es → values tables a es ≡ values tables b es
values_free tables W a b h [] f = refl
values_free tables W a b h (e ∷ es) f = rw (value_free tables W a b h e f.0, values_free tables W a b h es f.1) refl

pub update_free : (tables : Tables) (W : List ℕ) (a b : Env) → Agree W a b → (reds : List Red) (r : Name) (es : List Term) → AreFree W es → update_of tables reds a r es ≡ update_of tables reds b r es
update_free tables W a b h reds r es f = rw (values_free tables W a b h es f) refl

pub bounds_free : (tables : Tables) (W : List ℕ) (a b : Env) → Agree W a b → (e e' : Term) → IsFree W e → IsFree W e' → bounds tables a e e' ≡ bounds tables b e e'
bounds_free tables W a b h e e' f f' = rw (value_free tables W a b h e f, value_free tables W a b h e' f') refl

-- binding the same value on both sides
pub set_fits : (B : Log) (n : Place) (W : List ℕ) (v : ℤ) (k : ℕ) (env : List Slot) (E : Env) (x : ℕ) → EnvFits B n W k env E → EnvFits B n W k (slice_set env x (has v)) (slice_set E x (Some v))
set_fits B n W v k [] [] x h = tt
set_fits B n W v k [] (o ∷ E) x h = absurd h
set_fits B n W v k (s ∷ env) [] x h = absurd h
set_fits B n W v k (s ∷ env) (o ∷ E) zero h = (same refl, h.1)
set_fits B n W v k (s ∷ env) (o ∷ E) (suc x) h = (h.0, set_fits B n W v (suc k) env E x h.1)

pub set_into_fits : (B : Log) (n : Place) (W : List ℕ) (v : ℤ) (env : List Slot) (E : Env) (x : Option ℕ) → EnvFits B n W 0 env E → EnvFits B n W 0 (set_into env x (has v)) (put_into x E v)
set_into_fits B n W v env E None h = h
set_into_fits B n W v env E (Some x) h = set_fits B n W v 0 env E x h

seen_set : (env : List Slot) (x : ℕ) (v : ℤ) → map seen (slice_set env x (has v)) ≡ put (map seen env) x v
seen_set [] x v = refl
seen_set (s ∷ env) zero v = refl
seen_set (s ∷ env) (suc x) v = ap (λ l. seen s ∷ l) (seen_set env x v)

-- a loop's iterations have the serial run's arguments
pub turns_free : (tables : Tables) (B : Log) (n : Place) (W : List ℕ) (env : List Slot) (E : Env) → EnvFits B n W 0 env E → (site : Site) (x : ℕ) (g : Name) (es : List Term) (grain : ℕ) (low : ℤ) → AreFree W es
    → (i : ℕ) → turn_values tables (job_of site (map seen env) x g es grain low) i ≡ turn_values tables (job_of site E x g es grain low) i
turns_free tables B n W env E h site x g es grain low f i =
    let v = low +ℤ pos i in
    ap (λ a. values tables a es) (sym (seen_set env x v)) ∙ values_free tables W (map seen (slice_set env x (has v))) (put E x v) (agree_of B n W (slice_set env x (has v)) (put E x v) (set_fits B n W v 0 env E x h)) es f

slot_of : {B : Log} {n : Place} {W : List ℕ} {x : ℕ} (o : Option ℤ) → SlotFits B n W x (slot o) o
slot_of None = same refl
slot_of (Some v) = same refl

-- an instance begins with the serial run's values
pub new_fits : (B : Log) (n : Place) (W : List ℕ) (k : ℕ) (E : Env) → EnvFits B n W k (map slot E) E
new_fits B n W k [] = tt
new_fits B n W k (o ∷ E) = (slot_of o, new_fits B n W (suc k) E)

-- the sync of an instance above the entry: no name waits there
slot_passes : (m : Start) (n : Place) (W : List ℕ) (x : ℕ) (B : Log) → IsEarly m B → Higher m n → {s : Slot} {o : Option ℤ} → SlotFits B n W x s o → SlotFits B n [] x s o
slot_passes m n W x B early above (same t) = same t
slot_passes m n W x B early above (late {j = j} {v = v} i w) = absurd (no_child_before m n B early above j (Ok v) i)
slot_passes m n W x B early above (lost {j = j} k i w) = absurd (no_child_before m n B early above j (Err k) i)

pub env_passes : (m : Start) (n : Place) (W : List ℕ) (B : Log) → IsEarly m B → Higher m n → (k : ℕ) (env : List Slot) (E : Env) → EnvFits B n W k env E → EnvFits B n [] k env E
env_passes m n W B early above k [] [] h = tt
env_passes m n W B early above k [] (o ∷ E) h = h
env_passes m n W B early above k (s ∷ env) [] h = h
env_passes m n W B early above k (s ∷ env) (o ∷ E) h = (slot_passes m n W k B early above h.0, env_passes m n W B early above (suc k) env E h.1)

-- nor has it a fault to answer
pub doom_passes : (m : Start) (n : Place) (B : Log) → IsEarly m B → Higher m n → (o : Option Fault) → DoomFits B n o → o ≡ None
doom_passes m n B early above None h = refl
doom_passes m n B early above (Some q) (hit j k i) = absurd (no_child_before m n B early above j (Err k) i)

-- more names may wait
pub Wider : List ℕ → List ℕ → Type 0
Wider W V = (x : ℕ) → In x W → In x V

slot_wider : {B : Log} {n : Place} {W V : List ℕ} {x : ℕ} {s : Slot} {o : Option ℤ} → (In x W → In x V) → SlotFits B n W x s o → SlotFits B n V x s o
slot_wider h (same t) = same t
slot_wider h (late i w) = late i (h w)
slot_wider h (lost k i w) = lost k i (h w)

pub env_wider : (B : Log) (n : Place) (W V : List ℕ) → Wider W V → (k : ℕ) (env : List Slot) (E : Env) → EnvFits B n W k env E → EnvFits B n V k env E
unfolding Wider
env_wider B n W V w k [] [] h = tt
env_wider B n W V w k [] (o ∷ E) h = h
env_wider B n W V w k (s ∷ env) [] h = h
env_wider B n W V w k (s ∷ env) (o ∷ E) h = (slot_wider (w k) h.0, env_wider B n W V w (suc k) env E h.1)

pub wider_name : (o : Option ℕ) (W : List ℕ) → Wider W (with_name o W)
unfolding Wider
wider_name None W x i = i
wider_name (Some y) W x i = inr i

-- what is orderly where more names wait is orderly where fewer do
free_narrower : (W V : List ℕ) → Wider W V → (e : Term) → IsFree V e → IsFree W e
unfolding Wider
free_narrower W V w (number k) f = tt
free_narrower W V w (name x) f = λ i. f (w x i)
free_narrower W V w (cell t e c) f = free_narrower W V w e f
free_narrower W V w (has_row t e) f = free_narrower W V w e f
free_narrower W V w (limit t) f = tt
free_narrower W V w (sum t c) f = tt
free_narrower W V w (negate e) f = free_narrower W V w e f
free_narrower W V w (binary op e e') f = (free_narrower W V w e f.0, free_narrower W V w e' f.1)

frees_narrower : (W V : List ℕ) → Wider W V → (es : List Term) → AreFree V es → AreFree W es
frees_narrower W V w [] f = tt
frees_narrower W V w (e ∷ es) f = (free_narrower W V w e f.0, frees_narrower W V w es f.1)

wider_with : (o : Option ℕ) (W V : List ℕ) → Wider W V → Wider (with_name o W) (with_name o V)
unfolding Wider
wider_with None W V w x i = w x i
wider_with (Some y) W V w x (inl e) = inl e
wider_with (Some y) W V w x (inr i) = inr (w x i)

wider_both : (W V W' V' : List ℕ) → Wider W V → Wider W' V' → Wider (W ++ W') (V ++ V')
unfolding Wider
wider_both W V W' V' w w' x i = ⊎_elim (λ j. in_left x V V' (w x j)) (λ j. in_right x V V' (w' x j)) (in_append x W W' i)

wider_same : (W : List ℕ) → Wider W W
unfolding Wider
wider_same W x i = i

mutual
  wider_deed : (W V : List ℕ) → Wider W V → (d : Deed) → Wider (waiting_deed W d) (waiting_deed V d)
  wider_deed W V w (bind x e) = w
  wider_deed W V w (enter x Call f es) = w
  wider_deed W V w (enter x Spawn f es) = wider_with x W V w
  wider_deed W V w (read x r) = w
  wider_deed W V w sync = wider_same []
  wider_deed W V w (update r es) = w
  wider_deed W V w (choose e a b) = wider_both (waiting_body W a) (waiting_body V a) (waiting_body W b) (waiting_body V b) (wider_body W V w a) (wider_body W V w b)
  wider_deed W V w (loop x e f grain g es) = w
  wider_deed W V w (give e) = w

  wider_body : (W V : List ℕ) → Wider W V → (b : Body) → Wider (waiting_body W b) (waiting_body V b)
  wider_body W V w end = w
  wider_body W V w (step s d b) = wider_body (waiting_deed W d) (waiting_deed V d) (wider_deed W V w d) b

mutual
  deed_narrower : (W V : List ℕ) → Wider W V → (d : Deed) → IsOrderlyDeed V d → IsOrderlyDeed W d
  deed_narrower W V w (bind x e) h = free_narrower W V w e h
  deed_narrower W V w (enter x Call f es) h = frees_narrower W V w es h
  deed_narrower W V w (enter x Spawn f es) h = frees_narrower W V w es h
  deed_narrower W V w (read x r) h = tt
  deed_narrower W V w sync h = tt
  deed_narrower W V w (update r es) h = frees_narrower W V w es h
  deed_narrower W V w (choose e a b) h = (free_narrower W V w e h.0, (body_narrower W V w a h.1.0, body_narrower W V w b h.1.1))
  deed_narrower W V w (loop x e f grain g es) h = (free_narrower W V w e h.0, (free_narrower W V w f h.1.0, frees_narrower W V w es h.1.1))
  deed_narrower W V w (give e) h = free_narrower W V w e h

  body_narrower : (W V : List ℕ) → Wider W V → (b : Body) → IsOrderly V b → IsOrderly W b
  body_narrower W V w end h = tt
  body_narrower W V w (step s d b) h = (deed_narrower W V w d h.0, body_narrower (waiting_deed W d) (waiting_deed V d) (wider_deed W V w d) b h.1)

pub blocks_narrower : (W V : List ℕ) → Wider W V → (bs : List Body) → AreOrderly V bs → AreOrderly W bs
blocks_narrower W V w [] h = tt
blocks_narrower W V w (b ∷ bs) h = (body_narrower W V w b h.0, blocks_narrower (waiting_body W b) (waiting_body V b) (wider_body W V w b) bs h.1)

-- into a branch
pub branch_orderly : (W : List ℕ) (t : Bool) (a b : Body) (bs : List Body) → IsOrderly W a → IsOrderly W b → AreOrderly (waiting_body W a ++ waiting_body W b) bs → AreOrderly W (cond t b a ∷ bs)
unfolding Wider
branch_orderly W true a b bs h k r = (k, blocks_narrower (waiting_body W b) (waiting_body W a ++ waiting_body W b) (λ x i. in_right x (waiting_body W a) (waiting_body W b) i) bs r)
branch_orderly W false a b bs h k r = (h, blocks_narrower (waiting_body W a) (waiting_body W a ++ waiting_body W b) (λ x i. in_left x (waiting_body W a) (waiting_body W b) i) bs r)
