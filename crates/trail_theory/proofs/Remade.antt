-- Records after a finished run: what is found there, and that what was made is new and fits wherever the instance ended.
use Rattle.std.proofs.Common.{ℕ, suc, ◌+◌, ◌-◌, ◌<◌, ◌≤◌, List, [], ◌∷◌, Option, Some, None, Ok, inl, inr, ℤ, ◌≡◌, refl, sym, ap, ap₂, ◌∙◌, subst, arith, map, true, false, Bool, cond}
use Rattle.std.specs.Prelude.{◌&&◌, ◌↔◌}
use Rattle.std.specs.Str.{bytes_eq}
use Rattle.std.specs.List.{Contains}
use Rattle.std.specs.Cmp.{signed_Decides}
use Rattle.std.proofs.lemmas.Slice.Eq.{bytes_eq-Decides}
use Rattle.meaning.specs.Tree.{Name, Tree}
use Rattle.meaning.specs.Every.{every}
use Rattle.meaning.specs.Tables.{Tables}
use Rattle.meaning.specs.Outcome.{Fault, Out, after}
use Rattle.meaning.specs.Statements.{identities, procedure_of}
use Rattle.meaning.specs.Elision.{elide, reads, entered, deepest, start, depth_limit}
use Rattle.meaning.specs.Records.{Revised, Kept, Key, agrees, is_current, same_args, record_of}
use Rattle.meaning.specs.Commits.{value_of, made_of, same_key, replaced, committed}
use Rattle.meaning.specs.Trail.{sight_of}
use Rattle.meaning.specs.SmallStep.{Lookup}
use Rattle.trail_theory.specs.Order.{In, Every}
use Rattle.trail_theory.specs.ReadsAtEnd.{ReadsAtMainsEnd}
use Rattle.trail_theory.specs.Right.{IsRecorded}
use Rattle.trail_theory.specs.MadeRecords.{SaysOf}
use Rattle.trail_theory.specs.OpenLayers.{HasNumber, IsNumbered, IsNewRecord}
use Rattle.trail_theory.proofs.MadeRecords.{first_deep, made_is_sound}
use Rattle.trail_theory.proofs.KeptRecords.{both_left, both_right, args_same}
use Rattle.trail_theory.proofs.Records.{recorded_other}
use Rattle.trail_theory.proofs.HoldNow.{now_elide}
use Rattle.trail_theory.proofs.MainElides.{both_true}
use Rattle.trail_theory.proofs.ClosedLayers.{recorded_there, reads_hold, entered_known, with_number, names_of, every_numbered, number_below}
use Rattle.trail_theory.proofs.Depths.{other_depth}

-- ---- records by their names and arguments

abbrev pub has_key : Kept → Name → List ℤ → Bool
has_key k f vs = bytes_eq k.of f && same_args k.args vs

args_refl : (xs : List ℤ) → same_args xs xs ≡ true
args_refl [] = refl
args_refl (x ∷ xs) = both_true _ _ ((signed_Decides x x).1 refl) (args_refl xs)

pub has_own : (k : Kept) → has_key k k.of k.args ≡ true
has_own k = both_true _ _ ((bytes_eq-Decides k.of k.of).1 refl) (args_refl k.args)

pub key_name : (k : Kept) (f : Name) (vs : List ℤ) → has_key k f vs ≡ true → k.of ≡ f
key_name k f vs e = (bytes_eq-Decides k.of f).0 (both_left (bytes_eq k.of f) (same_args k.args vs) e)

pub key_args : (k : Kept) (f : Name) (vs : List ℤ) → has_key k f vs ≡ true → k.args ≡ vs
key_args k f vs e = args_same k.args vs (both_right (bytes_eq k.of f) (same_args k.args vs) e)

pub key_of : (a b c d : _) → a ≡ c → b ≡ d → (k : Kept) → has_key k a b ≡ has_key k c d
key_of a b c d e h k = ap₂ (λ f vs. has_key k f vs) e h

-- two records of one name and arguments have the same key
one_key : (j k : Kept) (f : Name) (vs : List ℤ) → has_key j f vs ≡ true → has_key k f vs ≡ true → same_key j k ≡ true
one_key j k f vs a b = key_of k.of k.args f vs (key_name k f vs b) (key_args k f vs b) j ∙ a

skipped : (a b : Bool) (x y : Kept) (z : Option Kept) → b ≡ a → cond a (Some x) z ≡ cond a (Some x) (cond b (Some y) z)
skipped true b x y z e = refl
skipped false true x y z e = absurd cc
skipped false false x y z e = refl

swapped : (a b : Bool) (x y : Kept) (z : Option Kept) → (a ≡ true → b ≡ true → ⊥) → cond b (Some y) (cond a (Some x) z) ≡ cond a (Some x) (cond b (Some y) z)
swapped true true x y z h = absurd (h refl refl)
swapped true false x y z h = refl
swapped false true x y z h = refl
swapped false false x y z h = refl

replaced_found : (js : List Kept) (k : Kept) (f : Name) (vs : List ℤ) → record_of (replaced js k) f vs ≡ cond (has_key k f vs) (Some k) (record_of js f vs)
replaced_found [] k f vs = refl
replaced_found (j ∷ js) k f vs = by_same (same_key j k) refl (replaced_found js k f vs)
  where
    by_same : (b : Bool) → same_key j k ≡ b → record_of (replaced js k) f vs ≡ cond (has_key k f vs) (Some k) (record_of js f vs) → record_of (cond b (k ∷ js) (j ∷ replaced js k)) f vs ≡ cond (has_key k f vs) (Some k) (record_of (j ∷ js) f vs)
    by_same true q later =
        let e : has_key j f vs ≡ has_key k f vs = ap₂ (λ g ws. bytes_eq g f && same_args ws vs) (key_name j k.of k.args q) (key_args j k.of k.args q) in
        skipped (has_key k f vs) (has_key j f vs) k j (record_of js f vs) e
    by_same false q later =
        ap (λ o. cond (has_key j f vs) (Some j) o) later
        ∙ swapped (has_key k f vs) (has_key j f vs) k j (record_of js f vs) (λ a b. absurd (let z = sym q ∙ one_key j k f vs b a in cc))

-- what is found after new records were put in: the record that was there, or a new one
pub later_found : (Q : Option Kept → Type 0) (records new : List Kept) (f : Name) (vs : List ℤ) → Q (record_of records f vs) → ((k : Kept) → In k new → has_key k f vs ≡ true → Q (Some k)) → Q (record_of (committed records new) f vs)
later_found Q records [] f vs h k = h
later_found Q records (j ∷ new) f vs h k = later_found Q (replaced records j) new f vs (subst Q (sym (replaced_found records j f vs)) (by_key (has_key j f vs) refl)) (λ i there. k i (inr there))
  where
    by_key : (b : Bool) → has_key j f vs ≡ b → Q (cond b (Some j) (record_of records f vs))
    by_key true q = k j (inl refl) q
    by_key false q = h

-- where there is a new one, one of them
pub new_found : (Q : Option Kept → Type 0) (records new : List Kept) (i : Kept) (f : Name) (vs : List ℤ) → In i new → has_key i f vs ≡ true → ((k : Kept) → In k new → has_key k f vs ≡ true → Q (Some k)) → Q (record_of (committed records new) f vs)
new_found Q records [] i f vs there e k = absurd there
new_found Q records (j ∷ new) i f vs (inr there) e k = new_found Q (replaced records j) new i f vs there e (λ m t. k m (inr t))
new_found Q records (j ∷ new) i f vs (inl q) e k =
    let own : has_key j f vs ≡ true = subst (λ m. has_key m f vs ≡ true) q e in
    let first : record_of (replaced records j) f vs ≡ Some j = replaced_found records j f vs ∙ ap (λ b. cond b (Some j) (record_of records f vs)) own in
    later_found Q (replaced records j) new f vs (subst Q (sym first) (k j (inl refl) own)) (λ m t. k m (inr t))

module _ (program : Revised) (tables : Tables) where
  abbrev pub made : Key → Kept
  made key = made_of program tables key

  abbrev pub with_made : List Kept → List Key → List Kept
  with_made records keys = committed records (map made keys)

  put_in : (Q : Option Kept → Type 0) (records : List Kept) (key : Key) (f : Name) (vs : List ℤ) → Q (record_of records f vs) → Q (Some (made (f, vs))) → Q (record_of (replaced records (made key)) f vs)
  put_in Q records key f vs h k = subst Q (sym (replaced_found records (made key) f vs)) (by_key (has_key (made key) f vs) refl)
    where
      by_key : (b : Bool) → has_key (made key) f vs ≡ b → Q (cond b (Some (made key)) (record_of records f vs))
      by_key true q = subst Q (ap₂ (λ g ws. Some (made (g, ws))) (sym (key_name (made key) f vs q)) (sym (key_args (made key) f vs q))) k
      by_key false q = h

  -- the record that was there, or the one that was made
  pub then_found : (Q : Option Kept → Type 0) (records : List Kept) (keys : List Key) (f : Name) (vs : List ℤ) → Q (record_of records f vs) → Q (Some (made (f, vs))) → Q (record_of (with_made records keys) f vs)
  then_found Q records [] f vs h k = h
  then_found Q records (key ∷ keys) f vs h k = then_found Q (replaced records (made key)) keys f vs (put_in Q records key f vs h k) k

  abbrev pub IsMadeIn : List Kept → Key → Type 0
  IsMadeIn records key = record_of records key.0 key.1 ≡ Some (made key)

  -- each one that was made is found
  pub all_found : (records : List Kept) (keys : List Key) → Every (IsMadeIn (with_made records keys)) keys
  all_found records [] = tt
  all_found records (key ∷ keys) =
      let first : record_of (replaced records (made key)) key.0 key.1 ≡ Some (made key) = replaced_found records (made key) key.0 key.1 ∙ ap (λ b. cond b (Some (made key)) (record_of records key.0 key.1)) (has_own (made key)) in
      (then_found (λ o. o ≡ Some (made key)) (replaced records (made key)) keys key.0 key.1 first refl, all_found (replaced records (made key)) keys)

-- ---- what is made of an instance that ends

module _ (program : Revised) (tables : Tables) (ruled : ReadsAtMainsEnd program.tree) (numbers : IsNumbered program) where
  abbrev P : Tree
  P = program.tree

  abbrev elided : ℕ → Name → List ℤ → Out Fault ℤ
  elided left f vs = elide P tables (suc left) start f vs (identities P)

  -- a record with that height
  abbrev record_with : ℕ → Key → Out Fault ℤ → Kept
  record_with h key o = record { of = key.0; args = key.1; value = value_of o.answer; contribution = after o.log (identities P); read = reads o.log; revisions = map (with_number program) (entered o.log); height = h }

  new_with : (left h : ℕ) (f : Name) (vs : List ℤ) (v : ℤ) → left < depth_limit → HasNumber program f → (elided left f vs).answer ≡ Ok v → h ≤ depth_limit → h + (depth_limit - left) ≡ suc (deepest (elided left f vs).log) → IsNewRecord program tables (record_with h (f, vs) (elided left f vs))
  new_with left h f vs v deep number e low high =
      let o = elided left f vs in
      let d = depth_limit - left in
      let k = record_with h (f, vs) o in
      let levels : suc left ≡ suc depth_limit - d = omega (arith, deep) in
      let held = now_elide tables (HasNumber program) P numbers.entered (suc left) start f vs number (identities P) in
      let says : SaysOf P d k o = record {
        value = e ∙ sym (ap (λ r. Ok (value_of r)) e);
        contribution = refl;
        height = omega (arith, high);
        read = λ r. ((λ c. c), (λ c. c));
        entered_are = λ g. subst (λ fs. Contains (entered o.log) g ↔ Contains fs g) (sym (names_of program (entered o.log))) ((λ c. c), (λ c. c));
      } in
      record {
        sound = made_is_sound program tables d k (record {
          below = λ g i c. number_below program numbers (entered o.log) g i c.0 c.1 c.2;
          outermost = omega (arith, deep);
          deep = omega arith;
          noted = subst (λ z. SaysOf P d k (elide P tables z start f vs (identities P))) levels says;
        });
        now = both_true (every (agrees tables) (reads o.log)) (every (is_current program.revisions) (map (with_number program) (entered o.log))) (reads_hold program tables o.log held)
            (every_numbered program (is_current program.revisions) (entered o.log) ∙ entered_known program tables o.log held);
        low = low;
      }

  pub record IsRemade (left : ℕ) (f : Name) (vs : List ℤ) : Type 0 where
    pub is_new : IsNewRecord program tables (made_of program tables (f, vs))
    pub fits : (depth_limit - left) + (made_of program tables (f, vs)).height ≤ suc depth_limit

  -- what is made of an instance is new, and fits at each depth at which the instance ends
  pub remade : (left : ℕ) (f : Name) (vs : List ℤ) (v : ℤ) → left < depth_limit → IsRecorded P f → (elided left f vs).answer ≡ Ok v → IsRemade left f vs
  remade left f vs v deep memo e =
      let number = numbers.named f (recorded_there (procedure_of P f) memo) in
      let lookup : Lookup = λ g ws d. None in
      let other = recorded_other P tables (sight_of P tables) lookup ruled f memo in
      let D = deepest (elided left f vs).log in
      let d = depth_limit - left in
      let h = suc D - d in
      let low : D ≤ depth_limit = other_depth P tables (sight_of P tables) ruled left f other vs (identities P) v e in
      let top : d ≤ D = first_deep P tables left f vs (identities P) in
      let n = new_with left h f vs v deep number e (omega (arith, low, deep)) (omega (arith, top)) in
      let g = n.sound.gives tables 1 (omega arith) n.now (omega (arith, low, top, deep)) in
      let H = deepest (elided (depth_limit - 1) f vs).log in
      let high : H + 1 ≡ 1 + h = g.2 in
      record {
        is_new = new_with (depth_limit - 1) H f vs (value_of (elided left f vs).answer) (omega arith) number g.0 (omega (arith, high, low, deep)) (omega arith);
        fits = omega (arith, high, low, top);
      }

  -- a new record of an instance fits wherever the instance ends
  pub new_fits : (left : ℕ) (k : Kept) (f : Name) (vs : List ℤ) (v : ℤ) → left < depth_limit → IsRecorded P f → (elided left f vs).answer ≡ Ok v → has_key k f vs ≡ true → IsNewRecord program tables k → (depth_limit - left) + k.height ≤ suc depth_limit
  new_fits left k f vs v deep memo e q n =
      let low : k.height ≤ depth_limit = n.low in
      let g = n.sound.gives tables 1 (omega arith) n.now (omega (arith, low)) in
      let high : deepest (elided (depth_limit - 1) f vs).log + 1 ≡ 1 + k.height = subst (λ g. deepest (elided (depth_limit - 1) g vs).log + 1 ≡ 1 + k.height) (key_name k f vs q) (subst (λ ws. deepest (elided (depth_limit - 1) k.of ws).log + 1 ≡ 1 + k.height) (key_args k f vs q) g.2) in
      let fits : (depth_limit - left) + deepest (elided (depth_limit - 1) f vs).log ≤ suc depth_limit = (remade left f vs v deep memo e).fits in
      omega (arith, high, fits)
