-- A record that was made at one depth with one moment's tables is sound; it stays sound as procedures are defined anew.
use Rattle.std.proofs.Common.{ℕ, zero, suc, ◌+◌, ◌-◌, ◌<◌, ◌≤◌, List, [], ◌∷◌, Ok, ℤ, ◌≡◌, refl, sym, ap, ◌∙◌, subst, arith, true, false, Bool, map}
use Rattle.std.specs.Prelude.{max, length, slice_index_or, ◌&&◌, ◌↔◌}
use Rattle.std.specs.List.{Contains}
use Rattle.monoid_laws.specs.Kinds.{identity_of}
use Rattle.meaning.specs.Tree.{Name, Tree}
use Rattle.meaning.specs.Every.{every}
use Rattle.meaning.specs.Tables.{Tables}
use Rattle.meaning.specs.Outcome.{Log, Accumulators, Reads, Enters, Updates, Reuses, Begins, Syncs, Leaves, Faults, Marks, Spawns, Reading, after}
use Rattle.meaning.specs.Statements.{reducers, proc_of, identities}
use Rattle.meaning.specs.Elision.{elide, reads, entered, deepest, start, depth_limit}
use Rattle.meaning.specs.Records.{Revised, Kept, agrees, is_current, holds_now, IsSound}
use Rattle.trail_theory.specs.Order.{Every}
use Rattle.trail_theory.specs.MadeRecords.{SaysOf, IsMade, IsLater}
use Rattle.trail_theory.proofs.Dependence.{Holds, shifted, after_shifted, Follows, Follow, elide_follows}

-- elements by their places
contains_tail : {A : Type 0} (x y : A) (xs : List A) → Contains xs y → Contains (x ∷ xs) y
contains_tail x y xs c = (suc c.0, omega (arith, c.1), c.2)

contains_head : {A : Type 0} (x : A) (xs : List A) → Contains (x ∷ xs) x
contains_head x xs = (0, omega arith, refl)

-- a test of each element
test_left : (a b : Bool) → a && b ≡ true → a ≡ true
test_left true b e = refl
test_left false b e = absurd cc

test_right : (a b : Bool) → a && b ≡ true → b ≡ true
test_right true b e = e
test_right false b e = absurd cc

tested_at : {A : Type 0} (p : A → Bool) (xs : List A) (i : ℕ) (x : A) → every p xs ≡ true → i < length xs → slice_index_or xs i x ≡ x → p x ≡ true
tested_at p [] i x e l q = absurd (omega arith)
tested_at p (y ∷ xs) zero x e l q = ap p (sym q) ∙ test_left (p y) (every p xs) e
tested_at p (y ∷ xs) (suc i) x e l q = tested_at p xs i x (test_right (p y) (every p xs) e) (omega arith) q

pub tested : {A : Type 0} (p : A → Bool) (xs : List A) (x : A) → every p xs ≡ true → Contains xs x → p x ≡ true
tested p xs x e c = tested_at p xs c.0 x e c.1 c.2

pub all_tested : {A : Type 0} (p : A → Bool) (xs : List A) → ((x : A) → Contains xs x → p x ≡ true) → every p xs ≡ true
all_tested p [] h = refl
all_tested p (x ∷ xs) h = rw (h x (contains_head x xs)) (all_tested p xs (λ y c. h y (contains_tail x y xs c)))

-- a name among the revisions has its number there
record Numbered (revisions : List (Name × ℕ)) (f : Name) : Type 0 where
  number : ℕ
  is : Contains revisions (f, number)

numbered_in : (revisions : List (Name × ℕ)) (f : Name) (i : ℕ) → i < length (map (λ (p : Name × ℕ). p.0) revisions) → slice_index_or (map (λ (p : Name × ℕ). p.0) revisions) i f ≡ f → Numbered revisions f
numbered_in [] f i l q = absurd (omega arith)
numbered_in (p ∷ ps) f zero l q = record { number = p.1; is = (0, omega arith, ap (λ z. (z, p.1)) q) }
numbered_in (p ∷ ps) f (suc i) l q = let h = numbered_in ps f i (omega arith) q in record { number = h.number; is = contains_tail p (f, h.number) ps h.is }

pub first_deep : (program : Tree) (tables : Tables) (l : ℕ) (f : Name) (vs : List ℤ) (acc : Accumulators) → depth_limit - l ≤ deepest (elide program tables (suc l) start f vs acc).log
unfolding elide
first_deep program tables l f vs acc = omega arith

module _ (program other : Tree) (tables others : Tables) (a b : ℕ) (reds : reducers program ≡ reducers other) where
  abbrev moved : Log → Log
  moved es = shifted program other tables others a b reds es

  -- the other run finds what the first noted
  all_hold : (es : Log) → ((r : Reading) → Contains (reads es) r → agrees others r ≡ true) → ((f : Name) → Contains (entered es) f → proc_of program f ≡ proc_of other f) → deepest es + a ≤ depth_limit + b
      → Every (Holds program other tables others a b reds) es
  all_hold [] h k d = tt
  all_hold (Reads r ∷ es) h k d = (h r (contains_head r (reads es)), all_hold es (λ s c. h s (contains_tail r s (reads es) c)) k d)
  all_hold (Enters f args e ∷ es) h k d = ((k f (contains_head f (entered es)), omega arith), all_hold es h (λ g c. k g (contains_tail f g (entered es) c)) (omega arith))
  all_hold (Updates n kind w ∷ es) h k d = (tt, all_hold es h k d)
  all_hold (Reuses f args ws ∷ es) h k d = (tt, all_hold es h k d)
  all_hold (Begins n e ∷ es) h k d = (tt, all_hold es h k d)
  all_hold (Syncs n ∷ es) h k d = (tt, all_hold es h k d)
  all_hold (Spawns n ∷ es) h k d = (tt, all_hold es h k d)
  all_hold (Leaves n v ∷ es) h k d = (tt, all_hold es h k d)
  all_hold (Faults f ∷ es) h k d = (tt, all_hold es h k d)
  all_hold (Marks f args c ∷ es) h k d = (tt, all_hold es h k d)

  reads_moved : (es : Log) → reads (moved es) ≡ reads es
  reads_moved [] = refl
  reads_moved (Reads r ∷ es) = ap (λ l. r ∷ l) (reads_moved es)
  reads_moved (Enters f args e ∷ es) = reads_moved es
  reads_moved (Updates n kind w ∷ es) = reads_moved es
  reads_moved (Reuses f args ws ∷ es) = reads_moved es
  reads_moved (Begins n e ∷ es) = reads_moved es
  reads_moved (Syncs n ∷ es) = reads_moved es
  reads_moved (Spawns n ∷ es) = reads_moved es
  reads_moved (Leaves n v ∷ es) = reads_moved es
  reads_moved (Faults f ∷ es) = reads_moved es
  reads_moved (Marks f args c ∷ es) = reads_moved es

  entered_moved : (es : Log) → entered (moved es) ≡ entered es
  entered_moved [] = refl
  entered_moved (Reads r ∷ es) = entered_moved es
  entered_moved (Enters f args e ∷ es) = ap (λ l. f ∷ l) (entered_moved es)
  entered_moved (Updates n kind w ∷ es) = entered_moved es
  entered_moved (Reuses f args ws ∷ es) = entered_moved es
  entered_moved (Begins n e ∷ es) = entered_moved es
  entered_moved (Syncs n ∷ es) = entered_moved es
  entered_moved (Spawns n ∷ es) = entered_moved es
  entered_moved (Leaves n v ∷ es) = entered_moved es
  entered_moved (Faults f ∷ es) = entered_moved es
  entered_moved (Marks f args c ∷ es) = entered_moved es

  -- the greatest depth moves with the depths
  deepest_moved : (es : Log) → max (0 + a - b) (deepest (moved es)) ≡ deepest es + a - b
  deepest_moved [] = omega arith
  deepest_moved (Reads r ∷ es) = deepest_moved es
  deepest_moved (Enters f args e ∷ es) = let h : max (0 + a - b) (deepest (moved es)) ≡ deepest es + a - b = deepest_moved es in omega arith
  deepest_moved (Updates n kind w ∷ es) = deepest_moved es
  deepest_moved (Reuses f args ws ∷ es) = deepest_moved es
  deepest_moved (Begins n e ∷ es) = deepest_moved es
  deepest_moved (Syncs n ∷ es) = deepest_moved es
  deepest_moved (Spawns n ∷ es) = deepest_moved es
  deepest_moved (Leaves n v ∷ es) = deepest_moved es
  deepest_moved (Faults f ∷ es) = deepest_moved es
  deepest_moved (Marks f args c ∷ es) = deepest_moved es

  first_moved : (l : ℕ) (f : Name) (vs : List ℤ) (acc : Accumulators) → (depth_limit - l) + a - b ≤ deepest (moved (elide program tables (suc l) start f vs acc).log)
  unfolding elide
  first_moved l f vs acc = omega arith

  -- what a record says of one run it says of the other
  says_moved : (k : Kept) (l m : ℕ) → l + b ≡ depth_limit → 0 < b → m + a ≡ suc depth_limit → 0 < a → a + k.height ≤ suc depth_limit
      → ((r : Reading) → Contains k.read r → agrees others r ≡ true) → ((f : Name) → Contains (map (λ (p : Name × ℕ). p.0) k.revisions) f → proc_of program f ≡ proc_of other f)
      → SaysOf program b k (elide program tables (suc l) start k.of k.args (identities program)) → SaysOf other a k (elide other others m start k.of k.args (identities other))
  unfolding elide
  says_moved k l m le lb me la fits agree procs n =
      let ids : identities program ≡ identities other = ap (λ rs. map (λ r. identity_of r.kind) rs) reds in
      let o = elide program tables (suc l) start k.of k.args (identities program) in
      let p = elide other others m start k.of k.args (identities program) in
      let high : deepest o.log + 1 ≡ b + k.height = n.height in
      let H = all_hold o.log (λ r c. agree r ((n.read r).0 c)) (λ f c. procs f ((n.entered_are f).0 c)) (omega arith) in
      let F : Follow program other tables others a b reds o p = elide_follows program other tables others a b reds (suc l) m (omega arith) (omega arith) (omega arith) start k.of k.args (identities program) in
      let G : Follows program other tables others a b reds o.log (Ok k.value) p = subst (λ r. Follows program other tables others a b reds o.log r p) n.value F in
      let E : p ≡ record { log = moved o.log; answer = Ok k.value } = G H in
      let top : depth_limit - l ≤ deepest o.log = first_deep program tables l k.of k.args (identities program) in
      let top' : (depth_limit - l) + a - b ≤ deepest (moved o.log) = first_moved l k.of k.args (identities program) in
      let D : max (0 + a - b) (deepest (moved o.log)) ≡ deepest o.log + a - b = deepest_moved o.log in
      subst (λ i. SaysOf other a k (elide other others m start k.of k.args i)) ids (record {
        value = ap (λ z. z.answer) E;
        contribution = ap (λ i. after p.log i) (sym ids) ∙ ap (λ z. after z.log (identities program)) E ∙ after_shifted program other tables others a b reds o.log (identities program) ∙ n.contribution;
        height = ap (λ z. deepest z.log + 1) E ∙ omega arith;
        read = λ r. subst (λ rs. Contains rs r ↔ Contains k.read r) (sym (ap (λ z. reads z.log) E ∙ reads_moved o.log)) (n.read r);
        entered_are = λ f. subst (λ fs. Contains fs f ↔ Contains (map (λ (p : Name × ℕ). p.0) k.revisions) f) (sym (ap (λ z. entered z.log) E ∙ entered_moved o.log)) (n.entered_are f);
      })

now_reads : (program : Revised) (tables : Tables) (k : Kept) → holds_now program tables k ≡ true → (r : Reading) → Contains k.read r → agrees tables r ≡ true
now_reads program tables k e r c = tested (agrees tables) k.read r (test_left (every (agrees tables) k.read) (every (is_current program.revisions) k.revisions) e) c

now_current : (program : Revised) (tables : Tables) (k : Kept) → holds_now program tables k ≡ true → (f : Name) (n : ℕ) → Contains k.revisions (f, n) → is_current program.revisions (f, n) ≡ true
now_current program tables k e f n c = tested (is_current program.revisions) k.revisions (f, n) (test_right (every (agrees tables) k.read) (every (is_current program.revisions) k.revisions) e) c

pub made_is_sound : (program : Revised) (tables : Tables) (depth : ℕ) (k : Kept) → IsMade program tables depth k → IsSound program k
made_is_sound program tables depth k made =
    record {
      below = made.below;
      gives = λ others e out now fits.
          let deep : depth ≤ depth_limit = made.deep in
          let q : suc depth_limit - depth ≡ suc (depth_limit - depth) = omega arith in
          let n = says_moved program.tree program.tree tables others e depth refl k (depth_limit - depth) (suc depth_limit - e) (omega arith) made.outermost (omega arith) out fits (now_reads program others k now) (λ f c. refl)
          (subst (λ z. SaysOf program.tree depth k (elide program.tree tables z start k.of k.args (identities program.tree))) q made.noted) in
          (n.value, n.contribution, n.height, n.read, n.entered_are);
    }

module _ (program later : Revised) (k : Kept) (h : IsLater program later) (s : IsSound program k) where
  -- a revision that is current later is current now
  was_current : (tables : Tables) → holds_now later tables k ≡ true → (p : Name × ℕ) → Contains k.revisions p → is_current program.revisions p ≡ true
  was_current tables e p c = (h.unchanged p.0 p.1 (s.below p.0 p.1 c) (now_current later tables k e p.0 p.1 c)).0

  held_before : (tables : Tables) → holds_now later tables k ≡ true → holds_now program tables k ≡ true
  held_before tables e =
      rw (test_left (every (agrees tables) k.read) (every (is_current later.revisions) k.revisions) e) (all_tested (is_current program.revisions) k.revisions (was_current tables e))

  same_procedure : (tables : Tables) → holds_now later tables k ≡ true → (f : Name) → Contains (map (λ (p : Name × ℕ). p.0) k.revisions) f → proc_of program.tree f ≡ proc_of later.tree f
  same_procedure tables e f c =
      let n = numbered_in k.revisions f c.0 c.1 c.2 in
      (h.unchanged f n.number (s.below f n.number n.is) (now_current later tables k e f n.number n.is)).1

  no_level : (tables : Tables) (v : ℤ) → (elide program.tree tables zero start k.of k.args (identities program.tree)).answer ≡ Ok v → ⊥
  unfolding elide
  no_level tables v e = cc

  -- with so many levels
  says_later : (tables : Tables) (depth m : ℕ) → m + depth ≡ suc depth_limit → 0 < depth → depth + k.height ≤ suc depth_limit → holds_now later tables k ≡ true
      → SaysOf program.tree depth k (elide program.tree tables m start k.of k.args (identities program.tree)) → SaysOf later.tree depth k (elide later.tree tables m start k.of k.args (identities later.tree))
  says_later tables depth zero q out fits now n = absurd (no_level tables k.value n.value)
  says_later tables depth (suc l) q out fits now n =
      says_moved program.tree later.tree tables tables depth depth h.reducers_are k l (suc l) (omega (arith, q)) out q out fits (now_reads later tables k now) (same_procedure tables now) n

  pub sound_stays : IsSound later k
  sound_stays =
      record {
        below = λ f n c. let x : n < program.counter = s.below f n c in let y : program.counter ≤ later.counter = h.counted in omega arith;
        gives = λ tables depth out now fits.
            let g = s.gives tables depth out (held_before tables now) fits in
            let n = says_later tables depth (suc depth_limit - depth) (omega arith) out fits now (record { value = g.0; contribution = g.1; height = g.2; read = g.3; entered_are = g.4 }) in
            (n.value, n.contribution, n.height, n.read, n.entered_are);
      }
