-- The rule on waiting names: no statement uses a name that waits for a spawned child.
use Rattle.std.proofs.Common.{◌≡◌, ℕ, zero, suc, ◌+◌, ◌≤◌, ◌-◌, Bool, true, false, cond, ◌&&◌, ◌==◌, List, [], ◌∷◌, ◌++◌, Option, Some, None, map, length, min, replicate, slice_get, refl, ap, sym, ◌∙◌, subst, inl, inr, ◌⊎◌, arith}
use Rattle.meaning.specs.declared.tree.Program.{Program}
use Rattle.meaning.specs.declared.tree.Way.TheVariants.{Call, Spawn}
use Rattle.meaning.specs.Tree.{Name, Term, number, name, cell, has, limit, sum, negate, binary, Deed, bind, enter, read, sync, update, choose, loop, give, Body, end, step}
use Rattle.meaning.specs.TreeView.{decl, lined, tree}
use Rattle.meaning.specs.Statements.{procedure_of}
use Rattle.linked_program.specs.declared.knowledge.Moment.{Moment}
use Rattle.linked_program.specs.declared.knowledge.Knowledge.{Knowledge}
use Rattle.linked_program.specs.declared.knowledge.Knowledge.TheVariants.{Unbound, Ended, Known}
use Rattle.linked_program.specs.declared.violation.Rule.TheVariants.{Twice, Waiting}
use Rattle.linked_program.specs.TableNames.{Columned, table_of}
use Rattle.linked_program.specs.Scope.{Scope, moment, precedes, is_known, is_bound, told, bound, looped, after_spawn, is_of, forgotten, closed_deed, closed, returned, after_deed, after_body, after_block, second, scope_of}
use Rattle.linked_program.specs.Rules.{Setting, use_rules, table_rules, column_rules, term_rules, terms_rules, bind_rules, target_rules, enter_rules, read_rules, kind_of, range_rules, own_rules}
use Rattle.linked_program.specs.Bodies.{body_violations, inner_violations}
use Rattle.linked_program.specs.Declarations.{IsClean, setting_of, missing_main, decls_violations}
use Rattle.trail_theory.specs.Order.{In}
use Rattle.trail_theory.specs.Waiting.{IsFree, AreFree, waiting_deed, waiting_body, IsOrderlyDeed, IsOrderly, UsesNoWaitingName}
use Rattle.linked_program.proofs.Quiet.{nil_left, nil_right, no_when}
use Rattle.rules_theory.proofs.Clean.{first_deed, inside_deed, later_deeds, clean_procedure}
use Rattle.rules_theory.proofs.Moments.{precedes_depth, not_before_itself, before_inside, before_next, now_before_next}
use Rattle.rules_theory.proofs.Known.{look, told_at, told_there, either, Moves, moves_on, looped_moves, closed_moves, Shallow, deeper_too, shallow_deed, shallow_block}
use Rattle.rules_theory.proofs.Reading.{by_name, own_of}

-- ---- names that can't be used

-- bound by a spawn since the last sync, or not to be seen any more
abbrev stuck : Moment → Option Knowledge → Bool
stuck synced None = true
stuck synced (Some Unbound) = false
stuck synced (Some Ended) = true
stuck synced (Some (Known since spawned)) = spawned && precedes synced since

abbrev Covers : List ℕ → Scope → Type 0
Covers W scope = (x : ℕ) → In x W → stuck scope.synced (look scope x) ≡ true

use_free : (synced : Moment) (k : Option Knowledge) → use_rules synced k ≡ [] → stuck synced k ≡ false
use_free synced None e = cc
use_free synced (Some Unbound) e = refl
use_free synced (Some Ended) e = cc
use_free synced (Some (Known since spawned)) e = no_when (spawned && precedes synced since) Waiting e

module _ (ts : List Columned) (scope : Scope) (W : List ℕ) (covers : Covers W scope) where
  free_term : (e : Term) → term_rules ts scope e ≡ [] → IsFree W e
  free_term (number n) r = tt
  free_term (name x) r = λ i. let p = covers x i in let q = use_free scope.synced (look scope x) r in cc
  free_term (cell t e c) r = free_term e (nil_right (column_rules (table_of ts t) c) (term_rules ts scope e) r)
  free_term (has t e) r = free_term e (nil_right (table_rules (table_of ts t)) (term_rules ts scope e) r)
  free_term (limit t) r = tt
  free_term (sum t c) r = tt
  free_term (negate e) r = free_term e r
  free_term (binary op e f) r = (free_term e (nil_left (term_rules ts scope e) (term_rules ts scope f) r), free_term f (nil_right (term_rules ts scope e) (term_rules ts scope f) r))

  free_terms : (es : List Term) → terms_rules ts scope es ≡ [] → AreFree W es
  free_terms [] r = tt
  free_terms (e ∷ es) r = (free_term e (nil_left (term_rules ts scope e) (terms_rules ts scope es) r), free_terms es (nil_right (term_rules ts scope e) (terms_rules ts scope es) r))

-- ---- a name that was bound stays as it is, or ends

abbrev is_fresh : Option Knowledge → Bool
is_fresh None = false
is_fresh (Some Unbound) = true
is_fresh (Some Ended) = false
is_fresh (Some (Known since spawned)) = false

abbrev Stays : Scope → Scope → Type 0
Stays a b = (x : ℕ) → is_fresh (look a x) ≡ false → Moves (look a x) (look b x)

stuck_not_fresh : (synced : Moment) (k : Option Knowledge) → stuck synced k ≡ true → is_fresh k ≡ false
stuck_not_fresh synced None e = refl
stuck_not_fresh synced (Some Unbound) e = cc
stuck_not_fresh synced (Some Ended) e = refl
stuck_not_fresh synced (Some (Known since spawned)) e = refl

stuck_moves : (synced : Moment) (a b : Option Knowledge) → Moves a b → stuck synced a ≡ true → stuck synced b ≡ true
stuck_moves synced a b (inl e) h = ap (stuck synced) e ∙ h
stuck_moves synced a b (inr e) h = ap (stuck synced) e

stays_on : (a b c : Scope) → Stays a b → Stays b c → Stays a c
stays_on a b c f g x h = then (f x h)
  where
    then : Moves (look a x) (look b x) → Moves (look a x) (look c x)
    then (inl e) = moves_on (look a x) (look b x) (look c x) (inl e) (g x (ap is_fresh e ∙ h))
    then (inr e) = moves_on (look a x) (look b x) (look c x) (inr e) (g x (ap is_fresh e))

never : (o : Option Knowledge) (w : Knowledge) → o ≡ Some w → is_bound o ≡ false → is_fresh o ≡ false → ⊥
never None w e f g = cc
never (Some Unbound) w e f g = cc
never (Some Ended) w e f g = cc
never (Some (Known since spawned)) w e f g = cc

stays_bound : (now : Moment) (b : Bool) (scope : Scope) (x : ℕ) → bind_rules scope x ≡ [] → Stays scope (bound now b scope x)
stays_bound now b scope x r y h =
    let new = no_when (is_bound (look scope x)) Twice r in
    either (is_known (look scope x)) scope (told scope x (Known now b)) (λ t. Moves (look scope y) (look t y)) (inl refl) (elim (told_at scope.names x y (Known now b)) [
      | inl e ↦ inl e
      | inr q ↦ absurd (never (look scope y) q.was q.was_is (ap (λ z. is_bound (look scope z)) q.same ∙ new) h)
    ])

stays_closed : (depth : ℕ) (scope : Scope) (b : Body) → Stays scope (closed depth scope b)
stays_closed depth scope b x h = closed_moves depth scope b x

module _ (s : Setting) where
  target_of : (scope : Scope) (x : Option ℕ) (f : Name) (es : List Term) → terms_rules s.tables scope es ++ (target_rules scope x ++ enter_rules s.program f (length es)) ≡ [] → target_rules scope x ≡ []
  target_of scope x f es r = nil_left (target_rules scope x) (enter_rules s.program f (length es)) (nil_right (terms_rules s.tables scope es) (target_rules scope x ++ enter_rules s.program f (length es)) r)

  loop_name : (now : Moment) (scope : Scope) (x : ℕ) (e f : Term) (g : Name) (es : List Term) → range_rules s scope x e f ++ (terms_rules s.tables (bound now false scope x) es ++ enter_rules s.program g (length es)) ≡ [] → bind_rules scope x ≡ []
  loop_name now scope x e f g es r =
      nil_right (term_rules s.tables scope f) (bind_rules scope x)
      (nil_right (term_rules s.tables scope e) (term_rules s.tables scope f ++ bind_rules scope x)
      (nil_left (range_rules s scope x e f) (terms_rules s.tables (bound now false scope x) es ++ enter_rules s.program g (length es)) r))

  mutual
    stays_deed : (now : Moment) (scope : Scope) (d : Deed) → own_rules s now scope d ≡ [] → inner_violations s now scope d ≡ [] → Stays scope (after_deed now scope d)
    stays_deed now scope (bind x e) r v = stays_bound now false scope x (nil_right (term_rules s.tables scope e) (bind_rules scope x) r)
    stays_deed now scope (enter None Call f es) r v = λ y h. inl refl
    stays_deed now scope (enter (Some x) Call f es) r v = stays_bound now false scope x (target_of scope (Some x) f es r)
    stays_deed now scope (enter None Spawn f es) r v = λ y h. inl refl
    stays_deed now scope (enter (Some x) Spawn f es) r v = stays_bound now true (after_spawn scope) x (target_of scope (Some x) f es r)
    stays_deed now scope (read x q) r v = stays_bound now false scope x (nil_left (bind_rules scope x) (read_rules (s.in_main && (now.depth == 0)) scope (kind_of s.program q)) r)
    stays_deed now scope sync r v = λ y h. inl refl
    stays_deed now scope (update q es) r v = λ y h. inl refl
    stays_deed now scope (choose e a b) r v =
        let deep = now.depth + 1 in
        let one = body_violations s deep 1 scope a in
        let two = body_violations s deep 1 (second now scope a) b in
        let first = after_body deep 1 scope a in
        let between = returned scope.synced (closed deep first a) in
        let last = after_body deep 1 between b in
        stays_on scope between (closed deep last b)
        (stays_on scope first between (stays_body deep 1 scope a (nil_left one two v)) (stays_closed deep first a))
        (stays_on between last (closed deep last b) (stays_body deep 1 between b (nil_right one two v)) (stays_closed deep last b))
    stays_deed now scope (loop x e f grain g es) r v = λ y h. looped_moves scope x y
    stays_deed now scope (give e) r v = λ y h. inl refl

    stays_body : (depth place : ℕ) (scope : Scope) (b : Body) → body_violations s depth place scope b ≡ [] → Stays scope (after_body depth place scope b)
    stays_body depth place scope end v = λ y h. inl refl
    stays_body depth place scope (step n d rest) v =
        let now = moment depth place in
        let next = after_deed now scope d in
        stays_on scope next (after_body depth (place + 1) next rest)
        (stays_deed now scope d (own_of s now scope d (first_deed s depth place scope n d rest v)) (inside_deed s depth place scope n d rest v))
        (stays_body depth (place + 1) next rest (later_deeds s depth place scope n d rest v))

-- ---- the last sync

synced_bound : (now : Moment) (b : Bool) (scope : Scope) (x : ℕ) → (bound now b scope x).synced ≡ scope.synced
synced_bound now b scope x = either (is_known (look scope x)) scope (told scope x (Known now b)) (λ t. t.synced ≡ scope.synced) refl refl

synced_looped : (scope : Scope) (x : ℕ) → (looped scope x).synced ≡ scope.synced
synced_looped scope x = either (is_known (look scope x)) scope (told scope x Ended) (λ t. t.synced ≡ scope.synced) refl refl

synced_forgotten : (depth : ℕ) (scope : Scope) (x : ℕ) → (forgotten depth scope x).synced ≡ scope.synced
synced_forgotten depth scope x = either (is_of depth (look scope x)) (told scope x Ended) scope (λ t. t.synced ≡ scope.synced) refl refl

synced_closed_deed : (depth : ℕ) (scope : Scope) (d : Deed) → (closed_deed depth scope d).synced ≡ scope.synced
synced_closed_deed depth scope (bind x e) = synced_forgotten depth scope x
synced_closed_deed depth scope (enter None way f es) = refl
synced_closed_deed depth scope (enter (Some x) way f es) = synced_forgotten depth scope x
synced_closed_deed depth scope (read x r) = synced_forgotten depth scope x
synced_closed_deed depth scope sync = refl
synced_closed_deed depth scope (update r es) = refl
synced_closed_deed depth scope (choose e a b) = refl
synced_closed_deed depth scope (loop x e f grain g es) = refl
synced_closed_deed depth scope (give e) = refl

synced_closed : (depth : ℕ) (scope : Scope) (b : Body) → (closed depth scope b).synced ≡ scope.synced
synced_closed depth scope end = refl
synced_closed depth scope (step n d rest) = synced_closed depth (closed_deed depth scope d) rest ∙ synced_closed_deed depth scope d

cond_of : (c : Bool) (a b : Moment) → (cond c a b ≡ b) ⊎ (cond c a b ≡ a)
cond_of true a b = inr refl
cond_of false a b = inl refl

synced_deed : (now : Moment) (scope : Scope) (d : Deed) → ((after_deed now scope d).synced ≡ scope.synced) ⊎ ((after_deed now scope d).synced ≡ now)
synced_deed now scope (bind x e) = inl (synced_bound now false scope x)
synced_deed now scope (enter None Call f es) = inl refl
synced_deed now scope (enter (Some x) Call f es) = inl (synced_bound now false scope x)
synced_deed now scope (enter None Spawn f es) = inl refl
synced_deed now scope (enter (Some x) Spawn f es) = inl (synced_bound now true (after_spawn scope) x)
synced_deed now scope (read x r) = inl (synced_bound now false scope x)
synced_deed now scope sync = inr refl
synced_deed now scope (update r es) = inl refl
synced_deed now scope (choose e a b) =
    let deep = now.depth + 1 in
    let one = after_block deep scope a in
    let two = after_block deep (returned scope.synced one) b in
    cond_of (precedes scope.synced one.synced && precedes scope.synced two.synced) now scope.synced
synced_deed now scope (loop x e f grain g es) = inl (synced_looped scope x)
synced_deed now scope (give e) = inl refl

-- the last sync is the one before the block, or stands in it
synced_body : (depth place : ℕ) (scope : Scope) (b : Body) → ((after_body depth place scope b).synced ≡ scope.synced) ⊎ (depth ≤ (after_body depth place scope b).synced.depth)
synced_body depth place scope end = inl refl
synced_body depth place scope (step n d rest) =
    let now = moment depth place in
    let next = after_deed now scope d in
    let last = after_body depth (place + 1) next rest in
    elim (synced_body depth (place + 1) next rest) [
      | inr l ↦ inr l
      | inl e ↦ elim (synced_deed now scope d) [
        | inl f ↦ inl (e ∙ f)
        | inr f ↦ let g : last.synced.depth ≡ depth = ap (λ m. m.depth) (e ∙ f) in inr (omega (arith, g))
      ]
    ]

-- ---- after an `if`

right_true : (b c : Bool) → (b && c) ≡ true → c ≡ true
right_true true c e = e
right_true false c e = cc

left_not : (b c : Bool) → b ≡ false → (b && c) ≡ false
left_not true c e = cc
left_not false c e = refl

right_not : (b c : Bool) → c ≡ false → (b && c) ≡ false
right_not true c e = e
right_not false c e = refl

-- what can't be used at the end of a branch can't be used after the `if`
join_stuck : (depth : ℕ) (before now s : Moment) (c : Bool) (k : Option Knowledge) → stuck s k ≡ true → Shallow depth k → (s ≡ before) ⊎ (depth + 1 ≤ s.depth) → (s ≡ before → c ≡ false) → stuck (cond c now before) k ≡ true
join_stuck depth before now s c None h l o f = refl
join_stuck depth before now s c (Some Unbound) h l o f = cc
join_stuck depth before now s c (Some Ended) h l o f = refl
join_stuck depth before now s c (Some (Known since spawned)) h l (inl e) f = rw (f e) (subst (λ m. (spawned && precedes m since) ≡ true) e h)
join_stuck depth before now s c (Some (Known since spawned)) h l (inr far) f =
    let later = precedes_depth s since (right_true spawned (precedes s since) h) in
    absurd (omega (arith, later, far, l))

-- ---- the names that wait can't be used

covers_stays : (W : List ℕ) (a b : Scope) → Stays a b → b.synced ≡ a.synced → Covers W a → Covers W b
covers_stays W a b stays e covers x i =
    let h = covers x i in
    rw e (stuck_moves a.synced (look a x) (look b x) (stays x (stuck_not_fresh a.synced (look a x) h)) h)

spawned_at : (now : Moment) (scope : Scope) (x : ℕ) (o : Option Knowledge) → look scope x ≡ o → is_bound o ≡ false → precedes scope.synced now ≡ true → stuck scope.synced (look (cond (is_known o) scope (told scope x (Known now true))) x) ≡ true
spawned_at now scope x None e b p = elim (told_at scope.names x x (Known now true)) [
  | inl q ↦ ap (stuck scope.synced) (q ∙ e)
  | inr q ↦ ap (stuck scope.synced) q.now ∙ p
]
spawned_at now scope x (Some Unbound) e b p = ap (stuck scope.synced) (told_there scope.names x Unbound (Known now true) e) ∙ p
spawned_at now scope x (Some Ended) e b p = cc
spawned_at now scope x (Some (Known since spawned)) e b p = cc

spawn_covers : (now : Moment) (W : List ℕ) (scope : Scope) (x : ℕ) → bind_rules scope x ≡ [] → precedes scope.synced now ≡ true → Covers W scope → Covers (x ∷ W) (bound now true (after_spawn scope) x)
spawn_covers now W scope x r p covers y i =
    let after = bound now true (after_spawn scope) x in
    let here : stuck after.synced (look after x) ≡ true = rw (synced_bound now true (after_spawn scope) x) (spawned_at now (after_spawn scope) x (look scope x) refl (no_when (is_bound (look scope x)) Twice r) p) in
    elim i [
      | inl e ↦ subst (λ z. stuck after.synced (look after z) ≡ true) (sym e) here
      | inr j ↦ covers_stays W (after_spawn scope) after (stays_bound now true (after_spawn scope) x r) (synced_bound now true (after_spawn scope) x) covers y j
    ]

in_split : (xs ys : List ℕ) (x : ℕ) → In x (xs ++ ys) → In x xs ⊎ In x ys
in_split [] ys x i = inr i
in_split (z ∷ xs) ys x (inl e) = inl (inl e)
in_split (z ∷ xs) ys x (inr i) = elim (in_split xs ys x i) [
  | inl j ↦ inl (inr j)
  | inr j ↦ inr j
]

-- at the end of a block as after its last statement
closed_sync : (depth : ℕ) (before : Moment) (scope : Scope) (b : Body) → (scope.synced ≡ before) ⊎ (depth ≤ scope.synced.depth) → ((closed depth scope b).synced ≡ before) ⊎ (depth ≤ (closed depth scope b).synced.depth)
closed_sync depth before scope b (inl e) = inl (synced_closed depth scope b ∙ e)
closed_sync depth before scope b (inr l) = inr (subst (λ m. depth ≤ m.depth) (sym (synced_closed depth scope b)) l)

covers_closed : (W : List ℕ) (depth : ℕ) (scope : Scope) (b : Body) → Covers W scope → Covers W (closed depth scope b)
covers_closed W depth scope b covers = covers_stays W scope (closed depth scope b) (stays_closed depth scope b) (synced_closed depth scope b) covers

-- `one` is known after the first branch, `two` after the second one
branches_cover : (V W : List ℕ) (now before : Moment) (one two : Scope) → Covers V one → Covers W two → Stays one two → ((x : ℕ) → Shallow now.depth (look two x))
    → (one.synced ≡ before) ⊎ (now.depth + 1 ≤ one.synced.depth) → (two.synced ≡ before) ⊎ (now.depth + 1 ≤ two.synced.depth)
    → Covers (V ++ W) (returned (cond (precedes before one.synced && precedes before two.synced) now before) two)
branches_cover V W now before one two first last stays shallow s1 s2 y i =
    let p = precedes before one.synced in
    let q = precedes before two.synced in
    elim (in_split V W y i) [
      | inl j ↦ let h = first y j in
          join_stuck now.depth before now one.synced (p && q) (look two y) (stuck_moves one.synced (look one y) (look two y) (stays y (stuck_not_fresh one.synced (look one y) h)) h) (shallow y) s1
          (λ e. left_not p q (ap (precedes before) e ∙ not_before_itself before))
      | inr j ↦
          join_stuck now.depth before now two.synced (p && q) (look two y) (last y j) (shallow y) s2
          (λ e. right_not p q (ap (precedes before) e ∙ not_before_itself before))
    ]

abbrev AllShallow : ℕ → Scope → Type 0
AllShallow depth scope = (x : ℕ) → Shallow depth (look scope x)

before_after : (depth place : ℕ) (scope : Scope) (d : Deed) → precedes scope.synced (moment depth place) ≡ true → precedes (after_deed (moment depth place) scope d).synced (moment depth (place + 1)) ≡ true
before_after depth place scope d p = elim (synced_deed (moment depth place) scope d) [
  | inl e ↦ ap (λ m. precedes m (moment depth (place + 1))) e ∙ before_next scope.synced depth place p
  | inr e ↦ ap (λ m. precedes m (moment depth (place + 1))) e ∙ now_before_next depth place
]

module _ (s : Setting) where
  mutual
    orderly_deed : (now : Moment) (W : List ℕ) (scope : Scope) (d : Deed) → precedes scope.synced now ≡ true → AllShallow now.depth scope → Covers W scope → own_rules s now scope d ≡ [] → inner_violations s now scope d ≡ [] → IsOrderlyDeed W d × Covers (waiting_deed W d) (after_deed now scope d)
    orderly_deed now W scope (bind x e) p l covers r v =
        let rule = nil_right (term_rules s.tables scope e) (bind_rules scope x) r in (
          free_term s.tables scope W covers e (nil_left (term_rules s.tables scope e) (bind_rules scope x) r),
          covers_stays W scope (bound now false scope x) (stays_bound now false scope x rule) (synced_bound now false scope x) covers,
        )
    orderly_deed now W scope (enter None Call f es) p l covers r v =
        (free_terms s.tables scope W covers es (nil_left (terms_rules s.tables scope es) (target_rules scope None ++ enter_rules s.program f (length es)) r), covers)
    orderly_deed now W scope (enter (Some x) Call f es) p l covers r v = (
      free_terms s.tables scope W covers es (nil_left (terms_rules s.tables scope es) (target_rules scope (Some x) ++ enter_rules s.program f (length es)) r),
      covers_stays W scope (bound now false scope x) (stays_bound now false scope x (target_of s scope (Some x) f es r)) (synced_bound now false scope x) covers,
    )
    orderly_deed now W scope (enter None Spawn f es) p l covers r v =
        (free_terms s.tables scope W covers es (nil_left (terms_rules s.tables scope es) (target_rules scope None ++ enter_rules s.program f (length es)) r), covers)
    orderly_deed now W scope (enter (Some x) Spawn f es) p l covers r v = (
      free_terms s.tables scope W covers es (nil_left (terms_rules s.tables scope es) (target_rules scope (Some x) ++ enter_rules s.program f (length es)) r),
      spawn_covers now W scope x (target_of s scope (Some x) f es r) p covers,
    )
    orderly_deed now W scope (read x q) p l covers r v =
        (tt, covers_stays W scope (bound now false scope x) (stays_bound now false scope x (nil_left (bind_rules scope x) (read_rules (s.in_main && (now.depth == 0)) scope (kind_of s.program q)) r)) (synced_bound now false scope x) covers)
    orderly_deed now W scope sync p l covers r v = (tt, λ x i. absurd i)
    orderly_deed now W scope (update q es) p l covers r v = (free_terms s.tables scope W covers es (nil_left (terms_rules s.tables scope es) _ r), covers)
    orderly_deed now W scope (choose e a b) p l covers r v =
        let deep = now.depth + 1 in
        let v1 = nil_left (body_violations s deep 1 scope a) (body_violations s deep 1 (second now scope a) b) v in
        let v2 = nil_right (body_violations s deep 1 scope a) (body_violations s deep 1 (second now scope a) b) v in
        let first = after_body deep 1 scope a in
        let one = closed deep first a in
        let between = returned scope.synced one in
        let last = after_body deep 1 between b in
        let two = closed deep last b in
        let inside = before_inside scope.synced now.depth 1 (precedes_depth scope.synced now p) in
        let stays_one = stays_on scope first one (stays_body s deep 1 scope a v1) (stays_closed deep first a) in
        let stays_two = stays_on between last two (stays_body s deep 1 between b v2) (stays_closed deep last b) in
        let shallow_one : AllShallow now.depth between = λ x. shallow_block now.depth scope a x (l x) in
        let made_a = orderly_body deep 1 W scope a inside (λ x. deeper_too now.depth (look scope x) (l x)) covers v1 in
        let made_b = orderly_body deep 1 W between b inside (λ x. deeper_too now.depth (look between x) (shallow_one x)) (covers_stays W scope between stays_one refl covers) v2 in (
          (free_term s.tables scope W covers e r, (made_a.0, made_b.0)),
          branches_cover (waiting_body W a) (waiting_body W b) now scope.synced one two
              (covers_closed (waiting_body W a) deep first a made_a.1) (covers_closed (waiting_body W b) deep last b made_b.1) stays_two
              (λ x. shallow_block now.depth between b x (shallow_one x))
              (closed_sync deep scope.synced first a (synced_body deep 1 scope a)) (closed_sync deep scope.synced last b (synced_body deep 1 between b)),
        )
    orderly_deed now W scope (loop x e f grain g es) p l covers r v =
        let terms = terms_rules s.tables (bound now false scope x) es in
        let enters = enter_rules s.program g (length es) in
        let range = nil_left (range_rules s scope x e f) (terms ++ enters) r in
        let names = covers_stays W scope (bound now false scope x) (stays_bound now false scope x (loop_name s now scope x e f g es r)) (synced_bound now false scope x) covers in (
          (
            free_term s.tables scope W covers e (nil_left (term_rules s.tables scope e) (term_rules s.tables scope f ++ bind_rules scope x) range),
            (
              free_term s.tables scope W covers f (nil_left (term_rules s.tables scope f) (bind_rules scope x) (nil_right (term_rules s.tables scope e) (term_rules s.tables scope f ++ bind_rules scope x) range)),
              free_terms s.tables (bound now false scope x) W names es (nil_left terms enters (nil_right (range_rules s scope x e f) (terms ++ enters) r)),
            ),
          ),
          covers_stays W scope (looped scope x) (λ y h. looped_moves scope x y) (synced_looped scope x) covers,
        )
    orderly_deed now W scope (give e) p l covers r v = (free_term s.tables scope W covers e r, covers)

    orderly_body : (depth place : ℕ) (W : List ℕ) (scope : Scope) (b : Body) → precedes scope.synced (moment depth place) ≡ true → AllShallow depth scope → Covers W scope → body_violations s depth place scope b ≡ [] → IsOrderly W b × Covers (waiting_body W b) (after_body depth place scope b)
    orderly_body depth place W scope end p l covers v = (tt, covers)
    orderly_body depth place W scope (step n d rest) p l covers v =
        let now = moment depth place in
        let here = orderly_deed now W scope d p l covers (own_of s now scope d (first_deed s depth place scope n d rest v)) (inside_deed s depth place scope n d rest v) in
        let more = orderly_body depth (place + 1) (waiting_deed W d) (after_deed now scope d) rest (before_after depth place scope d p) (λ x. shallow_deed now scope d x (l x)) here.1 (later_deeds s depth place scope n d rest v) in
        ((here.0, more.0), more.1)

-- ---- the program

shallow_same : (n : ℕ) (k : Knowledge) → Shallow 0 (Some k) → (x : ℕ) → Shallow 0 (slice_get (replicate n k) x)
shallow_same zero k h x = tt
shallow_same (suc n) k h zero = h
shallow_same (suc n) k h (suc x) = shallow_same n k h x

shallow_append : (xs ys : List Knowledge) → ((x : ℕ) → Shallow 0 (slice_get xs x)) → ((x : ℕ) → Shallow 0 (slice_get ys x)) → (x : ℕ) → Shallow 0 (slice_get (xs ++ ys) x)
shallow_append [] ys f g x = g x
shallow_append (k ∷ xs) ys f g zero = f zero
shallow_append (k ∷ xs) ys f g (suc x) = shallow_append xs ys (λ y. f (suc y)) g x

begins_shallow : (parameters names : ℕ) → AllShallow 0 (scope_of parameters names)
begins_shallow parameters names =
    let n = min parameters names in
    shallow_append (replicate n (Known (moment 0 0) false)) (replicate (names - n) Unbound) (shallow_same n (Known (moment 0 0) false) (omega arith)) (shallow_same (names - n) Unbound tt)

pub uses_no_waiting_name : (ts : List Columned) (p : Program) → IsClean ts p → UsesNoWaitingName (tree p)
uses_no_waiting_name ts p clean f =
    let ds = p.declarations.items in
    let t = tree p in
    let v : decls_violations t ts 0 (map decl ds) (map lined ds) ≡ [] = nil_right (missing_main t) (decls_violations t ts 0 (map decl ds) (map lined ds)) clean in
    by_name t ts f (λ q. IsOrderly [] q.body) tt
    (λ q k. (orderly_body (setting_of t ts (k.clean.place + 1) q k.clean.lines) 0 1 [] (scope_of q.parameters (length q.names)) q.body refl (begins_shallow q.parameters (length q.names)) (λ x i. absurd i) k.clean.body).0)
    (λ q e. clean_procedure t ts 0 ds f q v e) (procedure_of t f) refl
