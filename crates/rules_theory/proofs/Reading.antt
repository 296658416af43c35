-- The rules on reads and on main: main alone reads, at its end, and nothing enters or records it.
use Rattle.std.proofs.Common.{◌≡◌, ℕ, ◌+◌, Bool, true, false, cond, not, ◌&&◌, ◌||◌, ◌==◌, nat_lt, List, [], ◌++◌, Option, Some, None, map, take, length, slice_get, option_map, refl, sym, ◌∙◌, add-one, lt-ltb, arith}
use Rattle.std.proofs.Math.Dec.{eqb-suc-zero}
use Rattle.std.specs.Str.{bytes_eq}
use Rattle.meaning.specs.declared.tree.Program.{Program}
use Rattle.meaning.specs.declared.tree.Way.TheVariants.{Call, Spawn}
use Rattle.meaning.specs.Tree.{Name, Deed, bind, enter, read, sync, update, choose, loop, give, Body, end, step, Proc, Tree}
use Rattle.meaning.specs.TreeView.{decl, lined, tree}
use Rattle.meaning.specs.Statements.{procedure_of, found}
use Rattle.meaning.specs.Tables.{is_there}
use Rattle.meaning.specs.Elision.{main}
use Rattle.linked_program.specs.declared.knowledge.Moment.{Moment}
use Rattle.linked_program.specs.declared.knowledge.Knowledge.TheVariants.{Ended, Known}
use Rattle.linked_program.specs.declared.violation.Rule.{Rule}
use Rattle.linked_program.specs.declared.violation.Rule.TheVariants.{Main, Read, Twice}
use Rattle.linked_program.specs.Violations.{when}
use Rattle.linked_program.specs.TableNames.{Columned}
use Rattle.linked_program.specs.Scope.{Scope, moment, is_known, told, bound, looped, after_spawn, passed, is_of, forgotten, closed_deed, closed, returned, after_deed, after_body, after_block, second, scope_of}
use Rattle.linked_program.specs.Rules.{Setting, terms_rules, target_rules, bind_rules, callee_rules, enter_rules, kind_of, kind_rules, late_rules, own_rules, range_rules, is_quiet, are_quiet}
use Rattle.linked_program.specs.Bodies.{body_violations, inner_violations}
use Rattle.linked_program.specs.Declarations.{IsClean, repeats, main_rules, setting_of, missing_main, decls_violations}
use Rattle.trail_theory.specs.Waiting.{NoReadsDeed, NoReads}
use Rattle.trail_theory.specs.ReadsAtEnd.{IsOther, EntersOnlyDeed, EntersOnly, IsPlainDeed, IsPlain, IsEnding, spawns_nothing_deed, spawns_nothing, ReadsAtEnd, ReadsAtMainsEnd}
use Rattle.linked_program.proofs.Quiet.{nil_left, nil_right, no_when}
use Rattle.rules_theory.proofs.Clean.{same_bytes, other_bytes, first_deed, inside_deed, later_deeds, IsNamed, clean_procedure}

-- ---- nothing enters main

enters_other : (t : Tree) (f : Name) (count : ℕ) → enter_rules t f count ≡ [] → IsOther f
enters_other t f count e =
    other_bytes f main (no_when (bytes_eq f main) Main (nil_right (callee_rules (option_map (λ p. p.parameters) (procedure_of t f)) count) (when (bytes_eq f main) Main) e))

module _ (s : Setting) where
  pub own_of : (now : Moment) (scope : Scope) (d : Deed) → late_rules (s.in_main && (now.depth == 0)) scope d ++ own_rules s now scope d ≡ [] → own_rules s now scope d ≡ []
  own_of now scope d e = nil_right (late_rules (s.in_main && (now.depth == 0)) scope d) (own_rules s now scope d) e

  -- what is entered keeps what the rules of entering give
  module _ (P : Name → Type 0) (entered : (f : Name) (count : ℕ) → enter_rules s.program f count ≡ [] → P f) where
    mutual
      enters_deed : (now : Moment) (scope : Scope) (d : Deed) → own_rules s now scope d ≡ [] → inner_violations s now scope d ≡ [] → EntersOnlyDeed P d
      enters_deed now scope (bind x e) r v = tt
      enters_deed now scope (enter x way f es) r v =
          entered f (length es) (nil_right (target_rules scope x) (enter_rules s.program f (length es)) (nil_right (terms_rules s.tables scope es) (target_rules scope x ++ enter_rules s.program f (length es)) r))
      enters_deed now scope (read x q) r v = tt
      enters_deed now scope sync r v = tt
      enters_deed now scope (update q es) r v = tt
      enters_deed now scope (choose e a b) r v =
          let one = body_violations s (now.depth + 1) 1 scope a in
          let two = body_violations s (now.depth + 1) 1 (second now scope a) b in
          (enters_body (now.depth + 1) 1 scope a (nil_left one two v), enters_body (now.depth + 1) 1 (second now scope a) b (nil_right one two v))
      enters_deed now scope (loop x e f grain g es) r v =
          let terms = terms_rules s.tables (bound now false scope x) es in
          let rules = enter_rules s.program g (length es) in
          entered g (length es) (nil_right terms rules (nil_right (range_rules s scope x e f) (terms ++ rules) r))
      enters_deed now scope (give e) r v = tt

      pub enters_body : (depth place : ℕ) (scope : Scope) (b : Body) → body_violations s depth place scope b ≡ [] → EntersOnly P b
      enters_body depth place scope end v = tt
      enters_body depth place scope (step n d rest) v = (
        enters_deed (moment depth place) scope d (own_of (moment depth place) scope d (first_deed s depth place scope n d rest v)) (inside_deed s depth place scope n d rest v),
        enters_body depth (place + 1) (after_deed (moment depth place) scope d) rest (later_deeds s depth place scope n d rest v),
      )

-- ---- no reads elsewhere than in main's outermost block

deeper : (b : Bool) (depth : ℕ) → (b && (depth + 1 == 0)) ≡ false
deeper true depth = rw add-one (eqb-suc-zero depth)
deeper false depth = refl

no_read : (here : Bool) (scope : Scope) (bs ks : List Rule) → here ≡ false → bs ++ (ks ++ when (not here || scope.spawned) Read) ≡ [] → ⊥
no_read true scope bs ks h e = cc
no_read false scope bs ks h e = let q = no_when true Read (nil_right ks (when true Read) (nil_right bs (ks ++ when true Read) e)) in cc

module _ (s : Setting) where
  mutual
    unread_deed : (now : Moment) (scope : Scope) (d : Deed) → (s.in_main && (now.depth == 0)) ≡ false → own_rules s now scope d ≡ [] → inner_violations s now scope d ≡ [] → NoReadsDeed d
    unread_deed now scope (bind x e) h r v = tt
    unread_deed now scope (enter x way f es) h r v = tt
    unread_deed now scope (read x q) h r v = absurd (no_read (s.in_main && (now.depth == 0)) scope (bind_rules scope x) (kind_rules (kind_of s.program q)) h r)
    unread_deed now scope sync h r v = tt
    unread_deed now scope (update q es) h r v = tt
    unread_deed now scope (choose e a b) h r v =
        let one = body_violations s (now.depth + 1) 1 scope a in
        let two = body_violations s (now.depth + 1) 1 (second now scope a) b in
        (unread_body (now.depth + 1) 1 scope a (deeper s.in_main now.depth) (nil_left one two v), unread_body (now.depth + 1) 1 (second now scope a) b (deeper s.in_main now.depth) (nil_right one two v))
    unread_deed now scope (loop x e f grain g es) h r v = tt
    unread_deed now scope (give e) h r v = tt

    unread_body : (depth place : ℕ) (scope : Scope) (b : Body) → (s.in_main && (depth == 0)) ≡ false → body_violations s depth place scope b ≡ [] → NoReads b
    unread_body depth place scope end h v = tt
    unread_body depth place scope (step n d rest) h v = (
      unread_deed (moment depth place) scope d h (own_of s (moment depth place) scope d (first_deed s depth place scope n d rest v)) (inside_deed s depth place scope n d rest v),
      unread_body depth (place + 1) (after_deed (moment depth place) scope d) rest h (later_deeds s depth place scope n d rest v),
    )

inner_unread : (s : Setting) (now : Moment) (scope : Scope) (a b : Body) → body_violations s (now.depth + 1) 1 scope a ++ body_violations s (now.depth + 1) 1 (second now scope a) b ≡ [] → NoReads a × NoReads b
inner_unread s now scope a b v =
    let one = body_violations s (now.depth + 1) 1 scope a in
    let two = body_violations s (now.depth + 1) 1 (second now scope a) b in
    (unread_body s (now.depth + 1) 1 scope a (deeper s.in_main now.depth) (nil_left one two v), unread_body s (now.depth + 1) 1 (second now scope a) b (deeper s.in_main now.depth) (nil_right one two v))

-- ---- what a scope keeps of spawns

both_true : (b c : Bool) → b ≡ true → c ≡ true → (b && c) ≡ true
both_true true c e f = f
both_true false c e f = e

left_true : (b c : Bool) → (b && c) ≡ true → b ≡ true
left_true true c e = refl
left_true false c e = e

right_true : (b c : Bool) → (b && c) ≡ true → c ≡ true
right_true true c e = e
right_true false c e = cc

left_false : (b c : Bool) → c ≡ true → (b && c) ≡ false → b ≡ false
left_false true c h e = cc
left_false false c h e = refl

either_spawned : (k : Bool) (s t : Scope) (b : Bool) → s.spawned ≡ b → t.spawned ≡ b → (cond k s t).spawned ≡ b
either_spawned true s t b e f = e
either_spawned false s t b e f = f

bound_spawned : (now : Moment) (b : Bool) (scope : Scope) (x : ℕ) → (bound now b scope x).spawned ≡ scope.spawned
bound_spawned now b scope x = either_spawned (is_known (slice_get scope.names x)) scope (told scope x (Known now b)) scope.spawned refl refl

looped_spawned : (scope : Scope) (x : ℕ) → (looped scope x).spawned ≡ scope.spawned
looped_spawned scope x = either_spawned (is_known (slice_get scope.names x)) scope (told scope x Ended) scope.spawned refl refl

forgotten_spawned : (depth : ℕ) (scope : Scope) (x : ℕ) → (forgotten depth scope x).spawned ≡ scope.spawned
forgotten_spawned depth scope x = either_spawned (is_of depth (slice_get scope.names x)) (told scope x Ended) scope scope.spawned refl refl

closed_deed_spawned : (depth : ℕ) (scope : Scope) (d : Deed) → (closed_deed depth scope d).spawned ≡ scope.spawned
closed_deed_spawned depth scope (bind x e) = forgotten_spawned depth scope x
closed_deed_spawned depth scope (enter None way f es) = refl
closed_deed_spawned depth scope (enter (Some x) way f es) = forgotten_spawned depth scope x
closed_deed_spawned depth scope (read x r) = forgotten_spawned depth scope x
closed_deed_spawned depth scope sync = refl
closed_deed_spawned depth scope (update r es) = refl
closed_deed_spawned depth scope (choose e a b) = refl
closed_deed_spawned depth scope (loop x e f grain g es) = refl
closed_deed_spawned depth scope (give e) = refl

closed_spawned : (depth : ℕ) (scope : Scope) (b : Body) → (closed depth scope b).spawned ≡ scope.spawned
closed_spawned depth scope end = refl
closed_spawned depth scope (step n d rest) = closed_spawned depth (closed_deed depth scope d) rest ∙ closed_deed_spawned depth scope d

inside : (depth : ℕ) → nat_lt 0 (depth + 1) ≡ true
inside depth = lt-ltb 0 (depth + 1) (omega arith)

-- in a block inside nothing but the absence of spawns leaves none behind
mutual
  calm_deed : (now : Moment) (scope : Scope) (d : Deed) → nat_lt 0 now.depth ≡ true → (after_deed now scope d).spawned ≡ false → (scope.spawned ≡ false) × (spawns_nothing_deed d ≡ true)
  calm_deed now scope (bind x e) i h = (sym (bound_spawned now false scope x) ∙ h, refl)
  calm_deed now scope (enter None Call f es) i h = (h, refl)
  calm_deed now scope (enter (Some x) Call f es) i h = (sym (bound_spawned now false scope x) ∙ h, refl)
  calm_deed now scope (enter None Spawn f es) i h = cc
  calm_deed now scope (enter (Some x) Spawn f es) i h = let q : true ≡ false = sym (bound_spawned now true (after_spawn scope) x) ∙ h in cc
  calm_deed now scope (read x r) i h = (sym (bound_spawned now false scope x) ∙ h, refl)
  calm_deed now scope sync i h = (left_false scope.spawned (nat_lt 0 now.depth) i h, refl)
  calm_deed now scope (update r es) i h = (h, refl)
  calm_deed now scope (choose e a b) i h =
      let deep = now.depth + 1 in
      let between = returned scope.synced (after_block deep scope a) in
      let two = calm_body deep 1 between b (inside now.depth) (sym (closed_spawned deep (after_body deep 1 between b) b) ∙ h) in
      let one = calm_body deep 1 scope a (inside now.depth) (sym (closed_spawned deep (after_body deep 1 scope a) a) ∙ two.0) in
      (one.0, both_true (spawns_nothing a) (spawns_nothing b) one.1 two.1)
  calm_deed now scope (loop x e f grain g es) i h = (sym (looped_spawned scope x) ∙ h, refl)
  calm_deed now scope (give e) i h = (h, refl)

  calm_body : (depth place : ℕ) (scope : Scope) (b : Body) → nat_lt 0 depth ≡ true → (after_body depth place scope b).spawned ≡ false → (scope.spawned ≡ false) × (spawns_nothing b ≡ true)
  calm_body depth place scope end i h = (h, refl)
  calm_body depth place scope (step n d rest) i h =
      let later = calm_body depth (place + 1) (after_deed (moment depth place) scope d) rest i h in
      let here = calm_deed (moment depth place) scope d i later.0 in
      (here.0, both_true (spawns_nothing_deed d) (spawns_nothing rest) here.1 later.1)

calm_branches : (now : Moment) (scope : Scope) (a b : Body) → (after_block (now.depth + 1) (returned scope.synced (after_block (now.depth + 1) scope a)) b).spawned ≡ false → (scope.spawned ≡ false) × ((spawns_nothing a && spawns_nothing b) ≡ true)
calm_branches now scope a b h =
    let deep = now.depth + 1 in
    let between = returned scope.synced (after_block deep scope a) in
    let two = calm_body deep 1 between b (inside now.depth) (sym (closed_spawned deep (after_body deep 1 between b) b) ∙ h) in
    let one = calm_body deep 1 scope a (inside now.depth) (sym (closed_spawned deep (after_body deep 1 scope a) a) ∙ two.0) in
    (one.0, both_true (spawns_nothing a) (spawns_nothing b) one.1 two.1)

-- ---- what a scope keeps of reads

either_read : (k : Bool) (s t : Scope) → s.read ≡ true → t.read ≡ true → (cond k s t).read ≡ true
either_read true s t e f = e
either_read false s t e f = f

or_true : (b c : Bool) → b ≡ true → (b || c) ≡ true
or_true true c e = refl
or_true false c e = cc

right_or : (b : Bool) → (b || (0 == 0)) ≡ true
right_or true = refl
right_or false = refl

bound_read : (now : Moment) (b : Bool) (scope : Scope) (x : ℕ) → scope.read ≡ true → (bound now b scope x).read ≡ true
bound_read now b scope x h = either_read (is_known (slice_get scope.names x)) scope (told scope x (Known now b)) h h

forgotten_read : (depth : ℕ) (scope : Scope) (x : ℕ) → scope.read ≡ true → (forgotten depth scope x).read ≡ true
forgotten_read depth scope x h = either_read (is_of depth (slice_get scope.names x)) (told scope x Ended) scope h h

closed_deed_read : (depth : ℕ) (scope : Scope) (d : Deed) → scope.read ≡ true → (closed_deed depth scope d).read ≡ true
closed_deed_read depth scope (bind x e) h = forgotten_read depth scope x h
closed_deed_read depth scope (enter None way f es) h = h
closed_deed_read depth scope (enter (Some x) way f es) h = forgotten_read depth scope x h
closed_deed_read depth scope (read x r) h = forgotten_read depth scope x h
closed_deed_read depth scope sync h = h
closed_deed_read depth scope (update r es) h = h
closed_deed_read depth scope (choose e a b) h = h
closed_deed_read depth scope (loop x e f grain g es) h = h
closed_deed_read depth scope (give e) h = h

closed_read : (depth : ℕ) (scope : Scope) (b : Body) → scope.read ≡ true → (closed depth scope b).read ≡ true
closed_read depth scope end h = h
closed_read depth scope (step n d rest) h = closed_read depth (closed_deed depth scope d) rest (closed_deed_read depth scope d h)

mutual
  deed_read : (now : Moment) (scope : Scope) (d : Deed) → scope.read ≡ true → (after_deed now scope d).read ≡ true
  deed_read now scope (bind x e) h = bound_read now false scope x h
  deed_read now scope (enter None Call f es) h = h
  deed_read now scope (enter (Some x) Call f es) h = bound_read now false scope x h
  deed_read now scope (enter None Spawn f es) h = h
  deed_read now scope (enter (Some x) Spawn f es) h = bound_read now true (after_spawn scope) x h
  deed_read now scope (read x r) h = or_true (bound now false scope x).read (now.depth == 0) (bound_read now false scope x h)
  deed_read now scope sync h = h
  deed_read now scope (update r es) h = h
  deed_read now scope (choose e a b) h =
      let deep = now.depth + 1 in
      let between = returned scope.synced (after_block deep scope a) in
      closed_read deep (after_body deep 1 between b) b (body_read deep 1 between b (closed_read deep (after_body deep 1 scope a) a (body_read deep 1 scope a h)))
  deed_read now scope (loop x e f grain g es) h = either_read (is_known (slice_get scope.names x)) scope (told scope x Ended) h h
  deed_read now scope (give e) h = h

  body_read : (depth place : ℕ) (scope : Scope) (b : Body) → scope.read ≡ true → (after_body depth place scope b).read ≡ true
  body_read depth place scope end h = h
  body_read depth place scope (step n d rest) h = body_read depth (place + 1) (after_deed (moment depth place) scope d) rest (deed_read (moment depth place) scope d h)

-- ---- after a read

mutual
  plain_deed : (d : Deed) → is_quiet d ≡ true → NoReadsDeed d → IsPlainDeed d
  plain_deed (bind x e) q h = tt
  plain_deed (enter x way f es) q h = cc
  plain_deed (read x r) q h = h
  plain_deed sync q h = cc
  plain_deed (update r es) q h = cc
  plain_deed (choose e a b) q h = (plain_body a (left_true (are_quiet a) (are_quiet b) q) h.0, plain_body b (right_true (are_quiet a) (are_quiet b) q) h.1)
  plain_deed (loop x e f grain g es) q h = cc
  plain_deed (give e) q h = tt

  plain_body : (b : Body) → are_quiet b ≡ true → NoReads b → IsPlain b
  plain_body end q h = tt
  plain_body (step n d rest) q h = (plain_deed d (left_true (is_quiet d) (are_quiet rest) q) h.0, plain_body rest (right_true (is_quiet d) (are_quiet rest) q) h.1)

quiet_from : (h r q : Bool) → h ≡ true → r ≡ true → ((h && r) && not q) ≡ false → q ≡ true
quiet_from true true true e f g = refl
quiet_from true true false e f g = cc
quiet_from true false q e f g = cc
quiet_from false r q e f g = cc

module _ (s : Setting) (here : (s.in_main && (0 == 0)) ≡ true) where
  plain_late : (place : ℕ) (scope : Scope) (n : ℕ) (d : Deed) (rest : Body) → scope.read ≡ true → body_violations s 0 place scope (step n d rest) ≡ [] → NoReadsDeed d → IsPlainDeed d
  plain_late place scope n d rest r v unread =
      let main_here = s.in_main && (0 == 0) in
      let late = no_when ((main_here && scope.read) && not (is_quiet d)) Read (nil_left (late_rules main_here scope d) (own_rules s (moment 0 place) scope d) (first_deed s 0 place scope n d rest v)) in
      plain_deed d (quiet_from main_here scope.read (is_quiet d) here r late) unread

  ending : (place : ℕ) (scope : Scope) (b : Body) → scope.read ≡ true → body_violations s 0 place scope b ≡ [] → IsEnding b
  ending place scope end r v = tt
  ending place scope (step n (bind x e) rest) r v = (plain_late place scope n (bind x e) rest r v tt, ending (place + 1) (after_deed (moment 0 place) scope (bind x e)) rest (deed_read (moment 0 place) scope (bind x e) r) (later_deeds s 0 place scope n (bind x e) rest v))
  ending place scope (step n (enter x way f es) rest) r v = absurd (plain_late place scope n (enter x way f es) rest r v tt)
  ending place scope (step n (read x q) rest) r v = ending (place + 1) (after_deed (moment 0 place) scope (read x q)) rest (deed_read (moment 0 place) scope (read x q) r) (later_deeds s 0 place scope n (read x q) rest v)
  ending place scope (step n sync rest) r v = absurd (plain_late place scope n sync rest r v tt)
  ending place scope (step n (update q es) rest) r v = absurd (plain_late place scope n (update q es) rest r v tt)
  ending place scope (step n (choose e a b) rest) r v = (
    plain_late place scope n (choose e a b) rest r v (inner_unread s (moment 0 place) scope a b (inside_deed s 0 place scope n (choose e a b) rest v)),
    ending (place + 1) (after_deed (moment 0 place) scope (choose e a b)) rest (deed_read (moment 0 place) scope (choose e a b) r) (later_deeds s 0 place scope n (choose e a b) rest v),
  )
  ending place scope (step n (loop x e f grain g es) rest) r v = absurd (plain_late place scope n (loop x e f grain g es) rest r v tt)
  ending place scope (step n (give e) rest) r v = (plain_late place scope n (give e) rest r v tt, ending (place + 1) (after_deed (moment 0 place) scope (give e)) rest (deed_read (moment 0 place) scope (give e) r) (later_deeds s 0 place scope n (give e) rest v))

  -- ---- main's outermost block

  no_spawn_before : (scope : Scope) (bs ks : List Rule) → bs ++ (ks ++ when (not (s.in_main && (0 == 0)) || scope.spawned) Read) ≡ [] → scope.spawned ≡ false
  no_spawn_before scope bs ks e =
      let rule = when (not (s.in_main && (0 == 0)) || scope.spawned) Read in
      rw here at (no_when (not (s.in_main && (0 == 0)) || scope.spawned) Read (nil_right ks rule (nil_right bs (ks ++ rule) e)))

  still : (synced b : Bool) (was now : Bool) → (was ≡ false → synced ≡ true) → now ≡ was → b ≡ true → now ≡ false → (synced && b) ≡ true
  still synced b was now h e f g = both_true synced b (h (sym e ∙ g)) f

  at_end : (place : ℕ) (scope : Scope) (synced : Bool) (b : Body) → (scope.spawned ≡ false → synced ≡ true) → body_violations s 0 place scope b ≡ [] → ReadsAtEnd synced b
  at_end place scope synced end h v = tt
  at_end place scope synced (step n (bind x e) rest) h v =
      (tt, at_end (place + 1) (bound (moment 0 place) false scope x) (synced && true) rest (still synced true scope.spawned (bound (moment 0 place) false scope x).spawned h (bound_spawned (moment 0 place) false scope x) refl) (later_deeds s 0 place scope n (bind x e) rest v))
  at_end place scope synced (step n (enter None Call f es) rest) h v =
      (tt, at_end (place + 1) scope (synced && true) rest (still synced true scope.spawned scope.spawned h refl refl) (later_deeds s 0 place scope n (enter None Call f es) rest v))
  at_end place scope synced (step n (enter (Some x) Call f es) rest) h v =
      (tt, at_end (place + 1) (bound (moment 0 place) false scope x) (synced && true) rest (still synced true scope.spawned (bound (moment 0 place) false scope x).spawned h (bound_spawned (moment 0 place) false scope x) refl) (later_deeds s 0 place scope n (enter (Some x) Call f es) rest v))
  at_end place scope synced (step n (enter None Spawn f es) rest) h v =
      (tt, at_end (place + 1) (after_spawn scope) (synced && false) rest (λ e. absurd cc) (later_deeds s 0 place scope n (enter None Spawn f es) rest v))
  at_end place scope synced (step n (enter (Some x) Spawn f es) rest) h v =
      (tt, at_end (place + 1) (bound (moment 0 place) true (after_spawn scope) x) (synced && false) rest (λ e. let q : true ≡ false = sym (bound_spawned (moment 0 place) true (after_spawn scope) x) ∙ e in absurd cc) (later_deeds s 0 place scope n (enter (Some x) Spawn f es) rest v))
  at_end place scope synced (step n (read x q) rest) h v = (
    h (no_spawn_before scope (bind_rules scope x) (kind_rules (kind_of s.program q)) (own_of s (moment 0 place) scope (read x q) (first_deed s 0 place scope n (read x q) rest v))),
    ending (place + 1) (after_deed (moment 0 place) scope (read x q)) rest (right_or (bound (moment 0 place) false scope x).read) (later_deeds s 0 place scope n (read x q) rest v),
  )
  at_end place scope synced (step n sync rest) h v = at_end (place + 1) (passed (moment 0 place) scope) true rest (λ e. refl) (later_deeds s 0 place scope n sync rest v)
  at_end place scope synced (step n (update q es) rest) h v =
      (tt, at_end (place + 1) scope (synced && true) rest (still synced true scope.spawned scope.spawned h refl refl) (later_deeds s 0 place scope n (update q es) rest v))
  at_end place scope synced (step n (choose e a b) rest) h v =
      let now = moment 0 place in (
        inner_unread s now scope a b (inside_deed s 0 place scope n (choose e a b) rest v),
        at_end (place + 1) (after_deed now scope (choose e a b)) (synced && (spawns_nothing a && spawns_nothing b)) rest
            (λ e. let calm = calm_branches now scope a b e in both_true synced (spawns_nothing a && spawns_nothing b) (h calm.0) calm.1) (later_deeds s 0 place scope n (choose e a b) rest v),
      )
  at_end place scope synced (step n (loop x e f grain g es) rest) h v =
      (tt, at_end (place + 1) (looped scope x) (synced && true) rest (still synced true scope.spawned (looped scope x).spawned h (looped_spawned scope x) refl) (later_deeds s 0 place scope n (loop x e f grain g es) rest v))
  at_end place scope synced (step n (give e) rest) h v =
      (tt, at_end (place + 1) scope (synced && true) rest (still synced true scope.spawned scope.spawned h refl refl) (later_deeds s 0 place scope n (give e) rest v))

-- ---- the program

not_recorded : (c m z : Bool) → c ≡ true → (c && (m || z)) ≡ false → m ≡ false
not_recorded true true z e f = cc
not_recorded true false z e f = refl
not_recorded false m z e f = cc

pub by_name : (t : Tree) (ts : List Columned) (f : Name) (P : Proc → Type 0) → P (found None) → ((p : Proc) → IsNamed t ts f p → P p) → ((p : Proc) → procedure_of t f ≡ Some p → IsNamed t ts f p) → (o : Option Proc) → procedure_of t f ≡ o → P (found o)
by_name t ts f P none some clean None e = none
by_name t ts f P none some clean (Some p) e = some p (clean p e)

of_main : (p : Proc) → bytes_eq p.called main ≡ true → (bytes_eq p.called main && (0 == 0)) ≡ true
of_main p e = rw e refl

not_of_main : (p : Proc) (f : Name) → bytes_eq p.called f ≡ true → IsOther f → (bytes_eq p.called main && (0 == 0)) ≡ false
not_of_main p f e other = at (bytes_eq p.called main) refl
  where
    at : (b : Bool) → bytes_eq p.called main ≡ b → (b && (0 == 0)) ≡ false
    at true q = absurd (other (sym (same_bytes p.called f e) ∙ same_bytes p.called main q))
    at false q = refl

pub main_reads_at_its_end : (ts : List Columned) (p : Program) → IsClean ts p → ReadsAtMainsEnd (tree p)
main_reads_at_its_end ts p clean =
    let ds = p.declarations.items in
    let t = tree p in
    let v : decls_violations t ts 0 (map decl ds) (map lined ds) ≡ [] = nil_right (missing_main t) (decls_violations t ts 0 (map decl ds) (map lined ds)) clean in
    let named : (f : Name) (q : Proc) → procedure_of t f ≡ Some q → IsNamed t ts f q = λ f q e. clean_procedure t ts 0 ds f q v e in
    record {
      in_main = by_name t ts main (λ q. ReadsAtEnd true q.body) tt
          (λ q k. at_end (setting_of t ts (k.clean.place + 1) q k.clean.lines) (of_main q k.named) 1 (scope_of q.parameters (length q.names)) true q.body (λ e. refl) k.clean.body) (named main) (procedure_of t main) refl;
      elsewhere = λ f other. by_name t ts f (λ q. NoReads q.body) tt
          (λ q k. unread_body (setting_of t ts (k.clean.place + 1) q k.clean.lines) 0 1 (scope_of q.parameters (length q.names)) q.body (not_of_main q f k.named other) k.clean.body) (named f) (procedure_of t f) refl;
      alone = λ f. by_name t ts f (λ q. EntersOnly IsOther q.body) tt
          (λ q k. enters_body (setting_of t ts (k.clean.place + 1) q k.clean.lines) IsOther (enters_other t) 0 1 (scope_of q.parameters (length q.names)) q.body k.clean.body) (named f) (procedure_of t f) refl;
      unrecorded = by_name t ts main (λ q. q.memo ≡ false) refl
          (λ q k.
          let twice = when (is_there (procedure_of (take k.clean.place t) q.called)) Twice in
          let again = when (repeats (take q.parameters q.names)) Twice in
          not_recorded (bytes_eq q.called main) q.memo (nat_lt 0 q.parameters) k.named (no_when (bytes_eq q.called main && (q.memo || nat_lt 0 q.parameters)) Main (nil_right again (main_rules q) (nil_right twice (again ++ main_rules q) k.clean.head)))) (named main) (procedure_of t main) refl;
    }
