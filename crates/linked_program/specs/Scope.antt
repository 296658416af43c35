-- What is known of a procedure's variables at a statement, and what a statement changes of it.
use Rattle.std.specs.Prelude.{ℕ, ◌+◌, ◌-◌, Bool, true, false, cond, ◌==◌, ◌&&◌, ◌||◌, nat_lt, min, List, ◌++◌, Option, Some, None}
use Rattle.std.specs.Prelude.{replicate, slice_get, slice_set}
use Rattle.meaning.specs.declared.tree.Way.{Way}
use Rattle.meaning.specs.declared.tree.Way.TheVariants.{Call, Spawn}
use Rattle.meaning.specs.Tree.{Deed, bind, enter, read, sync, update, choose, loop, give, Body, end, step}
use Rattle.linked_program.specs.declared.knowledge.Moment.{Moment}
use Rattle.linked_program.specs.declared.knowledge.Knowledge.{Knowledge}
use Rattle.linked_program.specs.declared.knowledge.Knowledge.TheVariants.{Unbound, Ended, Known}

-- what is known of each variable; the last sync that is passed on every way to the statement;
-- whether a spawn stands before with no sync of the outermost block since; whether the outermost block has a read before
pub record Scope : Type 0 where
  pub names : List Knowledge
  pub synced : Moment
  pub spawned : Bool
  pub read : Bool

abbrev pub moment : ℕ → ℕ → Moment
moment depth place = record { depth = depth; place = place }

-- of two moments on the way to a statement, the deeper one is the later, as in a block the one further on
abbrev pub precedes : Moment → Moment → Bool
precedes a b = nat_lt a.depth b.depth || ((a.depth == b.depth) && nat_lt a.place b.place)

-- a procedure's parameters are known from its beginning
abbrev pub scope_of : ℕ → ℕ → Scope
scope_of parameters names = record {
  names = replicate (min parameters names) (Known (moment 0 0) false) ++ replicate (names - min parameters names) Unbound;
  synced = moment 0 0;
  spawned = false;
  read = false;
}

abbrev pub is_known : Option Knowledge → Bool
is_known (Some (Known since spawned)) = true
is_known _ = false

-- is or was bound
abbrev pub is_bound : Option Knowledge → Bool
is_bound (Some (Known since spawned)) = true
is_bound (Some Ended) = true
is_bound _ = false

-- waits for a sync: bound by a spawn, with no sync since
abbrev pub waits : Moment → Option Knowledge → Bool
waits synced (Some (Known since spawned)) = spawned && precedes synced since
waits synced _ = false

abbrev pub told : Scope → ℕ → Knowledge → Scope
told scope x k = record { names = slice_set scope.names x k; synced = scope.synced; spawned = scope.spawned; read = scope.read }

-- a variable is bound; one that is known already stays as it is
abbrev pub bound : Moment → Bool → Scope → ℕ → Scope
bound now spawned scope x = cond (is_known (slice_get scope.names x)) scope (told scope x (Known now spawned))

-- a loop's variable is known in the loop's arguments alone
abbrev pub looped : Scope → ℕ → Scope
looped scope x = cond (is_known (slice_get scope.names x)) scope (told scope x Ended)

abbrev pub after_spawn : Scope → Scope
after_spawn scope = record { names = scope.names; synced = scope.synced; spawned = true; read = scope.read }

abbrev pub entered : Moment → Scope → Option ℕ → Way → Scope
entered now scope None Call = scope
entered now scope (Some x) Call = bound now false scope x
entered now scope None Spawn = after_spawn scope
entered now scope (Some x) Spawn = bound now true (after_spawn scope) x

abbrev pub has_read : Moment → Scope → Scope
has_read now scope = record { names = scope.names; synced = scope.synced; spawned = scope.spawned; read = scope.read || (now.depth == 0) }

abbrev pub passed : Moment → Scope → Scope
passed now scope = record { names = scope.names; synced = now; spawned = scope.spawned && nat_lt 0 now.depth; read = scope.read }

-- ---- blocks inside

-- bound in the block of this depth
abbrev pub is_of : ℕ → Option Knowledge → Bool
is_of depth (Some (Known since spawned)) = since.depth == depth
is_of depth _ = false

abbrev pub forgotten : ℕ → Scope → ℕ → Scope
forgotten depth scope x = cond (is_of depth (slice_get scope.names x)) (told scope x Ended) scope

abbrev pub forgotten_target : ℕ → Scope → Option ℕ → Scope
forgotten_target depth scope None = scope
forgotten_target depth scope (Some x) = forgotten depth scope x

abbrev pub closed_deed : ℕ → Scope → Deed → Scope
closed_deed depth scope (bind x e) = forgotten depth scope x
closed_deed depth scope (enter x way f es) = forgotten_target depth scope x
closed_deed depth scope (read x r) = forgotten depth scope x
closed_deed depth scope _ = scope

-- at the end of a block the variables that it bound aren't seen any more
abbrev pub closed : ℕ → Scope → Body → Scope
closed depth scope end = scope
closed depth scope (step n d rest) = closed depth (closed_deed depth scope d) rest

-- the second branch begins with the last sync before the statement
abbrev pub returned : Moment → Scope → Scope
returned synced scope = record { names = scope.names; synced = synced; spawned = scope.spawned; read = scope.read }

-- a sync is passed on every way where it is passed in both branches: `first` is the last one at the end of the first branch
abbrev pub joined : Moment → Moment → Moment → Scope → Scope
joined now before first scope = returned (cond (precedes before first && precedes before scope.synced) now before) scope

-- after two branches, by what each changes: a name waits where it does at the end of either
abbrev pub branched : Moment → Scope → (Scope → Scope) → (Scope → Scope) → Scope
branched now scope one two = joined now scope.synced (one scope).synced (two (returned scope.synced (one scope)))

abbrev mutual
  pub after_deed : Moment → Scope → Deed → Scope
  after_deed now scope (bind x e) = bound now false scope x
  after_deed now scope (enter x way f es) = entered now scope x way
  after_deed now scope (read x r) = has_read now (bound now false scope x)
  after_deed now scope sync = passed now scope
  after_deed now scope (update r es) = scope
  after_deed now scope (choose e a b) =
      branched now scope (λ s. closed (now.depth + 1) (after_body (now.depth + 1) 1 s a) a) (λ s. closed (now.depth + 1) (after_body (now.depth + 1) 1 s b) b)
  after_deed now scope (loop x e f grain g es) = looped scope x
  after_deed now scope (give e) = scope

  -- what is known after the statements of a block, of which the first has this place
  pub after_body : ℕ → ℕ → Scope → Body → Scope
  after_body depth place scope end = scope
  after_body depth place scope (step n d rest) = after_body depth (place + 1) (after_deed (moment depth place) scope d) rest

-- what is known after a block inside
abbrev pub after_block : ℕ → Scope → Body → Scope
after_block depth scope b = closed depth (after_body depth 1 scope b) b

-- what is known where the second branch begins
abbrev pub second : Moment → Scope → Body → Scope
second now scope a = returned scope.synced (after_block (now.depth + 1) scope a)

-- what is known after an `if`
abbrev pub after_branches : Moment → Scope → Body → Body → Scope
after_branches now scope a b = branched now scope (λ s. after_block (now.depth + 1) s a) (λ s. after_block (now.depth + 1) s b)
