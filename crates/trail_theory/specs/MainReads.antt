-- Where a strand's instances stand among the reads of main.
use Rattle.std.specs.Prelude.{◌≡◌, ◌⊎◌, Bool, true, false, ◌&&◌, List, [], ◌∷◌}
use Rattle.meaning.specs.Tree.{Body}
use Rattle.meaning.specs.Elision.{main}
use Rattle.meaning.specs.Outcome.{Log, Event, Place, Reads, Enters, Updates, Reuses, Begins, Syncs, Leaves, Faults, Marks, Spawns}
use Rattle.meaning.specs.SmallStep.{Todo, blocks, halves, second, turns, Child, instance, half, Phase, entering, running, spawning}
use Rattle.meaning.specs.SmallStep.{returning, leaving, broken, Parent}
use Rattle.trail_theory.specs.Order.{Every}
use Rattle.trail_theory.specs.Waiting.{NoReads}
use Rattle.trail_theory.specs.ReadsAtEnd.{IsOther, EntersOnly, spawns_nothing, ReadsAtEnd}

-- whether a sync of main stands behind each spawn of main
abbrev pub synced_one : Bool → Event → Bool
synced_one b (Syncs []) = true
synced_one b (Syncs (j ∷ n)) = b
synced_one b (Spawns []) = b
synced_one b (Spawns (j ∷ [])) = false
synced_one b (Spawns (i ∷ j ∷ n)) = b
synced_one b (Reads r) = b
synced_one b (Enters f args d) = b
synced_one b (Updates n kind w) = b
synced_one b (Reuses f args ws) = b
synced_one b (Begins n d) = b
synced_one b (Leaves n v) = b
synced_one b (Faults k) = b
synced_one b (Marks f args c) = b

abbrev pub synced_after : Bool → Log → Bool
synced_after b [] = b
synced_after b (e ∷ es) = synced_after (synced_one b e) es

-- main has no spawned child without a sync
abbrev pub IsSynced : Log → Type 0
IsSynced done = synced_after true done ≡ true

-- a block that reads nothing and doesn't enter main
abbrev pub IsQuiet : Body → Type 0
IsQuiet b = NoReads b × EntersOnly IsOther b

abbrev pub IsQuietTodo : Todo → Type 0
IsQuietTodo (blocks bs) = Every IsQuiet bs
IsQuietTodo (halves k job count i) = IsOther job.callee
IsQuietTodo (second k job count i) = IsOther job.callee
IsQuietTodo (turns job count i) = IsOther job.callee

-- the blocks that main has left, the outermost last: it alone reads
abbrev pub ReadBlocks : Bool → List Body → Type 0
ReadBlocks synced [] = Unit {0}
ReadBlocks synced (b ∷ []) = ReadsAtEnd synced b × EntersOnly IsOther b
ReadBlocks synced (b ∷ c ∷ bs) = IsQuiet b × ReadBlocks (synced && spawns_nothing b) (c ∷ bs)

abbrev pub ReadTodo : Bool → Todo → Type 0
ReadTodo synced (blocks bs) = ReadBlocks synced bs
ReadTodo synced (halves k job count i) = ⊥
ReadTodo synced (second k job count i) = ⊥
ReadTodo synced (turns job count i) = ⊥

abbrev pub IsNotMain : Place → Type 0
IsNotMain n = n ≡ [] → ⊥

-- an instance with so much left to do, where the serial run has come so far
pub data TodoReads (done : Log) (n : Place) (todo : Todo) : Type 0 where
  of_other : IsNotMain n → IsQuietTodo todo → TodoReads done n todo
  of_main : n ≡ [] → (synced : Bool) → ReadTodo synced todo → (synced ≡ true → IsSynced done) → TodoReads done n todo

-- after a spawn
pub data SpawnedReads (n : Place) (todo : Todo) : Type 0 where
  past_other : IsNotMain n → IsQuietTodo todo → SpawnedReads n todo
  past_main : n ≡ [] → ReadTodo false todo → SpawnedReads n todo

abbrev pub IsOtherChild : Child → Type 0
IsOtherChild (instance f vs) = IsOther f
IsOtherChild (half k job count i) = IsOther job.callee

abbrev pub ChildReads : Log → Place → Child → Type 0
ChildReads done n (instance f vs) = IsNotMain n × IsOther f ⊎ (n ≡ []) × ((f ≡ main) × IsSynced done)
ChildReads done n (half k job count i) = IsNotMain n × IsOther job.callee

abbrev pub PhaseReads : Log → Place → Phase → Type 0
PhaseReads done n (entering child) = ChildReads done n child
PhaseReads done n (running todo) = TodoReads done n todo
PhaseReads done n (spawning d x child todo) = IsOtherChild child × SpawnedReads n todo
PhaseReads done n (returning v) = Unit {0}
PhaseReads done n (leaving v) = Unit {0}
PhaseReads done n (broken k) = Unit {0}

abbrev pub UnderReads : Log → List Parent → Type 0
UnderReads done t = Every (λ p. TodoReads done p.frame.instance p.todo) t

abbrev pub TaskReads : Log → Place → Phase → List Parent → Type 0
TaskReads done n ph t = PhaseReads done n ph × UnderReads done t
