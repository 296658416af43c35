-- What is left to do of an instance, of those that wait below it, and of the continuations behind it, done serially.
use Rattle.std.specs.Prelude.{ℕ, ℤ, pos, List, [], ◌∷◌, ◌++◌, map, Result, Ok, Err}
use Rattle.meaning.specs.Tree.{Name, Body, Tree}
use Rattle.meaning.specs.Tables.{Tables}
use Rattle.meaning.specs.Outcome.{Accumulators, Fault, after}
use Rattle.meaning.specs.Run.{Run}
use Rattle.meaning.specs.Values.{Env}
use Rattle.meaning.specs.Statements.{proc_of, put_into, fresh, Job}
use Rattle.meaning.specs.Elision.{Next, On, Back, body, elide, Answer, Finished, Faulted}
use Rattle.meaning.specs.Elision as elision
use Rattle.meaning.specs.SmallStep.{Slot, seen, Frame, Todo, blocks, halves, second, turns, Child, instance, half, Phase, entering}
use Rattle.meaning.specs.SmallStep.{running, spawning, returning, leaving, broken, Parent, Continuation}

-- what a piece of a run comes to, and the reducers' values then
abbrev pub Course : Type 0 → Type 0
Course A = Result A Fault × Accumulators

abbrev pub course_of : {A : Type 0} → Run A → Accumulators → Course A
course_of m acc = ((m acc).answer, after (m acc).log acc)

-- what is left, from the reducers' values on
abbrev pub Left : Type 0
Left = Accumulators → Course ℤ

abbrev pub then_on : {A B : Type 0} → Course A → (A → Accumulators → Course B) → Course B
then_on (Ok a, acc) f = f a acc
then_on (Err k, acc) f = (Err k, acc)

abbrev pub past : Next → (Env → Left) → Left
past (On env) f acc = f env acc
past (Back v) f acc = (Ok v, acc)

abbrev pub values_of : List Slot → Env
values_of slots = map seen slots

module _ (program : Tree) (tables : Tables) where
  -- the blocks that are left of an instance, the innermost first
  abbrev pub blocks_left : ℕ → Name → List Body → Env → Left
  blocks_left left here [] env acc = (Ok (pos 0), acc)
  blocks_left left here (b ∷ bs) env acc =
      then_on (course_of (body program tables (elide program tables left) here env b) acc) (λ next. past next (blocks_left left here bs))

  -- iterations of a loop, halved or not
  abbrev pub turns_left : ℕ → Job → ℕ → ℕ → Left
  turns_left left job count i acc =
      then_on (course_of (elision.turns program tables (elide program tables left) job count i) acc) (λ _ acc'. (Ok (pos 0), acc'))

  abbrev pub todo_left : ℕ → Name → Todo → Env → Left
  todo_left left here (blocks bs) env = blocks_left left here bs env
  todo_left left here (halves k job count i) env = turns_left left job count i
  todo_left left here (second k job count i) env = turns_left left job count i
  todo_left left here (turns job count i) env = turns_left left job count i

  -- an instance that isn't entered yet
  abbrev pub child_left : ℕ → Child → Left
  child_left left (instance f vs) =
      blocks_left left (proc_of program f).called ((proc_of program f).body ∷ []) (fresh (proc_of program f).names vs)
  child_left left (half k job count i) = turns_left left job count i

  -- an instance that isn't entered yet, where its names have their values already
  abbrev pub entering_left : Frame → Child → Left
  entering_left fr (instance f vs) = blocks_left fr.left fr.here ((proc_of program f).body ∷ []) (values_of fr.env)
  entering_left fr (half k job count i) = turns_left fr.left job count i

  abbrev pub phase_left : Frame → Phase → Left
  phase_left fr (entering child) acc = entering_left fr child acc
  phase_left fr (running todo) acc = todo_left fr.left fr.here todo (values_of fr.env) acc
  phase_left fr (spawning d x child todo) acc =
      then_on (child_left d child acc) (λ v. todo_left fr.left fr.here todo (put_into x (values_of fr.env) v))
  phase_left fr (returning v) acc = (Ok v, acc)
  phase_left fr (leaving v) acc = (Ok v, acc)
  phase_left fr (broken k) acc = (Err k, acc)

  -- each instance that waits goes on with the value of the one before it
  abbrev pub parents_left : List Parent → ℤ → Left
  parents_left [] v acc = (Ok v, acc)
  parents_left (p ∷ t) v acc =
      then_on (todo_left p.frame.left p.frame.here p.todo (put_into p.into (values_of p.frame.env) v) acc) (parents_left t)

  abbrev pub answered : Course ℤ → Answer
  answered (Ok v, acc) = Finished v acc
  answered (Err k, acc) = Faulted k

  -- the instances of continuations, the newest continuation first
  abbrev pub parents_of : List Continuation → List Parent
  parents_of [] = []
  parents_of (k ∷ ks) = k.parent ∷ (k.under ++ parents_of ks)
