-- Strands none of whose statements left to do reads a reducer.
use Rattle.std.specs.Prelude.{◌≡◌, ℕ, ℤ, Bool, List, Option}
use Rattle.meaning.specs.Tree.{Tree}
use Rattle.meaning.specs.Tables.{Tables}
use Rattle.meaning.specs.Outcome.{Accumulators}
use Rattle.meaning.specs.SmallStep.{Todo, blocks, halves, second, turns, Child, Phase, entering, running, spawning, returning, leaving}
use Rattle.meaning.specs.SmallStep.{broken, Parent, Lookup, Continuation}
use Rattle.trail_theory.specs.Order.{Every}
use Rattle.trail_theory.specs.Waiting.{NoReads}
use Rattle.meaning.specs.LayeredStrand.{LayeredStrand, advance, first_layered, inlined, detached, continuation, resumed, stolen, joined}
use Rattle.trail_theory.specs.Right.{Sees}

abbrev pub IsCalmTodo : Todo → Type 0
IsCalmTodo (blocks bs) = Every NoReads bs
IsCalmTodo (halves k job count i) = Unit {0}
IsCalmTodo (second k job count i) = Unit {0}
IsCalmTodo (turns job count i) = Unit {0}

abbrev pub IsCalmPhase : Phase → Type 0
IsCalmPhase (entering child) = Unit {0}
IsCalmPhase (running todo) = IsCalmTodo todo
IsCalmPhase (spawning d x child todo) = IsCalmTodo todo
IsCalmPhase (returning v) = Unit {0}
IsCalmPhase (leaving v) = Unit {0}
IsCalmPhase (broken k) = Unit {0}

abbrev pub AreCalm : List Parent → Type 0
AreCalm t = Every (λ p. IsCalmTodo p.todo) t

abbrev pub IsCalm : LayeredStrand → Type 0
IsCalm s = IsCalmPhase s.phase × AreCalm s.under

abbrev pub IsCalmContinuation : Continuation → Type 0
IsCalmContinuation k = IsCalmTodo k.parent.todo × AreCalm k.under

-- a strand's steps leave it calm, and a calm strand stands at no read
pub record CalmStays (program : Tree) (tables : Tables) (lookup : Lookup) : Type 0 where
  pub begins : IsCalm (first_layered program)
  pub sees : (acc sight : Accumulators) (s : LayeredStrand) → IsCalm s → Sees acc sight s.phase
  pub advances : (kit : Bool) (s : LayeredStrand) → IsCalm s → IsCalm (advance program tables lookup kit s)
  pub inlines : (s : LayeredStrand) (d : ℕ) (x : Option ℕ) (child : Child) (todo : Todo) → s.phase ≡ spawning d x child todo → IsCalm s
      → IsCalm (inlined program s d x child todo)
  pub detaches : (s : LayeredStrand) (d : ℕ) (child : Child) → IsCalm (detached program s d child)
  pub continues : (s : LayeredStrand) (d : ℕ) (x : Option ℕ) (child : Child) (todo : Todo) → s.phase ≡ spawning d x child todo → IsCalm s
      → IsCalmContinuation (continuation s x todo)
  pub steals : (k : Continuation) → IsCalmContinuation k → IsCalm (stolen program k)
  pub pops : (s : LayeredStrand) (k : Continuation) (v : ℤ) → IsCalmContinuation k → IsCalm (resumed program s k v)
  pub joins : (l r : LayeredStrand) (v : ℤ) → IsCalm r → IsCalm (joined program l v r)
