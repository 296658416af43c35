-- The keys of executed and answered instances, in logs and on stretches of the trail.
use Rattle.std.proofs.Common.{List, [], ◌∷◌, ◌++◌, ◌≡◌, refl, sym, ap, ap₂, ◌∙◌, true, false, Bool, cond}
use Rattle.meaning.specs.Tree.{Tree}
use Rattle.meaning.specs.Outcome.{Log, Event, Reads, Enters, Updates, Reuses, Begins, Syncs, Leaves, Faults, Marks, Spawns}
use Rattle.meaning.specs.Statements.{procedure_of}
use Rattle.meaning.specs.Records.{Key, is_memo, executed, reused}
use Rattle.meaning.specs.Tallies.{executions}
use Rattle.trail_theory.specs.Order.{Every}
use Rattle.trail_theory.specs.Counts.{reuses, SameKeys}
use Rattle.trail_theory.proofs.Evaluations.{Told}

abbrev pub IsUnmarked : Event → Type 0
IsUnmarked (Reads r) = Unit {0}
IsUnmarked (Enters f args d) = Unit {0}
IsUnmarked (Updates n kind w) = Unit {0}
IsUnmarked (Reuses f args ws) = Unit {0}
IsUnmarked (Begins n d) = Unit {0}
IsUnmarked (Syncs n) = Unit {0}
IsUnmarked (Spawns n) = Unit {0}
IsUnmarked (Leaves n v) = Unit {0}
IsUnmarked (Faults k) = Unit {0}
IsUnmarked (Marks f args b) = ⊥

pub executions_append : (a b : Log) → executions (a ++ b) ≡ executions a ++ executions b
executions_append [] b = refl
executions_append (Reads r ∷ a) b = executions_append a b
executions_append (Enters f args d ∷ a) b = executions_append a b
executions_append (Updates n kind w ∷ a) b = executions_append a b
executions_append (Reuses f args ws ∷ a) b = executions_append a b
executions_append (Begins n d ∷ a) b = executions_append a b
executions_append (Syncs n ∷ a) b = executions_append a b
executions_append (Spawns n ∷ a) b = executions_append a b
executions_append (Leaves n v ∷ a) b = executions_append a b
executions_append (Faults k ∷ a) b = executions_append a b
executions_append (Marks f args true ∷ a) b = executions_append a b
executions_append (Marks f args false ∷ a) b = ap (λ w. (f, args) ∷ w) (executions_append a b)

pub reuses_append : (a b : Log) → reuses (a ++ b) ≡ reuses a ++ reuses b
reuses_append [] b = refl
reuses_append (Reads r ∷ a) b = reuses_append a b
reuses_append (Enters f args d ∷ a) b = reuses_append a b
reuses_append (Updates n kind w ∷ a) b = reuses_append a b
reuses_append (Reuses f args ws ∷ a) b = reuses_append a b
reuses_append (Begins n d ∷ a) b = reuses_append a b
reuses_append (Syncs n ∷ a) b = reuses_append a b
reuses_append (Spawns n ∷ a) b = reuses_append a b
reuses_append (Leaves n v ∷ a) b = reuses_append a b
reuses_append (Faults k ∷ a) b = reuses_append a b
reuses_append (Marks f args true ∷ a) b = ap (λ w. (f, args) ∷ w) (reuses_append a b)
reuses_append (Marks f args false ∷ a) b = reuses_append a b

reused_append : (a b : Log) → reused (a ++ b) ≡ reused a ++ reused b
reused_append [] b = refl
reused_append (Reads r ∷ a) b = reused_append a b
reused_append (Enters f args d ∷ a) b = reused_append a b
reused_append (Updates n kind w ∷ a) b = reused_append a b
reused_append (Reuses f args ws ∷ a) b = ap (λ w. (f, args) ∷ w) (reused_append a b)
reused_append (Begins n d ∷ a) b = reused_append a b
reused_append (Syncs n ∷ a) b = reused_append a b
reused_append (Spawns n ∷ a) b = reused_append a b
reused_append (Leaves n v ∷ a) b = reused_append a b
reused_append (Faults k ∷ a) b = reused_append a b
reused_append (Marks f args true ∷ a) b = reused_append a b
reused_append (Marks f args false ∷ a) b = reused_append a b

cond_append : (b : Bool) (x : Key) (a c : List Key) → cond b (x ∷ a) a ++ c ≡ cond b (x ∷ (a ++ c)) (a ++ c)
cond_append true x a c = refl
cond_append false x a c = refl

module _ (program : Tree) where
  executed_append : (a b : Log) → executed program (a ++ b) ≡ executed program a ++ executed program b
  executed_append [] b = refl
  executed_append (Enters f args d ∷ a) b = ap (λ w. cond (is_memo (procedure_of program f)) ((f, args) ∷ w) w) (executed_append a b) ∙ sym (cond_append (is_memo (procedure_of program f)) (f, args) (executed program a) (executed program b))
  executed_append (Reads r ∷ a) b = executed_append a b
  executed_append (Updates n kind w ∷ a) b = executed_append a b
  executed_append (Reuses f args ws ∷ a) b = executed_append a b
  executed_append (Begins n d ∷ a) b = executed_append a b
  executed_append (Syncs n ∷ a) b = executed_append a b
  executed_append (Spawns n ∷ a) b = executed_append a b
  executed_append (Leaves n v ∷ a) b = executed_append a b
  executed_append (Faults k ∷ a) b = executed_append a b
  executed_append (Marks f args c ∷ a) b = executed_append a b

  pub keys_join : (a b es fs : Log) → SameKeys program a es → SameKeys program b fs → SameKeys program (a ++ b) (es ++ fs)
  keys_join a b es fs h k =
      record {
        executed_are = executed_append a b ∙ ap₂ ◌++◌ h.executed_are k.executed_are ∙ sym (executions_append es fs);
        reused_are = reused_append a b ∙ ap₂ ◌++◌ h.reused_are k.reused_are ∙ sym (reuses_append es fs);
      }

  pub told_keys : (es : Log) → Every Told es → SameKeys program es es
  told_keys [] h = record { executed_are = refl; reused_are = refl }
  told_keys (Reads r ∷ es) h = let k = told_keys es h.1 in record { executed_are = k.executed_are; reused_are = k.reused_are }
  told_keys (Enters f args d ∷ es) h = absurd h.0
  told_keys (Updates n kind w ∷ es) h = let k = told_keys es h.1 in record { executed_are = k.executed_are; reused_are = k.reused_are }
  told_keys (Reuses f args ws ∷ es) h = absurd h.0
  told_keys (Begins n d ∷ es) h = absurd h.0
  told_keys (Syncs n ∷ es) h = absurd h.0
  told_keys (Spawns n ∷ es) h = absurd h.0
  told_keys (Leaves n v ∷ es) h = absurd h.0
  told_keys (Faults k ∷ es) h = absurd h.0
  told_keys (Marks f args c ∷ es) h = absurd h.0

  pub unmarked_keys : (es : Log) → Every IsUnmarked es → SameKeys program [] es
  unmarked_keys [] h = record { executed_are = refl; reused_are = refl }
  unmarked_keys (Reads r ∷ es) h = let k = unmarked_keys es h.1 in record { executed_are = k.executed_are; reused_are = k.reused_are }
  unmarked_keys (Enters f args d ∷ es) h = let k = unmarked_keys es h.1 in record { executed_are = k.executed_are; reused_are = k.reused_are }
  unmarked_keys (Updates n kind w ∷ es) h = let k = unmarked_keys es h.1 in record { executed_are = k.executed_are; reused_are = k.reused_are }
  unmarked_keys (Reuses f args ws ∷ es) h = let k = unmarked_keys es h.1 in record { executed_are = k.executed_are; reused_are = k.reused_are }
  unmarked_keys (Begins n d ∷ es) h = let k = unmarked_keys es h.1 in record { executed_are = k.executed_are; reused_are = k.reused_are }
  unmarked_keys (Syncs n ∷ es) h = let k = unmarked_keys es h.1 in record { executed_are = k.executed_are; reused_are = k.reused_are }
  unmarked_keys (Spawns n ∷ es) h = let k = unmarked_keys es h.1 in record { executed_are = k.executed_are; reused_are = k.reused_are }
  unmarked_keys (Leaves n v ∷ es) h = let k = unmarked_keys es h.1 in record { executed_are = k.executed_are; reused_are = k.reused_are }
  unmarked_keys (Faults k ∷ es) h = let k = unmarked_keys es h.1 in record { executed_are = k.executed_are; reused_are = k.reused_are }
  unmarked_keys (Marks f args c ∷ es) h = absurd h.0
