-- A sum of records as it is made, one record after another.
use Rattle.std.specs.Prelude.{◌≡◌, ℕ, suc, nat_eq, max, Bool, true, false, ◌&&◌, cond, List, [], ◌∷◌, ◌++◌, Option, Some, None, slice_get}
use Rattle.std.specs.List.{flat_map, list_any}
use Rattle.monoid_laws.specs.Worth.{Worth}
use Rattle.monoid_laws.specs.declared.Kind.{Kind}
use Rattle.monoid_laws.specs.declared.Val.{Val}
use Rattle.monoid_laws.specs.Kinds.{meaning, operate_all, identities, AreWorths}
use Rattle.evaluation.specs.declared.note.Note.{Note}
use Rattle.record_theory.specs.Record.{PlainRecord}
use Rattle.record_theory.specs.Named.{filled, SameMembers}
use Rattle.record_theory.specs.Sums.{contributed, highest}

-- what the records have together so far: whether readings are kept, the values of all reducers, what was read and entered, and the
-- greatest height
pub record PlainSum : Type 0 where
  pub keeps : Bool
  pub worths : List Worth
  pub reads : List Note
  pub entered : List (ℕ × ℕ)
  pub height : ℕ

abbrev pub same_entry : ℕ × ℕ → ℕ × ℕ → Bool
same_entry e d = nat_eq e.0 d.0 && nat_eq e.1 d.1

-- an entry behind the others, unless it is there
abbrev pub put_entry : List (ℕ × ℕ) → ℕ × ℕ → List (ℕ × ℕ)
put_entry es e = cond (list_any (same_entry e) es) es (es ++ e ∷ [])

abbrev pub put_entries : List (ℕ × ℕ) → List (ℕ × ℕ) → List (ℕ × ℕ)
put_entries es [] = es
put_entries es (d ∷ ds) = put_entries (put_entry es d) ds

-- readings, and others behind them where they are kept
abbrev pub kept_reads : Bool → List Note → List Note → List Note
kept_reads true ns ms = ns ++ ms
kept_reads false ns ms = ns

-- the value that stands behind a number
abbrev pub worth_in : ℕ × Val → Worth
worth_in e = meaning e.1

-- values with the numbers of their reducers
abbrev pub numbered_from : ℕ → List Worth → List (ℕ × Worth)
numbered_from i [] = []
numbered_from i (w ∷ ws) = (i, w) ∷ numbered_from (suc i) ws

-- what the records have together, with procedure, arguments and value of that one
abbrev pub summed : PlainSum → PlainRecord → PlainRecord
summed s last = record {
  procedure = last.procedure;
  arguments = last.arguments;
  value = last.value;
  contribution = numbered_from 0 s.worths;
  reads = s.reads;
  entered = s.entered;
  height = s.height;
  stale = 0;
}

-- for reducers of these kinds
module _ (kinds : List Kind) where
  -- of no records
  abbrev pub nothing_summed : Bool → PlainSum
  nothing_summed keeps = record { keeps = keeps; worths = identities kinds; reads = []; entered = []; height = 0 }

  -- with one record more
  abbrev pub added : PlainSum → PlainRecord → PlainSum
  added s r =
      record {
        keeps = s.keeps;
        worths = operate_all kinds s.worths (filled (identities kinds) r.contribution);
        reads = kept_reads s.keeps s.reads r.reads;
        entered = put_entries s.entered r.entered;
        height = max s.height r.height;
      }

  -- it has what the records have, one after another, whatever values go before them; what they have read where that is kept
  pub record HasSummed (rs : List PlainRecord) (s : PlainSum) : Type 0 where
    pub worths : (ws : List Worth) → AreWorths kinds ws → operate_all kinds ws s.worths ≡ contributed kinds ws rs
    pub right : AreWorths kinds s.worths
    pub reads : s.keeps ≡ true → s.reads ≡ flat_map (λ r. r.reads) rs
    pub entered : SameMembers s.entered (flat_map (λ r. r.entered) rs)
    pub height : s.height ≡ highest rs

-- the records at these places, one after another; a place at which none is counts for nothing
abbrev pub got_before : Option PlainRecord → List PlainRecord → List PlainRecord
got_before None rs = rs
got_before (Some r) rs = r ∷ rs

abbrev pub at_places : List PlainRecord → List ℕ → List PlainRecord
at_places records [] = []
at_places records (p ∷ ps) = got_before (slice_get records p) (at_places records ps)
