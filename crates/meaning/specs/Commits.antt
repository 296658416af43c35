-- What a run leaves behind: the records of the memo instances that it executed, and the records of a session with them put in.
use Rattle.std.specs.Prelude.{ℕ, ℤ, pos, Bool, cond, ◌&&◌, List, [], ◌∷◌, map, Result, Ok, Err}
use Rattle.std.specs.Str.{bytes_eq}
use Rattle.meaning.specs.Tree.{Name}
use Rattle.meaning.specs.Tables.{Tables}
use Rattle.meaning.specs.Outcome.{Out, Fault, after}
use Rattle.meaning.specs.Statements.{identities}
use Rattle.meaning.specs.Elision.{elide, reads, entered, deepest, start, depth_limit}
use Rattle.meaning.specs.Records.{Revised, Kept, Key, same_args, needed, executed}

-- a procedure's revision number
abbrev pub revision_of : List (Name × ℕ) → Name → ℕ
revision_of [] f = 0
revision_of ((g, n) ∷ rest) f = cond (bytes_eq g f) n (revision_of rest f)

abbrev pub value_of : Result ℤ Fault → ℤ
value_of (Ok v) = v
value_of (Err k) = pos 0

abbrev pub kept_as : Revised → Key → Out Fault ℤ → Kept
kept_as program key o = record {
  of = key.0;
  args = key.1;
  value = value_of o.answer;
  contribution = after o.log (identities program.tree);
  read = reads o.log;
  revisions = map (λ f. (f, revision_of program.revisions f)) (entered o.log);
  height = deepest o.log;
}

-- the record that an instance of that name and arguments makes: what the elision gives of it
abbrev pub made_of : Revised → Tables → Key → Kept
made_of program tables key = kept_as program key (elide program.tree tables depth_limit start key.0 key.1 (identities program.tree))

abbrev pub same_key : Kept → Kept → Bool
same_key k j = bytes_eq k.of j.of && same_args k.args j.args

-- a record in the place of the one of its name and arguments, or last
abbrev pub replaced : List Kept → Kept → List Kept
replaced [] k = k ∷ []
replaced (j ∷ js) k = cond (same_key j k) (k ∷ js) (j ∷ replaced js k)

-- the records with new ones put in: of several with one name and arguments the last counts
abbrev pub committed : List Kept → List Kept → List Kept
committed records [] = records
committed records (k ∷ ks) = committed (replaced records k) ks

-- the records after a finished run in which every executed instance was recorded
abbrev pub kept_after : Revised → Tables → List Kept → List Kept
kept_after program tables records = committed records (map (made_of program tables) (executed program.tree (needed program tables records)))
