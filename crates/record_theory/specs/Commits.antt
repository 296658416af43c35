-- Records with new ones put in, by numbers.
use Rattle.std.specs.Prelude.{cond, List, [], ◌∷◌}
use Rattle.std.specs.List.{IsDistinct}
use Rattle.record_theory.specs.Record.{PlainRecord, same_instance}

-- a record in the place of the one of its procedure and arguments, or last
abbrev pub put_record : List PlainRecord → PlainRecord → List PlainRecord
put_record [] r = r ∷ []
put_record (s ∷ ss) r = cond (same_instance r s) (r ∷ ss) (s ∷ put_record ss r)

-- records put in one after another: of several of one procedure and arguments the last counts
abbrev pub put_records : List PlainRecord → List PlainRecord → List PlainRecord
put_records records [] = records
put_records records (r ∷ rs) = put_records (put_record records r) rs

-- no procedure and arguments have two records
abbrev pub AreSingle : List PlainRecord → Type 0
AreSingle records = IsDistinct same_instance records
