-- What several records have read, as it is put together.
use Rattle.std.proofs.Common.{◌≡◌, List, [], ◌∷◌, ◌++◌, sym, ap, ◌∙◌, append_assoc}
use Rattle.std.proofs.lemmas.List.{append-nil}
use Rattle.std.proofs.lemmas.Grind.{flat_map-append}
use Rattle.evaluation.specs.declared.note.Note.{Note}
use Rattle.instance_records.specs.Readings.{all_of}

-- behind the readings of one list, where there are no parts
pub pair_behind : (old new reads : List Note) (parts : List (List Note)) → parts ≡ [] → new ≡ old ++ reads → new ++ all_of parts ≡ (old ++ all_of parts) ++ reads
pair_behind old new reads parts none e =
    ap (λ ps. new ++ all_of ps) none
    ∙ append-nil new
    ∙ e
    ∙ ap (λ ns. ns ++ reads) (sym (append-nil old))
    ∙ ap (λ ps. (old ++ all_of ps) ++ reads) (sym none)

-- as one part more
pub part_behind : (old reads : List Note) (before after : List (List Note)) → after ≡ before ++ reads ∷ [] → old ++ all_of after ≡ (old ++ all_of before) ++ reads
part_behind old reads before after e =
    ap (λ ps. old ++ all_of ps) e
    ∙ ap (λ ns. old ++ ns) (flat_map-append (λ part. part) before (reads ∷ []) ∙ ap (λ ns. all_of before ++ ns) (append-nil reads))
    ∙ sym (append_assoc old (all_of before) reads)
