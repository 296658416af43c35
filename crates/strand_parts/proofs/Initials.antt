-- The updates with which a run begins are by initial values of its reducers.
use Rattle.std.proofs.Common.{◌≡◌, All, List, [], ◌∷◌, map}
use Rattle.std.proofs.lemmas.List.Elements.{All-nil, All-cons}
use Rattle.monoid_laws.specs.declared.Kind.{Kind}
use Rattle.meaning.specs.Outcome.{Event, Log}
use Rattle.linked_program.specs.declared.initial.Initial.{Initial}
use Rattle.linked_program.specs.Initials.{PlainInitial, plain_initial, IsUpdateBy, AreUpdatesBy}
use Rattle.strand_parts.specs.Begins.{IsInitial}

is_initial : (kinds : List Kind) (i : PlainInitial) (e : Event) → IsUpdateBy kinds i e → IsInitial kinds i
is_initial kinds i e h = record { kind = h.kind; there = h.there; count = h.count; named = h.named }

pub are_initials : (kinds : List Kind) (is : List Initial) (es : Log) → AreUpdatesBy kinds (map plain_initial is) es → All (λ i. IsInitial kinds (plain_initial i)) is
are_initials kinds [] es h = All-nil (λ i. IsInitial kinds (plain_initial i))
are_initials kinds (i ∷ is) [] h = absurd h
are_initials kinds (i ∷ is) (e ∷ es) h =
    All-cons (λ i. IsInitial kinds (plain_initial i)) i is (is_initial kinds (plain_initial i) e h.0) (are_initials kinds is es h.1)
