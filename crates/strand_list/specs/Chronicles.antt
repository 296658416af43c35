-- A chronicle of code, as the definitions have it.
use Rattle.numbered_runs.specs.Named.{history as steps_of}
use Rattle.strand_list.specs.Chronicled.{PlainChronicle}
use Rattle.strand_list.specs.declared.chronicle.Chronicle.{Chronicle}

abbrev pub told : Chronicle → PlainChronicle
told c = record { page = c.page; history = steps_of c.history.items }
