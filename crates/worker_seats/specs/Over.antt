-- When a run is over.
use Rattle.std.specs.Prelude.{Bool, true, false, ◌||◌, Option, Some, None}
use Rattle.sync_fold.specs.Books.{PlainBook, is_ended}
use Rattle.sync_fold.specs.Refusals.{is_apart}
use Rattle.strand_list.specs.declared.error.BookError.{BookError}
use Rattle.worker_rules.specs.Ends as rules
use Rattle.worker_seats.specs.declared.failure.Failure.{Failure}
use Rattle.worker_seats.specs.declared.failure.Failure.TheVariants as failure

abbrev pub has_failed : Option Failure → Bool
has_failed None = false
has_failed (Some f) = true

-- the run is at its end, or it has failed
abbrev pub is_over : PlainBook → Option Failure → Bool
is_over book given_up = has_failed given_up || is_ended book

-- a refusal that isn't for want of memory
abbrev pub is_refusal : BookError → Bool
is_refusal e = rules.is_refusal e

-- want of memory is noted as such
abbrev pub is_right : Failure → Bool
is_right failure.NoMemory = true
is_right (failure.Refused e) = is_refusal e

abbrev pub is_noted : Option Failure → Bool
is_noted None = true
is_noted (Some f) = is_right f

-- two strands that were to be one were apart
abbrev pub is_far : Failure → Bool
is_far failure.NoMemory = false
is_far (failure.Refused e) = is_apart e

abbrev pub notes_far : Option Failure → Bool
notes_far None = false
notes_far (Some f) = is_far f
