use Rattle.linked_program.proofs.Numbers.{procedure_is, reducer_is, table_is, column_is}
use Rattle.linked_program.proofs.laws.links_lead_there.Goals as goal

pub returns : goal.returns
returns c = record { procedures = procedure_is; reducers = reducer_is; tables = table_is; columns = column_is }
