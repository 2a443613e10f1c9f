use Rattle.std.proofs.Common.{sym}
use Rattle.input_files.specs.Stops.{files_named}
use Rattle.input_files.proofs.Stops.{fault_stops}
use Rattle.database_commands.specs.Lsas.{id_refused}
use Rattle.database_commands.proofs.LsasRuns.{ids_ready}
use Rattle.database_commands.proofs.identified.check_router_ids.Goals as goal

pub returns-in-None : goal.returns-in-None
returns-in-None c d same = ids_ready (files_named c.args.words) d _ (sym c.in-None.ensures)

pub returns-in-Some : goal.returns-in-Some
returns-in-Some c d same =
    fault_stops (id_refused (files_named c.args.words)) d _ c.in-Some.found c.stop_of_id.result (sym c.in-Some.ensures) c.stop_of_id.ensures
