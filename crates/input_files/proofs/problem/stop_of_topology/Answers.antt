-- A fault of a topology stands in the file of its configuration.
use Rattle.lsdb_build.specs.FaultNumbers.{topology_fault_number}
use Rattle.input_files.specs.Outcomes.{file_of}
use Rattle.input_files.specs.Stops.{files_named}
use Rattle.input_files.proofs.Stops.{refusal_by}
use Rattle.input_files.proofs.problem.stop_of_topology.Goals as goal

pub returns-in-Refused : goal.returns-in-Refused
returns-in-Refused c =
    rw c.in-Refused.is (refusal_by topology_fault_number c.at.result c.in-Refused.fault c.in-Refused.place.line c.file_of.result
    (file_of (files_named c.args.words) c.in-Refused.place.config) c.stop_of.result c.at.ensures c.stop_of.ensures c.file_of.ensures)
