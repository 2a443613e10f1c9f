-- A configuration without a router ID of its own is refused at no line of its file.
use Rattle.lsa_bytes.specs.Numbers.{lsa_fault_number}
use Rattle.input_files.specs.Outcomes.{file_of}
use Rattle.input_files.specs.Stops.{files_named}
use Rattle.input_files.proofs.Stops.{refusal_by}
use Rattle.database_commands.proofs.identified.stop_of_id.Goals as goal

pub returns : goal.returns
returns c =
    refusal_by lsa_fault_number c.at.result c.args.found.fault 0 c.file_of.result (file_of (files_named c.args.words) c.args.found.config)
    c.stop_of.result c.at.ensures c.stop_of.ensures c.file_of.ensures
