use Rattle.live_input.proofs.LiveReadings.{lsa_files}
use Rattle.live_input.proofs.laws.lsa_files_come_to.Goals as goal

pub returns : goal.returns
returns c = lsa_files
