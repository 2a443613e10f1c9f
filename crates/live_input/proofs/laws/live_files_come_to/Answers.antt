use Rattle.live_input.proofs.LiveReadings.{live_files}
use Rattle.live_input.proofs.laws.live_files_come_to.Goals as goal

pub returns : goal.returns
returns c = live_files
