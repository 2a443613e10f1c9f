-- Where there is no memory to begin the run, the exit status is that of a run without memory.
use Rattle.std.proofs.Common.{◌∙◌}
use Rattle.cost_base.specs.declared.Status.TheVariants.{OutOfMemory}
use Rattle.host_program.proofs.run_host.Goals as goal

pub returns-in-Err : goal.returns-in-Err
returns-in-Err c = (OutOfMemory, c.from.ensures ∙ c.number.ensures)
