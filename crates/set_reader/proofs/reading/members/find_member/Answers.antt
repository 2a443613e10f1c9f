use Rattle.std.proofs.Common.{arith}
use Rattle.std.proofs.lemmas.Grind.{common_steps}
use Rattle.set_reader.proofs.reading.members.find_member.Goals as goal

pub returns-else-has_other_ends-clause-found : goal.returns-else-has_other_ends-clause-found
returns-else-has_other_ends-clause-found c = grind (arith, common_steps)
