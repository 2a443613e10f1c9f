use Rattle.std.proofs.Common.{rules}
use Rattle.lsa_writer.proofs.said.lsa_link.Goals as goal

pub returns-in-Subnet : goal.returns-in-Subnet
returns-in-Subnet c = search rules
