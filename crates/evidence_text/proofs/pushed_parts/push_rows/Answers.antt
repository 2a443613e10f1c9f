use Rattle.std.proofs.Common.{rules}
use Rattle.evidence_text.proofs.pushed_parts.push_rows.Goals as goal

pub returns : goal.returns
returns c = search rules
