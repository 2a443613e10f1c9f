use Rattle.begun_lines.proofs.TruthLaws.{through}
use Rattle.begun_lines.proofs.BegunOthers.{rows-end}
use Rattle.begun_lines.proofs.other_text.begins_sections_end.Goals as goal

pub returns-in-Spread : goal.returns-in-Spread
returns-in-Spread c = through c.begins_rows.ensures (rows-end c.args.text c.args.rest.now c.in-Spread.is)
