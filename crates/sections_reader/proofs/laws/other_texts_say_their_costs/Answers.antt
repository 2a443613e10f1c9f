use Rattle.sections_reader.proofs.WrittenTexts.{others_said}
use Rattle.sections_reader.proofs.laws.other_texts_say_their_costs.Goals as goal

pub returns : goal.returns
returns c = others_said
