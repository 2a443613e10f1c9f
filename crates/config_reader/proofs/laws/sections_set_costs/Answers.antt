use Rattle.config_reader.proofs.SectionLaw.{config_of-section}
use Rattle.config_reader.proofs.SectionFaults.{section_accepted}
use Rattle.config_reader.proofs.laws.sections_set_costs.Goals as goal

pub returns : goal.returns
returns c = λ file_name bytes costs fits. (config_of-section file_name bytes costs fits, section_accepted file_name bytes costs fits)
