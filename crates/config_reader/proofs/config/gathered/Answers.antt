use Rattle.config_reader.proofs.config.gathered.Goals as goal

pub returns-clause-made : goal.returns-clause-made
returns-clause-made c = c.checked.ensures.made

pub returns-clause-refused : goal.returns-clause-refused
returns-clause-refused c = c.checked.ensures.refused
