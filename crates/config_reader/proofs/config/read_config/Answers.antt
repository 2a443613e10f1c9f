use Rattle.config_reader.proofs.config.read_config.Goals as goal

pub returns-clause-made : goal.returns-clause-made
returns-clause-made c = c.gathered.ensures.made c.args.bytes.now c.in_ok-parts.ensures

pub returns-clause-refused : goal.returns-clause-refused
returns-clause-refused c = c.gathered.ensures.refused c.args.bytes.now c.in_ok-parts.ensures
