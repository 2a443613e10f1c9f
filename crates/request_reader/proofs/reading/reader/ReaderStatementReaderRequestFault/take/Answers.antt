use Rattle.std.proofs.Common.{◌∷◌}
use Rattle.text_lines.specs.Lines.{words}
use Rattle.request_reader.proofs.ReadingLaws.{taken_lawful, taken_told, taken_refused}
use Rattle.request_reader.proofs.ReadingRules.{statement_rules}
use Rattle.request_reader.proofs.reading.reader.ReaderStatementReaderRequestFault.take.Goals as goal

pub take_said-requires : goal.take_said-requires
take_said-requires c = statement_rules (c.args.word.now ∷ words c.args.rest.now) c.in_ok-said.said c.in_ok-said.ensures

pub returns-clause-lawful : goal.returns-clause-lawful
returns-clause-lawful c =
    taken_lawful c.take_said.result c.args.self.now c.in_ok-said.said (c.args.word.now ∷ words c.args.rest.now) c.in_ok-said.ensures
    c.take_said.ensures.taken

pub returns-clause-taken : goal.returns-clause-taken
returns-clause-taken c =
    taken_told c.take_said.result c.args.self.now c.take_said.new.self c.args.line c.in_ok-said.said
    (c.args.word.now ∷ words c.args.rest.now) c.in_ok-said.ensures c.take_said.ensures.told c.take_said.ensures.taken

pub returns-clause-refused : goal.returns-clause-refused
returns-clause-refused c =
    taken_refused c.take_said.result c.args.self.now c.args.line c.in_ok-said.said (c.args.word.now ∷ words c.args.rest.now)
    c.in_ok-said.ensures c.take_said.ensures.refused
