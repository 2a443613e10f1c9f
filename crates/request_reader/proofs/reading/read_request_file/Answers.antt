use Rattle.std.proofs.lemmas.Result.{err_from_is_err_and, MatchResult-weaker}
use Rattle.request_reader.proofs.ReadingLaws.{read_made, read_missing, read_refused}
use Rattle.request_reader.proofs.reading.read_request_file.Goals as goal

pub returns-in_err-lines-clause-refused : goal.returns-in_err-lines-clause-refused
returns-in_err-lines-clause-refused c =
    let p = err_from_is_err_and c.from_residual.result c.from_residual.ensures.1 in
    rw (p.1, p.2) (read_refused c.args.bytes.now c.in_err-lines.field-0.0 c.in_err-lines.ensures.refused)

pub returns-clause-made : goal.returns-clause-made
returns-clause-made c =
    MatchResult-weaker c.finish.result c.finish.ensures.made
    (λ r made. read_made c.args.bytes.now c.read_statements.new.reader r c.in_ok-lines.ensures.lawful c.in_ok-lines.ensures.taken made.0 made.1)
    (λ _ t. t)

pub returns-clause-refused : goal.returns-clause-refused
returns-clause-refused c =
    MatchResult-weaker c.finish.result c.finish.ensures.refused (λ _ t. t)
    (λ refusal told. read_missing c.args.bytes.now c.read_statements.new.reader c.in_ok-lines.lines refusal c.in_ok-lines.ensures.lawful
    c.in_ok-lines.ensures.taken c.in_ok-lines.ensures.count told.0 told.1)
