use Rattle.std.proofs.lemmas.Result.{err_from_is_err_and}
use Rattle.evidence_reader.proofs.NextPlaces.{stop-then}
use Rattle.sections_reader.proofs.OtherTexts.{other_said}
use Rattle.sections_reader.proofs.reader.read_other.Goals as goal

pub returns-in_err-costs : goal.returns-in_err-costs
returns-in_err-costs c =
    let p = err_from_is_err_and c.from_residual-in_err-costs.result c.from_residual-in_err-costs.ensures.1 in
    let top = rw (c.new.ensures.left, c.new.ensures.read) at c.in_ok-behind_top.ensures in
    rw (p.1, p.2) (stop-then _ top.1 c.in_err-costs.ensures)

pub returns-in_err-pass_unread : goal.returns-in_err-pass_unread
returns-in_err-pass_unread c =
    let p = err_from_is_err_and c.from_residual-in_err-pass_unread.result c.from_residual-in_err-pass_unread.ensures.1 in
    let top = rw (c.new.ensures.left, c.new.ensures.read) at c.in_ok-behind_top.ensures in
    rw (p.1, p.2) (stop-then _ top.1 (stop-then _ c.in_ok-costs.ensures.4 c.in_err-pass_unread.ensures))

pub returns : goal.returns
returns c =
    let top = rw (c.new.ensures.left, c.new.ensures.read) at c.in_ok-behind_top.ensures in
    let costs = c.in_ok-costs.ensures in
    let unread = c.in_ok-pass_unread.ensures in
    other_said c.args.of c.args.bytes.now top.0 costs.0 c.in_ok-costs.costs costs.1 unread.0 costs.2 costs.3 top.1 costs.4 unread.2
