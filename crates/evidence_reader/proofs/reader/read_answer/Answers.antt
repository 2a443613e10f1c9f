use Rattle.std.proofs.Common.{List, [], sym, subst}
use Rattle.std.proofs.lemmas.Result.{err_from_is_err_and}
use Rattle.design_problem.specs.declared.form.Row.{Row}
use Rattle.design_problem.specs.Answers.{AnswerParts}
use Rattle.answer_lines.specs.Grammar.{AtHead, AtRows, AtRow, AfterEnd}
use Rattle.answer_lines.specs.Lawful.{IsRead}
use Rattle.answer_lines.specs.Going.{Goes}
use Rattle.design_problem.specs.Text.{rows_lines}
use Rattle.evidence_text.proofs.AnswerOrder.{ordered}
use Rattle.evidence_reader.proofs.NextPlaces.{stop-then}
use Rattle.evidence_reader.proofs.WholeText.{stop_at_start, parts_read, text_read, answer_kept}
use Rattle.evidence_reader.proofs.reader.read_answer.Goals.{After-from_items}
use Rattle.evidence_reader.proofs.reader.read_answer.Goals as goal

pub returns-in_err-verdict-clause-stopped : goal.returns-in_err-verdict-clause-stopped
returns-in_err-verdict-clause-stopped c =
    let p = err_from_is_err_and c.from_residual.result c.from_residual.ensures.1 in
    rw (p.1, p.2)
    (stop_at_start c.new-text.result.read c.new-text.result.left.now c.args.bytes.now _ c.new-text.ensures.read c.new-text.ensures.left
    c.in_err-verdict.ensures)

pub returns-in_err-priced-clause-stopped : goal.returns-in_err-priced-clause-stopped
returns-in_err-priced-clause-stopped c =
    let p = err_from_is_err_and c.from_residual-in_err-priced.result c.from_residual-in_err-priced.ensures.1 in
    rw (p.1, p.2)
    (stop_at_start c.new-text.result.read c.new-text.result.left.now c.args.bytes.now _ c.new-text.ensures.read c.new-text.ensures.left
    (stop-then _ c.in_ok-verdict.ensures c.in_err-priced.ensures))

pub returns-in_err-rows-clause-stopped : goal.returns-in_err-rows-clause-stopped
returns-in_err-rows-clause-stopped c =
    let p = err_from_is_err_and c.from_residual-in_err-rows.result c.from_residual-in_err-rows.ensures.1 in
    rw (p.1, p.2)
    (stop_at_start c.new-text.result.read c.new-text.result.left.now c.args.bytes.now _ c.new-text.ensures.read c.new-text.ensures.left
    (stop-then _ c.in_ok-verdict.ensures (stop-then _ c.in_ok-priced.ensures.1 c.in_err-rows.ensures)))

pub returns-in_err-proof-clause-stopped : goal.returns-in_err-proof-clause-stopped
returns-in_err-proof-clause-stopped c =
    let p = err_from_is_err_and c.from_residual-in_err-proof.result c.from_residual-in_err-proof.ensures.1 in
    rw (p.1, p.2)
    (stop_at_start c.new-text.result.read c.new-text.result.left.now c.args.bytes.now _ c.new-text.ensures.read c.new-text.ensures.left
    (stop-then _ c.in_ok-verdict.ensures (stop-then _ c.in_ok-priced.ensures.1 (stop-then _ c.in_ok-rows.ensures c.in_err-proof.ensures))))

pub returns-in_err-undecided-clause-stopped : goal.returns-in_err-undecided-clause-stopped
returns-in_err-undecided-clause-stopped c =
    let p = err_from_is_err_and c.from_residual-in_err-undecided.result c.from_residual-in_err-undecided.ensures.1 in
    rw (p.1, p.2)
    (stop_at_start c.new-text.result.read c.new-text.result.left.now c.args.bytes.now _ c.new-text.ensures.read c.new-text.ensures.left
    (stop-then _ c.in_ok-verdict.ensures
    (stop-then _ c.in_ok-priced.ensures.1
    (stop-then _ c.in_ok-rows.ensures (stop-then _ c.in_ok-proof.ensures.1 c.in_err-undecided.ensures)))))

pub returns-in_err-read_end-clause-stopped : goal.returns-in_err-read_end-clause-stopped
returns-in_err-read_end-clause-stopped c =
    let p = err_from_is_err_and c.from_residual-in_err-read_end.result c.from_residual-in_err-read_end.ensures.1 in
    rw (p.1, p.2)
    (stop_at_start c.new-text.result.read c.new-text.result.left.now c.args.bytes.now _ c.new-text.ensures.read c.new-text.ensures.left
    (stop-then _ c.in_ok-verdict.ensures
    (stop-then _ c.in_ok-priced.ensures.1
    (stop-then _ c.in_ok-rows.ensures
    (stop-then _ c.in_ok-proof.ensures.1
    (stop-then _ c.in_ok-undecided.ensures.1 c.in_err-read_end.ensures))))))

-- the answer that the parts make
abbrev answer_of : After-from_items → AnswerParts
answer_of c =
    record {
      verdict = c.in_ok-verdict.verdict;
      costs = c.in_ok-priced.priced.costs;
      floor = c.in_ok-priced.priced.floor;
      rows = c.from_items.result;
      proof = c.in_ok-proof.proof;
      undecided = c.in_ok-undecided.undecided;
    }

-- its lines were read
all_read : (c : After-from_items) →
    IsRead AtHead c.new-text.result.read c.new-text.result.left.now (ordered (answer_of c)) AfterEnd
    c.in_ok-read_end.ensures.0 []
all_read c =
    let rows =
    subst (λ (l : List Row). Goes AtRows c.in_ok-priced.behind_costs (rows_lines l) (AtRow 0) c.in_ok-rows.behind_rows)
    (sym c.from_items.ensures) c.in_ok-rows.ensures in
    parts_read (answer_of c) c.in_ok-verdict.ensures c.in_ok-priced.ensures.1 rows c.in_ok-proof.ensures.1
    c.in_ok-undecided.ensures.1 c.in_ok-read_end.ensures.1

pub returns-clause-read : goal.returns-clause-read
returns-clause-read c =
    let done = (goal.at.returns-clause-read c).After-from_items in
    text_read (answer_of done) c.new-text.result.read c.new-text.result.left.now c.args.bytes.now c.new-text.ensures.left (all_read done)

pub invariant_of-result : goal.invariant_of-result
invariant_of-result c =
    let done = (goal.at.invariant_of-result c).After-from_items in
    answer_kept (answer_of done) c.in_ok-priced.ensures.0 c.in_ok-proof.ensures.0 c.in_ok-undecided.ensures.0 (all_read done)
