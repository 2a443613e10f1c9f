use Rattle.std.proofs.Common.{ℕ, List, subst}
use Rattle.std.proofs.lemmas.Result.{err_from_is_err_and, MatchResult-weaker}
use Rattle.answer_lines.specs.Grammar.{AtUnread, AfterEnd}
use Rattle.answer_lines.specs.Lawful.{IsRead}
use Rattle.evidence_reader.proofs.NextPlaces.{stop-then}
use Rattle.sections_reader.proofs.unread.pass_last.Goals as goal

pub returns-in_err-behind : goal.returns-in_err-behind
returns-in_err-behind c =
    let p = err_from_is_err_and c.from_residual.result c.from_residual.ensures.1 in
    rw (p.1, p.2) (c.in_err-behind.ensures 0)

pub returns : goal.returns
returns c =
    let passed = c.in_ok-behind.ensures 0 in
    let behind = c.in_ok-behind.behind in
    MatchResult-weaker c.nothing_left.result c.nothing_left.ensures.end
    (λ _ none. (
      passed.0,
      behind.read,
      subst (λ (left : List ℕ). IsRead (AtUnread 0) c.args.text.read c.args.text.left.now passed.0 AfterEnd behind.read left) none passed.1,
    ))
    (λ stop h. stop-then stop passed.1 h)
