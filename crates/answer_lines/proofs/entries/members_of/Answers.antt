use Rattle.std.proofs.Common.{◌++◌, All, sym, ap, subst, ◌∙◌}
use Rattle.std.proofs.lemmas.List.Elements.{All-push}
use Rattle.design_problem.specs.AnswerRanges.{BoundsMember}
use Rattle.design_problem.specs.Text.{members_words}
use Rattle.answer_lines.specs.Words.{words_left}
use Rattle.answer_lines.proofs.ListParts.{not-both}
use Rattle.answer_lines.proofs.EntryWords.{no_member_more, member_more}
use Rattle.answer_lines.proofs.entries.members_of.Goals as goal

pub returns-in_default : goal.returns-in_default
returns-in_default c =
    λ ms all e.
    no_member_more c.loop-left.members.items ms (words_left c.loop-left.left) all (sym e ∙ c.loop-left.invariant.words)
    (λ empty. not-both c.is_done.result (c.is_done.ensures.1 empty) c.loop-left-test.true) c.in_default.ensures

pub loop-left-preserved : goal.loop-left-preserved
loop-left-preserved c = record {
  words =
      member_more (words_left c.args.words) (words_left c.loop-left.left) (words_left c.in-Some.rest)
      c.loop-left.members.items c.in-Some.member c.loop-left.invariant.words c.in-Some.ensures.1
      ∙ ap (λ l. members_words l ++ words_left c.in-Some.rest) (sym c.in_ok-push.ensures.items);
  bounds =
      subst (λ l. All BoundsMember l) (sym c.in_ok-push.ensures.items)
      (All-push BoundsMember c.loop-left.members.items c.in-Some.member c.loop-left.invariant.bounds
      c.in-Some.ensures.0);
}
