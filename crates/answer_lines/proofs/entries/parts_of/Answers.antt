use Rattle.std.proofs.Common.{◌<◌, ◌^◌, ℕ, ◌++◌, All, length, get_or, ◌≤◌, sym, ap, subst, ◌∙◌, arith}
use Rattle.std.proofs.lemmas.List.Quantifiers.{all_pairs_push}
use Rattle.std.proofs.lemmas.List.Elements.{All-push}
use Rattle.design_problem.specs.AnswerRanges.{BoundsParts, IsRowNumber}
use Rattle.design_problem.specs.Text.{multiplier_words}
use Rattle.answer_lines.specs.Words.{words_left}
use Rattle.answer_lines.proofs.ListParts.{not-both}
use Rattle.answer_lines.proofs.EntryWords.{no_part_more, not_rising, part_more}
use Rattle.answer_lines.proofs.entries.parts_of.Goals as goal

pub returns-in_default : goal.returns-in_default
returns-in_default c =
    λ ps bounds small e.
    no_part_more c.loop-left.parts.items ps (words_left c.loop-left.left) bounds small (sym e ∙ c.loop-left.invariant.words)
    (λ empty. not-both c.is_done.result (c.is_done.ensures.1 empty) c.loop-left-test.true) c.in_default.ensures

pub returns-then-not-rises : goal.returns-then-not-rises
returns-then-not-rises c =
    λ ps bounds small e.
    let fall = c.rises.ensures.fall c.if-not-rises.true in
    let within : fall.0 < length c.loop-left.parts.items = omega (arith, fall.1, c.as_slice.ensures.len, ap length c.as_slice.ensures.value) in
    not_rising c.loop-left.parts.items ps (words_left c.loop-left.left) (words_left c.in-Some.rest) c.in-Some.part
    fall.0 bounds (sym e ∙ c.loop-left.invariant.words) c.in-Some.ensures.3 within
    (λ d. subst (λ l. c.in-Some.part.0 ≤ (get_or l fall.0 d).0) c.as_slice.ensures.value (fall.2 d))

pub loop-left-preserved : goal.loop-left-preserved
loop-left-preserved c =
    let items = c.loop-left.parts.items in
    let part = c.in-Some.part in
    let rise = c.rises.ensures.rise c.if-not-rises.false in
    record {
      words =
          part_more (words_left c.args.words) (words_left c.loop-left.left) (words_left c.in-Some.rest) items part
          c.loop-left.invariant.words c.in-Some.ensures.3
          ∙ ap (λ l. multiplier_words l ++ words_left c.in-Some.rest) (sym c.in_ok-push.ensures.items);
      bounds =
          subst (λ l. BoundsParts l) (sym c.in_ok-push.ensures.items)
          (record {
            rows = All-push (λ p. IsRowNumber p.0) items part c.loop-left.invariant.bounds.rows c.in-Some.ensures.0;
            rising = all_pairs_push (λ a b. a.0 < b.0) items part c.loop-left.invariant.bounds.rising
                (subst (λ l. (k : ℕ) (d : ℕ × ℕ) → k < length l → (get_or l k d).0 < part.0)
                c.as_slice.ensures.value rise);
            positive = All-push (λ p. 0 < p.1) items part c.loop-left.invariant.bounds.positive c.in-Some.ensures.1;
          });
      small = subst (λ l. All (λ p. p.1 < 10 ^ 31) l) (sym c.in_ok-push.ensures.items)
          (All-push (λ p. p.1 < 10 ^ 31) items part c.loop-left.invariant.small c.in-Some.ensures.2);
    }
