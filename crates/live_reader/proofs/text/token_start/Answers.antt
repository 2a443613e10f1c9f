use Rattle.std.proofs.Common.{◌≡◌, ℕ, [], ◌+◌, drop, get_or, length, sym, ap, ◌∙◌, arith}
use Rattle.std.proofs.lemmas.List.{drop_all}
use Rattle.live_reader.specs.Texts.{token_start, behind}
use Rattle.live_reader.proofs.TextLaws.{starts_here, starts_later, no_start}
use Rattle.live_reader.proofs.text.token_start.Goals.{then-begins_token+else-left-eq0, else-begins_token}
use Rattle.live_reader.proofs.text.token_start.Goals as goal

pub loop-offset-init : goal.loop-offset-init
loop-offset-init c = omega arith

pub returns-then-left-eq0-clause-start : goal.returns-then-left-eq0-clause-start
returns-then-left-eq0-clause-start c =
    sym (starts_here c.args.text.now c.loop-offset.offset c.loop-offset.left c.loop-offset.within c.loop-offset-test.true (sym c.if-begins_token.ensures)
    c.if-left-eq0.true)
    ∙ c.loop-offset.invariant

pub loop-offset-preserved : goal.loop-offset-preserved
loop-offset-preserved c =
    ap (λ within. c.loop-offset.offset + 1 + token_start within c.if-begins_token.left (drop (c.loop-offset.offset + 1) c.args.text.now))
    c.behind-within.ensures
    ∙ (elim c.if-begins_token.branch [
      | then-begins_token+else-left-eq0 w ↦
          starts_later c.args.text.now c.loop-offset.offset c.loop-offset.left c.if-begins_token.left c.loop-offset.within c.loop-offset-test.true
          (sym w.if-begins_token.ensures) w.if-left-eq0.false w.left-is
      | else-begins_token w ↦
          ap (λ n. c.loop-offset.offset + 1 + token_start (behind c.loop-offset.within (get_or c.args.text.now c.loop-offset.offset 0)) n
          (drop (c.loop-offset.offset + 1) c.args.text.now)) w.left-is
          ∙ no_start c.args.text.now c.loop-offset.offset c.loop-offset.left c.loop-offset.within c.loop-offset-test.true (sym w.if-begins_token.ensures)
    ]) ∙ c.loop-offset.invariant

at_end : (a b : ℕ) → a ≡ b → a + 0 ≡ b
at_end a b e = omega (arith, e)

pub returns-clause-start : goal.returns-clause-start
returns-clause-start c =
    let over : c.loop-offset.offset ≡ length c.args.text.now = omega (arith, c.loop-offset-test.false, c.loop-offset.auto.offset-end) in
    let none : drop c.loop-offset.offset c.args.text.now ≡ [] = drop_all c.loop-offset.offset c.args.text.now (omega (arith, over)) in
    sym (ap (λ l. c.loop-offset.offset + token_start c.loop-offset.within c.loop-offset.left l) none ∙
    at_end c.loop-offset.offset (length c.args.text.now) over)
    ∙ c.loop-offset.invariant
