use Rattle.std.proofs.Common.{length, sym, ap, arith}
use Rattle.live_reader.specs.JsonTexts.{good_tokens}
use Rattle.live_reader.proofs.ReaderLaws.{good_more, good_ends}
use Rattle.live_reader.proofs.TextLaws.{tokens_few}
use Rattle.live_reader.proofs.reader.good_tokens.Goals as goal

pub loop-token-init : goal.loop-token-init
loop-token-init c = record {
  counted = omega (arith, ap good_tokens c.in_ok-reader.ensures.ok);
  few = omega (arith, ap length c.in_ok-reader.ensures.ok);
}

pub returns-then-is_bad : goal.returns-then-is_bad
returns-then-is_bad c =
    omega (arith, c.loop-token.invariant.counted, good_ends c.loop-token.reader c.next.new.self _ c.in-Some.ensures.value (sym c.if-is_bad.ensures))

pub overflow_add-good : goal.overflow_add-good
overflow_add-good c =
    omega (arith, c.loop-token.invariant.few, tokens_few c.args.text.now, c.requires, ap length c.in-Some.ensures.value)

pub loop-token-smaller : goal.loop-token-smaller
loop-token-smaller c = omega (arith, ap length c.in-Some.ensures.value)

pub loop-token-preserved : goal.loop-token-preserved
loop-token-preserved c = record {
  counted = omega (arith, c.loop-token.invariant.counted, good_more c.loop-token.reader c.next.new.self _ c.in-Some.ensures.value (sym c.if-is_bad.ensures));
  few = omega (arith, c.loop-token.invariant.few, ap length c.in-Some.ensures.value);
}

pub returns : goal.returns
returns c = omega (arith, c.loop-token.invariant.counted, ap good_tokens c.in_default.ensures.value.0)
