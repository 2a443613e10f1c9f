use Rattle.std.proofs.Common.{◌+◌, length, refl, ap, ◌∙◌, arith}
use Rattle.std.specs.Prelude.{count_by, ◌==◌}
use Rattle.std.proofs.lemmas.Bool.{ne_eqb, eq-eqb}
use Rattle.std.proofs.lemmas.List.{take_all, length-take}
use Rattle.std.proofs.lemmas.List.Sums.{count_by_more_yes, count_by_more_no}
use Rattle.live_reader.proofs.text.line_of_offset.Goals.{then-byte-eq10, else-byte-eq10}
use Rattle.live_reader.proofs.text.line_of_offset.Goals as goal

pub loop-byte-init : goal.loop-byte-init
loop-byte-init c = record { line = refl; few = omega arith }

pub overflow_add-line : goal.overflow_add-line
overflow_add-line c =
    omega (
      arith,
      c.loop-byte.invariant.few,
      c.loop-byte-test.true,
      ap length c.split_at.ensures.front,
      length-take c.args.offset c.args.text.now,
      c.requires.few,
      c.requires.within,
    )

pub loop-byte-preserved : goal.loop-byte-preserved
loop-byte-preserved c = elim c.if-byte-eq10.branch [
  | then-byte-eq10 w ↦ record {
    line = omega (
      arith,
      w.line-is,
      c.loop-byte.invariant.line,
      count_by_more_yes (λ b. b == 10) c.split_at.result.0.now c.loop-byte.byte-index 0 c.loop-byte-test.true (eq-eqb _ 10 w.if-byte-eq10.true),
    );
    few = omega (arith, w.line-is, c.loop-byte.invariant.few);
  }
  | else-byte-eq10 w ↦ record {
    line = omega (
      arith,
      w.line-is,
      c.loop-byte.invariant.line,
      count_by_more_no (λ b. b == 10) c.split_at.result.0.now c.loop-byte.byte-index 0 c.loop-byte-test.true (ne_eqb _ 10 w.if-byte-eq10.false),
    );
    few = omega (arith, w.line-is, c.loop-byte.invariant.few);
  }
]

pub returns : goal.returns
returns c =
    c.loop-byte.invariant.line
    ∙ ap (λ l. 1 + count_by (λ b. b == 10) l) (take_all c.loop-byte.byte-index c.split_at.result.0.now c.loop-byte-test.false ∙ c.split_at.ensures.front)
