use Rattle.std.proofs.Common.{ℕ, ◌+◌, sym, ap, ◌∙◌, subst, arith, ◌<◌, length}
use Rattle.std.specs.Prelude.{Option, Some}
use Rattle.evidence_checker.proofs.Choices.{when_true, when_false}
use Rattle.evidence_checker.proofs.CostLaws.{LeastOff, off_begins, off_more, off_same, off_ends}
use Rattle.evidence_checker.proofs.costs.first_unequal.Goals as goal
use Rattle.evidence_checker.proofs.costs.first_unequal.Goals.{then-is_off, else-is_off}

pub loop-index-init : goal.loop-index-init
loop-index-init c = off_begins c.args.costs.now c.args.names.now c.args.lines.now

pub loop-index-preserved : goal.loop-index-preserved
loop-index-preserved c =
    let names = c.args.names.now in
    let lines = c.args.lines.now in
    let k = c.loop-index.index in
    let line_in : k < length lines = omega (arith, c.requires.counts) in
    let P = λ (least : Option ℕ). LeastOff c.args.costs.now names lines (k + 1) least in
    elim c.if-is_off.branch [
      | then-is_off w ↦
          subst P (sym (w.least-is ∙ ap (λ (v : ℕ). Some v) w.lesser.ensures))
          (off_more c.args.costs.now names lines k c.loop-index.least c.index-names-index.result
          c.index-lines-index.result c.loop-index-test.true line_in c.index-names-index.is c.index-lines-index.is
          (when_true _ _ c.is_off.result w.if-is_off.true c.is_off.ensures) c.loop-index.invariant)
      | else-is_off w ↦
          subst P (sym w.least-is)
          (off_same c.args.costs.now names lines k c.loop-index.least c.index-names-index.result
          c.index-lines-index.result c.loop-index-test.true line_in c.index-names-index.is c.index-lines-index.is
          (when_false _ _ c.is_off.result w.if-is_off.false c.is_off.ensures) c.loop-index.invariant)
    ]

pub returns : goal.returns
returns c =
    off_ends (length c.args.costs.now) c.args.costs.now c.args.names.now c.args.lines.now c.loop-index.index
    c.loop-index.least c.requires.known c.requires.given c.loop-index-test.false c.loop-index.invariant
