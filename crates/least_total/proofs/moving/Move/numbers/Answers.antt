-- One more number is put.
use Rattle.std.proofs.Common.{◌≡◌, ℕ, [], ◌∙◌, ap, map, arith}
use Rattle.cost_base.specs.Lists.{numbers_from}
use Rattle.cost_base.proofs.ListLemmas.{put_more}
use Rattle.least_total.specs.Moving.{moved_number}
use Rattle.least_total.proofs.moving.Move.numbers.Goals as goal

pub loop-row-preserved : goal.loop-row-preserved
loop-row-preserved c =
    put_more [] c.loop-row.numbers.items c.push.new.self.items (moved_number c.args.self.place c.args.self.others)
    c.loop-row.row c.number.result c.in_ok-push.ensures.items c.loop-row.invariant c.number.ensures

pub returns : goal.returns
returns c =
    let others = c.args.self.others in
    let number : ℕ → ℕ = moved_number c.args.self.place others in
    let all : c.loop-row.row ≡ others = omega (arith, c.loop-row-test.false, c.loop-row.auto.row-end) in
    put_more [] c.loop-row.numbers.items c.push-2.new.self.items number others c.number-2.result
    c.in_ok-push-2.ensures.items (c.loop-row.invariant ∙ ap (λ (n : ℕ). map number (numbers_from 0 n)) all) c.number-2.ensures
