-- Each number is 0.
use Rattle.std.proofs.Common.{◌≡◌, ◌+◌, ◌/◌, ◌∙◌, replicate, rules}
use Rattle.std.specs.Prelude.{pos}
use Rattle.cost_base.proofs.FillLaws.{filled_numbers}
use Rattle.integer_pivots.proofs.MarkLaws.{zeros_marked}
use Rattle.integer_pivots.proofs.marked.MarkedNumbers.zeros.Goals as goal

pub invariant_of-result : goal.invariant_of-result
invariant_of-result c =
    let numbers : c.in_ok-vec.field-0.items ≡ replicate c.args.width (pos 0) = search rules in
    let marks : c.in_ok-vec-2.field-0.items ≡ replicate (c.args.width / 64 + 1) 0 = search rules in
    zeros_marked c.args.width c.in_ok-vec.field-0.items c.in_ok-vec-2.field-0.items
    (numbers ∙ filled_numbers (pos 0) c.args.width) (marks ∙ filled_numbers 0 (c.args.width / 64 + 1))

pub returns : goal.returns
returns c =
    let numbers : c.in_ok-vec.field-0.items ≡ replicate c.args.width (pos 0) = search rules in
    numbers ∙ filled_numbers (pos 0) c.args.width
