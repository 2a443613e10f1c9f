-- So many zeros.
use Rattle.std.proofs.Common.{◌≡◌, ◌∙◌, replicate, rules}
use Rattle.std.specs.Prelude.{pos}
use Rattle.cost_base.proofs.FillLaws.{filled_numbers}
use Rattle.integer_pivots.proofs.first_lines.zeros.Goals as goal

pub returns : goal.returns
returns c =
    let filled : c.in_ok-vec.field-0.items ≡ replicate c.args.count (pos 0) = search rules in
    filled ∙ filled_numbers (pos 0) c.args.count
