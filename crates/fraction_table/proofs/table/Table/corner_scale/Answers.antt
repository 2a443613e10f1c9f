-- The multiple is read as it is.
use Rattle.std.proofs.Common.{rules, ◌≡◌, of_z, to_z, ◌∙◌, sym, subst, arith}
use Rattle.std.specs.Int.{w128}
use Rattle.std.specs.Prelude.{ℤ, pos, ◌<ℤ◌}
use Rattle.std.proofs.lemmas.Int.{ints}
use Rattle.fraction_table.proofs.CornerScales.{scale_positive, tested_wide}
use Rattle.fraction_table.proofs.table.Table.corner_scale.Goals as goal

pub tested-requires-clause-positive : goal.tested-requires-clause-positive
tested-requires-clause-positive c =
    let back : to_z w128 (of_z w128 c.in_ok-multiple.multiple) ≡ c.in_ok-multiple.multiple = search rules in
    subst (λ (z : ℤ). pos 0 <ℤ z) (sym (back ∙ c.in_ok-multiple.ensures.multiple)) (omega (arith, ints, scale_positive c.args.self.now c.requires.tableau))

pub returns-clause-wide : goal.returns-clause-wide
returns-clause-wide c =
    let back : to_z w128 (of_z w128 c.in_ok-multiple.multiple) ≡ c.in_ok-multiple.multiple = search rules in
    tested_wide c.args.self.now c.requires.tableau _ c.tested.result (back ∙ c.in_ok-multiple.ensures.multiple) c.tested.ensures.named c.tested.ensures.passes
