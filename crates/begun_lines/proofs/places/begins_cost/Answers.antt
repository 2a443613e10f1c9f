use Rattle.std.proofs.Common.{◌≡◌, ◌≢◌, eqb, sym, ◌∙◌}
use Rattle.std.specs.Prelude.{not, Decides}
use Rattle.std.specs.Cmp.Lexicographic.{pointwise, pointwise_decides}
use Rattle.std.proofs.lemmas.Bool.Decides.{Decides-eqb, Decides-not}
use Rattle.begun_lines.proofs.BegunCosts.{cost-begun}
use Rattle.begun_lines.proofs.places.begins_cost.Goals as goal

pub returns-then-begins_number : goal.returns-then-begins_number
returns-then-begins_number c = λ text router.
    let same : Decides (pointwise eqb c.args.rest.now c.as_slice.result.now) (c.args.rest.now ≡ c.as_slice.result.now) =
    pointwise_decides Decides-eqb c.args.rest.now c.as_slice.result.now in
    let differ : Decides (not (pointwise eqb c.args.rest.now c.as_slice.result.now))
    (c.args.rest.now ≢ c.as_slice.result.now) =
    Decides-not (pointwise eqb c.args.rest.now c.as_slice.result.now) same in (
      λ yes. (cost-begun text c.args.rest.now router).0 (
        c.begins_number.ensures.0 c.if-begins_number.true,
        λ e. differ.0 (sym c.ne.ensures ∙ yes) (e ∙ sym c.as_slice.ensures),
      ),
      λ begins. c.ne.ensures ∙ differ.1 (λ e. ((cost-begun text c.args.rest.now router).1 begins).1 (e ∙ c.as_slice.ensures)),
    )
