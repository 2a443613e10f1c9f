use Rattle.std.proofs.Common.{rules, List, ap, ◌∙◌, ◌++◌}
use Rattle.live_area.specs.declared.Difference.{Difference}
use Rattle.live_area.proofs.LineSteps.{known_lines}
use Rattle.live_area.proofs.routers.push_lsa_lines.Goals as goal

pub returns : goal.returns
returns c = λ ends all has.
    c.in_ok-push_unknown_lines.ensures ends all has
    ∙ ap (λ (xs : List Difference). c.args.lines.now.items ++ xs)
    (known_lines c.args.configs.now ends c.args.lsa.now c.deref.result.now (search rules) (search rules) (c.deref.ensures.value ∙ c.in_ok-links.ensures))
