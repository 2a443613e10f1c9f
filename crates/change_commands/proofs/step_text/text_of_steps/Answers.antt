use Rattle.std.proofs.Common.{◌∷◌, ◌++◌, [], ◌∙◌, ap, List, ℕ}
use Rattle.std.specs.Prelude.{codes}
use Rattle.text_lines.specs.Lines.{with_ends}
use Rattle.printed_parts.proofs.TextParts.{joined}
use Rattle.change_commands.specs.Steps.{outcome_lines}
use Rattle.change_commands.proofs.step_text.text_of_steps.Goals as goal

pub returns : goal.returns
returns c =
    let steps = c.args.steps.now in
    let by_held : List ℕ → List (List ℕ) = λ held. codes "ospfcost steps 1" ∷ outcome_lines c.args.by c.args.names.now c.args.moves.now held steps.outcome in
    joined (by_held c.as_slice.result.now) (codes "end" ∷ []) c.in_ok-text.text.items c.push_line.new.text.items c.in_ok-text.ensures c.in_ok-push_line.ensures
    ∙ ap (λ (held : List ℕ). with_ends (by_held held ++ codes "end" ∷ [])) c.as_slice.ensures.value
