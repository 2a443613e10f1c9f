use Rattle.std.proofs.Common.{refl, ap, map, List, ℕ, ◌∙◌, ◌++◌}
use Rattle.text_lines.specs.Lines.{with_ends}
use Rattle.change_steps.specs.declared.found.Blocked.{Blocked}
use Rattle.change_steps.specs.declared.found.Barrier.TheVariants.{Path}
use Rattle.change_commands.specs.Steps.{steps_lines, stuck_line}
use Rattle.change_commands.proofs.StepTexts.{lines_behind, stuck_more}
use Rattle.change_commands.proofs.step_text.push_stuck.Goals as goal

pub loop-blocked-init : goal.loop-blocked-init
loop-blocked-init c =
    let of = c.args.of in
    let steps : List ℕ → List (List ℕ) = λ done. steps_lines of.by of.names.now of.moves.now done in
    let lines : List Blocked → List (List ℕ) = λ blocked. map (stuck_line of.by of.names.now of.moves.now) blocked in
    lines_behind c.args.text.now.items c.push_steps.new.text.items (steps c.as_slice.result.now) (lines c.as_slice-blocked-items.result.now)
    c.in_ok-push_steps.ensures
    ∙ ap (λ (done : List ℕ). c.args.text.now.items ++ with_ends (steps done ++ lines c.as_slice-blocked-items.result.now)) c.as_slice.ensures.value
    ∙ ap (λ (blocked : List Blocked). c.args.text.now.items ++ with_ends (steps c.args.stuck.now.done.items ++ lines blocked))
    c.as_slice-blocked-items.ensures.value

pub loop-blocked-preserved : goal.loop-blocked-preserved
loop-blocked-preserved c =
    let of = c.args.of in
    stuck_more of.by of.names.now of.moves.now c.as_slice-blocked-items.result.now c.loop-blocked.blocked-index
    (record { step = 0; by = Path 0 }) _ c.loop-blocked.text.items c.push_blocked.new.text.items _ c.loop-blocked-test.true refl
    c.in_ok-push_blocked.ensures c.loop-blocked.invariant
