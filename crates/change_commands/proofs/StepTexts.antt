-- The text of `steps`, line by line.
use Rattle.std.proofs.Common.{◌≡◌, ℕ, ◌+◌, ◌<◌, sym, ◌∙◌, ap, List, [], ◌∷◌, ◌++◌, length, map, drop, get_or, append_assoc}
use Rattle.std.proofs.lemmas.List.{at_drop_more}
use Rattle.lsdb_build.specs.Graphs.{Database}
use Rattle.text_lines.specs.Lines.{with_ends}
use Rattle.text_lines.proofs.LineLaws.{with_ends-append}
use Rattle.change_steps.specs.declared.found.Blocked.{Blocked}
use Rattle.change_steps.specs.Rollouts.{CostMoves}
use Rattle.command_words.specs.declared.job.StepUnit.{StepUnit}
use Rattle.change_commands.specs.Steps.{step_line, step_lines_from, stuck_line}

-- lines behind lines behind a text
pub lines_behind : (old new : List ℕ) (first rest : List (List ℕ)) → new ≡ old ++ with_ends first → new ++ with_ends rest ≡ old ++ with_ends (first ++ rest)
lines_behind old new first rest is =
    ap (λ (bytes : List ℕ). bytes ++ with_ends rest) is
    ∙ append_assoc old (with_ends first) (with_ends rest)
    ∙ ap (λ (bytes : List ℕ). old ++ bytes) (sym (with_ends-append first rest))

-- one step more
pub step_more : (by : StepUnit) (d : Database) (m : CostMoves) (order : List ℕ) (i k : ℕ) (old new whole : List ℕ) →
    i < length order → k ≡ get_or order i 0 → new ≡ old ++ with_ends (step_line by d m i k ∷ []) →
    old ++ with_ends (step_lines_from by d m i (drop i order)) ≡ whole →
    new ++ with_ends (step_lines_from by d m (i + 1) (drop (i + 1) order)) ≡ whole
step_more by d m order i k old new whole within is pushed so_far =
    lines_behind old new (step_line by d m i k ∷ []) (step_lines_from by d m (i + 1) (drop (i + 1) order)) pushed
    ∙ ap (λ (n : ℕ). old ++ with_ends (step_line by d m i n ∷ step_lines_from by d m (i + 1) (drop (i + 1) order))) is
    ∙ ap (λ (lines : List (List ℕ)). old ++ with_ends lines) (sym (at_drop_more (step_lines_from by d m i) order i 0 within))
    ∙ so_far

-- one step more that can't follow
pub stuck_more : (by : StepUnit) (d : Database) (m : CostMoves) (blocked : List Blocked) (i : ℕ) (none b : Blocked) (old new whole : List ℕ) →
    i < length blocked → b ≡ get_or blocked i none → new ≡ old ++ with_ends (stuck_line by d m b ∷ []) →
    old ++ with_ends (map (stuck_line by d m) (drop i blocked)) ≡ whole →
    new ++ with_ends (map (stuck_line by d m) (drop (i + 1) blocked)) ≡ whole
stuck_more by d m blocked i none b old new whole within is pushed so_far =
    lines_behind old new (stuck_line by d m b ∷ []) (map (stuck_line by d m) (drop (i + 1) blocked)) pushed
    ∙ ap (λ (n : Blocked). old ++ with_ends (stuck_line by d m n ∷ map (stuck_line by d m) (drop (i + 1) blocked))) is
    ∙ ap (λ (lines : List (List ℕ)). old ++ with_ends lines) (sym (at_drop_more (map (stuck_line by d m)) blocked i none within))
    ∙ so_far
