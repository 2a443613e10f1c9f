use Rattle.std.proofs.Common.{◌≤◌, ℕ, List, length, codes, sym, subst, ap, ◌∙◌}
use Rattle.design_problem.specs.Text.{multiplier_words}
use Rattle.line_builder.specs.Words.{with_words}
use Rattle.line_builder.proofs.WordLaws.{spaced-with}
use Rattle.evidence_text.proofs.lines.write_refute.Goals as goal

pub push_parts-requires : goal.push_parts-requires
push_parts-requires c =
    subst (λ (l : List ℕ). length l ≤ 65536) (spaced-with (codes "refute") (multiplier_words c.args.parts.now)
    ∙ ap (λ (l : List ℕ). with_words l (multiplier_words c.args.parts.now)) (sym c.start.ensures)) c.requires

pub returns : goal.returns
returns c =
    c.push_parts.ensures
    ∙ ap (λ (l : List ℕ). with_words l (multiplier_words c.args.parts.now)) c.start.ensures
    ∙ sym (spaced-with (codes "refute") (multiplier_words c.args.parts.now))
