use Rattle.std.proofs.Common.{◌≡◌}
use Rattle.std.specs.Cmp.Lexicographic.{pointwise_decides}
use Rattle.std.proofs.lemmas.Bool.Decides.{Decides-eqb}
use Rattle.answer_lines.proofs.LineFronts.{first-one}
use Rattle.answer_lines.proofs.text_left.TextLeft.behind.Goals as goal

pub returns-else-eq : goal.returns-else-eq
returns-else-eq c =
    λ left first.
    let same : c.in_ok-line.line.now ≡ c.args.wanted.now =
    (first-one c.args.self.left.now c.in_ok-line.line.now c.args.wanted.now c.in_ok-line.rest.left.now left
    c.in_ok-line.ensures.0 first.parts first.one).0 in
    absurd (cc ((pointwise_decides Decides-eqb c.in_ok-line.line.now c.args.wanted.now).1 same))
