use Rattle.std.proofs.Common.{◌≡◌}
use Rattle.design_problem.specs.declared.tree.Side.TheVariants.{Low, High}
use Rattle.design_problem.specs.Text.{side_word}
use Rattle.begun_lines.specs.BegunLines.{Then, IsSide, EndWords}
use Rattle.begun_lines.proofs.BegunKinds.{first_holds, first_fails, then_as, then_either, either_side}
use Rattle.begun_lines.proofs.entries.ends_with_bounds.Goals as goal

pub returns-then-ends_with_bound : goal.returns-then-ends_with_bound
returns-then-ends_with_bound c =
    first_holds {said = (Then IsSide EndWords)} {first = (Then (λ w. w ≡ side_word Low) EndWords)}
    (then_as {first = λ w. w ≡ side_word Low} {second = IsSide} EndWords (λ w e. (Low, e))) c.args.line.text.now
    c.args.line.room c.ends_with_bound.result c.if-ends_with_bound.true c.ends_with_bound.ensures

pub returns-else-ends_with_bound : goal.returns-else-ends_with_bound
returns-else-ends_with_bound c =
    first_fails {said = (Then IsSide EndWords)} {first = (Then (λ w. w ≡ side_word Low) EndWords)}
    {second = (Then (λ w. w ≡ side_word High) EndWords)}
    (then_either {word = IsSide} {first = λ w. w ≡ side_word Low} {second = λ w. w ≡ side_word High} EndWords
    either_side) (then_as {first = λ w. w ≡ side_word High} {second = IsSide} EndWords (λ w e. (High, e)))
    c.args.line.text.now c.args.line.room c.ends_with_bound.result c.ends_with_bound-else-ends_with_bound.result
    c.if-ends_with_bound.false c.ends_with_bound.ensures c.ends_with_bound-else-ends_with_bound.ensures
