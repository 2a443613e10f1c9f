use Rattle.std.proofs.Common.{◌≡◌}
use Rattle.design_problem.specs.declared.tree.Side.TheVariants.{Low, High}
use Rattle.design_problem.specs.Text.{side_word}
use Rattle.begun_lines.specs.BegunLines.{Then, IsSide, BoundWords}
use Rattle.begun_lines.proofs.BegunKinds.{first_holds, first_fails, then_as, then_either, either_side}
use Rattle.begun_lines.proofs.entries.goes_on_with_sides.Goals as goal

pub returns-then-goes_on_with_side : goal.returns-then-goes_on_with_side
returns-then-goes_on_with_side c =
    first_holds {said = (Then IsSide BoundWords)} {first = (Then (λ w. w ≡ side_word Low) BoundWords)}
    (then_as {first = λ w. w ≡ side_word Low} {second = IsSide} BoundWords (λ w e. (Low, e))) c.args.line.text.now
    c.args.line.room c.goes_on_with_side.result c.if-goes_on_with_side.true c.goes_on_with_side.ensures

pub returns-else-goes_on_with_side : goal.returns-else-goes_on_with_side
returns-else-goes_on_with_side c =
    first_fails {said = (Then IsSide BoundWords)} {first = (Then (λ w. w ≡ side_word Low) BoundWords)}
    {second = (Then (λ w. w ≡ side_word High) BoundWords)}
    (then_either {word = IsSide} {first = λ w. w ≡ side_word Low} {second = λ w. w ≡ side_word High} BoundWords
    either_side) (then_as {first = λ w. w ≡ side_word High} {second = IsSide} BoundWords (λ w e. (High, e)))
    c.args.line.text.now c.args.line.room c.goes_on_with_side.result
    c.goes_on_with_side-else-goes_on_with_side.result
    c.if-goes_on_with_side.false c.goes_on_with_side.ensures c.goes_on_with_side-else-goes_on_with_side.ensures
