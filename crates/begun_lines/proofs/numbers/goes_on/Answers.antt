use Rattle.std.proofs.Common.{arith}
use Rattle.begun_lines.proofs.numbers.goes_on.Goals as goal

pub returns-in-Some : goal.returns-in-Some
returns-in-Some c =
    let low = c.in-Some.ensures.1 in
    let high = c.saturating_add.ensures in (
      λ is. let found = c.has_number.ensures.0 is in (found.0, omega (arith, found.1, low), omega (arith, found.2, low, high, c.requires.some), found.3),
      λ is. c.has_number.ensures.1 (is.0, omega (arith, is.1, low), omega (arith, is.2, is.3.greatest, low, high, c.requires.fits), is.3),
    )
