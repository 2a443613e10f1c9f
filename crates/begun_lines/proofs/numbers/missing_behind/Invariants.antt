use Rattle.std.proofs.Common.{ℕ, ◌<◌}
use Rattle.begun_lines.specs.BegunLines.{IsCoprimeInRange, Extends}
use Rattle.begun_lines.proofs.numbers.missing_behind.Given as goal

abbrev pub invariant-loop-digits : goal.invariant-loop-digits
invariant-loop-digits l = (k n : ℕ) → k < l.digits → Extends l.begun k n → IsCoprimeInRange l.numbers n → ⊥
