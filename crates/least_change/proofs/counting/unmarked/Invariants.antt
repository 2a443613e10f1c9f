use Rattle.std.proofs.Common.{◌≡◌, ◌++◌, drop}
use Rattle.least_change.specs.Marks.{unmarked_from}
use Rattle.least_change.proofs.counting.unmarked.Given as goal

-- the variables so far, and those that are left
abbrev pub invariant-loop-var : goal.invariant-loop-var
invariant-loop-var l = l.vars.items ++ unmarked_from l.var (drop l.var l.present) (drop l.var l.marks) ≡ unmarked_from 0 l.present l.marks
