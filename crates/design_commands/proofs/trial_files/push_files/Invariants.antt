-- The files so far, and those of the names that are left, are all.
use Rattle.std.proofs.Common.{◌≡◌, ◌++◌, drop}
use Rattle.std.specs.List.{zip}
use Rattle.design_commands.proofs.trial_files.push_files.Given as goal

abbrev pub invariant-loop-place : goal.invariant-loop-place
invariant-loop-place l = l.files.items ++ zip (drop l.place l.names) (drop l.place l.texts) ≡ l.initial.files.items ++ zip l.names l.texts
