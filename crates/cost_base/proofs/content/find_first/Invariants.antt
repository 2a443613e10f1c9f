use Rattle.std.proofs.Common.{◌≡◌, drop}
use Rattle.cost_base.specs.Files.{first_file}
use Rattle.cost_base.proofs.content.find_first.Given as goal

abbrev pub invariant-loop-file : goal.invariant-loop-file
invariant-loop-file l = first_file l.files l.name ≡ first_file (drop l.file-index l.files) l.name
