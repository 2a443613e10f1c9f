use Rattle.std.proofs.Common.{◌≡◌, length}
use Rattle.config_reader.specs.RouterNames as definition
use Rattle.config_reader.proofs.router_names.after_last_slash.Given as goal

-- the last part is the last part of what is left
abbrev pub invariant-loop-behind : goal.invariant-loop-behind
invariant-loop-behind l = definition.after_last_slash l.left ≡ definition.after_last_slash l.file_name

abbrev pub decreases-loop-behind : goal.decreases-loop-behind
decreases-loop-behind l = length l.left
