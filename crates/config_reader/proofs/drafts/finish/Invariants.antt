use Rattle.std.proofs.Common.{◌≡◌, map}
use Rattle.config_reader.specs.Drafting as drafting
use Rattle.config_reader.proofs.drafts.finish.Given as goal

-- the interfaces of the drafts so far
abbrev pub invariant-loop-draft : goal.invariant-loop-draft
invariant-loop-draft l = l.interfaces.items ≡ map (drafting.finished l.networks) l.yielded
