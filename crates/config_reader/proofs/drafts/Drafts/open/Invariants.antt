use Rattle.std.proofs.Common.{map, take}
use Rattle.config_reader.specs.Heards.{head_heard}
use Rattle.config_reader.specs.Gathered.{IsOpened}
use Rattle.config_reader.proofs.drafts.Drafts.open.Given as goal

-- a draft for each first head so far
abbrev pub invariant-loop-head : goal.invariant-loop-head
invariant-loop-head l = IsOpened (map head_heard (take l.head-index l.heads)) l.opened
