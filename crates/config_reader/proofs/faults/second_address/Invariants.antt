use Rattle.std.proofs.Common.{◌≡◌, map, drop}
use Rattle.config_reader.specs.Heards.{said_of}
use Rattle.config_reader.specs.Drafting as drafting
use Rattle.config_reader.proofs.faults.second_address.Given as goal

-- what is left tells the first
abbrev pub invariant-loop-line : goal.invariant-loop-line
invariant-loop-line l = drafting.first_second l.drafts.drafts.items (map said_of (drop l.line-index l.said))
    ≡ drafting.first_second l.drafts.drafts.items (map said_of l.said)
