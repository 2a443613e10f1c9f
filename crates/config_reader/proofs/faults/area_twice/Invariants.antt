use Rattle.std.proofs.Common.{◌≡◌, None, drop}
use Rattle.std.specs.Option.{option_map}
use Rattle.config_reader.specs.Heards.{fault_heard}
use Rattle.config_reader.specs.Drafting as drafting
use Rattle.config_reader.proofs.faults.area_twice.Given as goal

-- what was found and what is left tell the first
abbrev pub invariant-loop-draft : goal.invariant-loop-draft
invariant-loop-draft l = drafting.first_clash l.networks (option_map fault_heard l.found) (drop l.draft-index l.drafts)
    ≡ drafting.first_clash l.networks None l.drafts
