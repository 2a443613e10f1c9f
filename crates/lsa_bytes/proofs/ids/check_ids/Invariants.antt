use Rattle.std.proofs.Common.{◌≡◌, [], take, drop}
use Rattle.lsa_bytes.specs.Ids.{first_id_fault}
use Rattle.lsa_bytes.proofs.ids.check_ids.Given as goal

-- the configurations before this one have no fault
abbrev pub invariant-loop-i : goal.invariant-loop-i
invariant-loop-i l = first_id_fault (take l.i l.configs) l.i (drop l.i l.configs) ≡ first_id_fault [] 0 l.configs
