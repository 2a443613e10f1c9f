-- What the code hands on of a configuration. No public clause cites it.
use Rattle.std.specs.Prelude.{◌≡◌, map}
use Rattle.std.specs.Option.{option_map}
use Rattle.config_reader.specs.declared.reader.Parts.{Parts}
use Rattle.config_reader.specs.Hearing.{Heard}
use Rattle.config_reader.specs.Heards.{said_of, head_heard, fault_heard}

-- the reader's parts are what was heard of a configuration: what its lines say, its heads, its hostname and its first
-- fault
pub record IsParts (h : Heard) (p : Parts) : Type 0 where
  pub said : map said_of p.said.items ≡ h.said
  pub heads : map head_heard p.heads.items ≡ h.heads
  pub hostname : option_map head_heard p.hostname ≡ h.hostname
  pub fault : option_map fault_heard p.fault ≡ h.fault
