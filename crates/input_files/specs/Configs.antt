-- Configurations that were read.
use Rattle.std.specs.Prelude.{◌≡◌, ℕ, ◌-◌, ◌^◌, ◌<◌, List, length, None}
use Rattle.interface_model.specs.Records.{Router}
use Rattle.config_reader.specs.Configs.{config_of}
use Rattle.config_reader.specs.FaultList.{config_fault}

-- a configuration without a fault, and the router that it says
pub record IsConfigText (name bytes : List ℕ) (router : Router) : Type 0 where
  pub few : length bytes < 2 ^ 32 - 1
  pub faultless : config_fault name bytes ≡ None
  pub says : router ≡ config_of name bytes
