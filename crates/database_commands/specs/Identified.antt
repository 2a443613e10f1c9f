-- A network whose configurations have router IDs of their own. No public clause cites it.
use Rattle.std.specs.Prelude.{◌≡◌, [], None}
use Rattle.input_files.specs.declared.problem.View.TheVariants.{AtPresent}
use Rattle.input_files.specs.declared.network.Network.{Network}
use Rattle.input_files.specs.Inputs.{InputFiles}
use Rattle.input_files.specs.Networks.{IsNetworkOf}
use Rattle.input_files.specs.Outcomes.{Input, routers_of}
use Rattle.lsa_bytes.specs.Ids.{first_id_fault}

-- the network is that of the input, and each configuration has a router ID of its own
pub record IsIdentified (names : InputFiles) (network : Network) (d : Input) : Type 0 where
  pub network_is : IsNetworkOf AtPresent names network d
  pub identified : first_id_fault [] 0 (routers_of d.files) ≡ None

-- a network that was read, each of whose configurations has a router ID of its own
pub record HasRouterIds (network : Network) : Type 0 where
  pub names : InputFiles
  pub said : Input
  pub is : IsIdentified names network said
