-- What the files of a network say, with all that is made of them on the way to the problem.
use Rattle.std.specs.Prelude.{◌≡◌, None}
use Rattle.lsdb_build.specs.Graphs.{IsAreaDatabase}
use Rattle.lsdb_build.specs.Topology.{topology_fault, database_of}
use Rattle.request_reader.specs.Asked.{IsAsked}
use Rattle.input_files.specs.declared.problem.View.{View}
use Rattle.input_files.specs.declared.network.Network.{Network}
use Rattle.input_files.specs.Inputs.{InputFiles}
use Rattle.input_files.specs.Readings.{Ready}
use Rattle.input_files.specs.Outcomes.{Input, routers_of, problem_read}

-- the network is that of the input: its topology has no fault, and its requests are resolved
pub record IsNetworkOf (view : View) (names : InputFiles) (network : Network) (d : Input) : Type 0 where
  pub request_file : network.request_file ≡ d.asked
  pub configs : network.configs.items ≡ routers_of d.files
  pub lsdb : network.lsdb ≡ d.database
  pub problem : network.problem ≡ d.problem
  pub asked : IsAsked d.asked
  pub base : IsAreaDatabase d.database
  pub faultless : topology_fault d.asked.area (routers_of d.files) ≡ None
  pub built : d.database ≡ database_of d.asked.area (routers_of d.files)
  pub resolved : problem_read view names d.asked d.database ≡ Ready d.problem
