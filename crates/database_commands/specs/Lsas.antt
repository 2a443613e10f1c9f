-- What `lsas` writes of the configurations of a network.
use Rattle.std.specs.Prelude.{◌≡◌, ℕ, List, []}
use Rattle.cost_base.specs.declared.Status.{Status}
use Rattle.cost_base.specs.declared.Status.TheVariants.{Done}
use Rattle.present_costs.specs.PresentCosts.{present_of_links}
use Rattle.input_files.specs.declared.problem.View.TheVariants.{AtPresent}
use Rattle.input_files.specs.Inputs.{InputFiles}
use Rattle.input_files.specs.Readings.{InputRefusal, Reading, ◌>>=◌, unless_refused, place_refused}
use Rattle.input_files.specs.Outcomes.{Input, outcome, routers_of, file_of}
use Rattle.lsa_bytes.specs.declared.ids.IdFault.{IdFault}
use Rattle.lsa_bytes.specs.Ids.{first_id_fault}
use Rattle.lsa_bytes.specs.Numbers.{lsa_fault_number}
use Rattle.lsa_bytes.specs.Written.{bytes_of_all}
use Rattle.lsa_writer.specs.WrittenLsas.{written_lsas}
use Rattle.lsa_writer.specs.OneGraph.{SayGraph}

-- how a configuration without a router ID of its own is refused: at no line
abbrev pub id_refused : InputFiles → IdFault → InputRefusal
id_refused names found = place_refused lsa_fault_number (file_of names found.config) (found.fault, 0)

-- what the files of a network say at present costs, and then the router IDs, configuration by configuration
abbrev pub identified_read : InputFiles → Reading Input
identified_read names = outcome AtPresent names >>= λ d. unless_refused (id_refused names) d (first_id_fault [] 0 (routers_of d.files))

-- the bytes are the LSAs of the configurations at present costs, and the graph of these is the one that an audit goes
-- by
pub record AreWritten (d : Input) (bytes : List ℕ) : Type 0 where
  pub written : bytes ≡ bytes_of_all (written_lsas (routers_of d.files) d.database (present_of_links d.asked d.database))
  pub one_graph : SayGraph bytes d.problem.graph

-- what `lsas` may write of what its files say
abbrev pub MayLsas : Input → Status → List ℕ → Type 0
MayLsas d Done bytes = AreWritten d bytes
MayLsas d status bytes = ⊥
