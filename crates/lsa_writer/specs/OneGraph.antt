-- The graph of LSAs that were written.
use Rattle.std.specs.Prelude.{◌≡◌, ℕ, ◌^◌, ◌<◌, List, Option, None, Some}
use Rattle.interface_model.specs.Records.{Router}
use Rattle.area_graph.specs.Area.{Area}
use Rattle.lsdb_build.specs.Graphs.{Database}
use Rattle.lsdb_build.specs.Topology.{topology_fault, database_of}
use Rattle.lsa_bytes.specs.declared.Lsa.{Lsa}
use Rattle.lsa_bytes.specs.AreaGraphs.{lsa_graph}
use Rattle.lsa_bytes.specs.Databases.{IsLsaDatabase}
use Rattle.lsa_bytes.specs.Files.{Say}
use Rattle.lsa_writer.specs.declared.ends.LinkEnd.{LinkEnd}
use Rattle.lsa_writer.specs.declared.said.OwnedLink.{OwnedLink}

-- the database is that of the configurations in some area, where they have no fault
pub record IsDatabaseOf (configs : List Router) (d : Database) : Type 0 where
  pub area : ℕ
  pub faultless : topology_fault area configs ≡ None
  pub database : d ≡ database_of area configs

-- the bytes are those of LSAs without a fault, whose graph this is
pub record SayGraph (bytes : List ℕ) (g : Area) : Type 0 where
  pub lsas : List Lsa
  pub said : Say bytes lsas
  pub database : IsLsaDatabase lsas
  pub graph : lsa_graph lsas ≡ g

-- the router ID and the address of the end of a link have 32 bits
pub record IsRangedEnd (end : LinkEnd) : Type 0 where
  pub router : end.router < 2 ^ 32
  pub address : end.address < 2 ^ 32

-- the numbers of a link in a router-LSA fit their fields
pub record IsRangedLink (said : OwnedLink) : Type 0 where
  pub id : said.link.id < 2 ^ 32
  pub address : said.link.address < 2 ^ 32
  pub metric : said.link.metric < 2 ^ 16

-- a router ID, where there is one, has 32 bits
abbrev pub IsRangedId : Option ℕ → Type 0
IsRangedId None = Unit {0}
IsRangedId (Some id) = id < 2 ^ 32
