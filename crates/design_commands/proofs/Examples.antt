-- A pair of routers: what its files say, its printed answer read back, and a request file with a bound of 0.
use Rattle.std.proofs.Common.{◌≡◌, ℕ, refl, List, [], ◌∷◌, ◌++◌, None}
use Rattle.std.specs.Prelude.{codes, Ok, Err}
use Rattle.area_graph.specs.declared.Vertex.TheVariants.{Router as RouterVertex}
use Rattle.area_graph.specs.declared.Price.TheVariants.{Fixed, Var}
use Rattle.request_reader.specs.declared.Directive.TheVariants.{FreeAll, Path}
use Rattle.request_reader.specs.Asked.{Asked}
use Rattle.text_lines.specs.Lines.{lines}
use Rattle.request_reader.specs.Reading.{request_fault, asked_by}
use Rattle.input_files.specs.declared.problem.View.TheVariants.{AsRequested}
use Rattle.input_files.specs.Inputs.{InputFiles}
use Rattle.cost_base.specs.declared.ShelfStop.TheVariants.{Failed as NotRead}
use Rattle.cost_base.specs.Histories.{Taken}
use Rattle.input_files.specs.Readings.{Says, Faulty, Failed, EndsAs}
use Rattle.input_files.specs.Outcomes.{Input, outcome}
use Rattle.read_back_laws.specs.ReadBack.{section, graph_back}
use Rattle.path_requests.proofs.Examples.{pair}

abbrev config : List ℕ → List ℕ
config address = codes "interface eth0\n ip address " ++ address ++ codes "\n ip ospf area 0\n ip ospf network point-to-point\n"

abbrev request : List ℕ → List ℕ
request bounds = codes "ospfcost request 1\narea 0\nfree all " ++ bounds ++ codes "\npath A:eth0 B\n"

-- what came of the request file with these bounds and of the two configurations
abbrev came : List ℕ → List Taken
came bounds =
    record { name = codes "request.txt"; most = 4194304; came = Ok (request bounds) }
    ∷ record { name = codes "A.conf"; most = 4194304; came = Ok (config (codes "10.0.0.1/30")) }
    ∷ record { name = codes "B.conf"; most = 4194304; came = Ok (config (codes "10.0.0.2/30")) }
    ∷ []

abbrev files : InputFiles
files = record { request = codes "request.txt"; configs = codes "A.conf" ∷ codes "B.conf" ∷ [] }

abbrev asked : Asked
asked = record {
  area = 0;
  default_cost = None;
  items = record { line = 3; what = FreeAll 1 65535 }
      ∷ record { line = 4; what = Path (record { hops = (codes "A", codes "eth0") ∷ []; last = codes "B" }) [] } ∷ [];
}

request_asks : asked_by (request (codes "1 65535")) ≡ asked
request_asks = refl

request_faultless : request_fault (request (codes "1 65535")) ≡ None
request_faultless = refl

abbrev input : Input
input = record {
  asked = asked;
  files = record { name = codes "A.conf"; bytes = config (codes "10.0.0.1/30") } ∷ record { name = codes "B.conf"; bytes = config (codes "10.0.0.2/30") } ∷ [];
  database = pair;
  problem = record {
    graph = record {
      vertices = RouterVertex 0 ∷ RouterVertex 1 ∷ [];
      edges = record { from = 0; to = 1; price = Var 0 } ∷ record { from = 1; to = 0; price = Var 1 } ∷ [];
    };
    vars = record { router = codes "A"; interface = codes "eth0"; var = 0 } ∷ record { router = codes "B"; interface = codes "eth0"; var = 1 } ∷ [];
    low = 1 ∷ 1 ∷ [];
    high = 65535 ∷ 65535 ∷ [];
    requests = record { path = record { start = 0; edges = 0 ∷ [] }; end = 1; excluded = [] } ∷ [];
  };
}

-- what the files say
pair_ready : EndsAs (outcome AsRequested files) (came (codes "1 65535")) (Says input)
pair_ready = (refl, refl, (refl, refl, (refl, refl, refl)))

abbrev printed : List ℕ
printed =
    codes
    "ospfcost answer 1\nverdict optimal 1\ncosts 1\nrouter A\ninterface eth0\n ip ospf cost 1\nexit\nrouter B\ninterface eth0\n ip ospf cost 1\nexit\nfloor 0\nrows 0\nproof none\nopen none\nwide none\nend\n"

pair_section : section (codes "B") (lines printed) ≡ codes "interface eth0" ∷ codes " ip ospf cost 1" ∷ codes "exit" ∷ []
pair_section = refl

-- read back, both interfaces have cost 1
pair_back : graph_back input printed
    ≡ record {
      vertices = RouterVertex 0 ∷ RouterVertex 1 ∷ [];
      edges = record { from = 0; to = 1; price = Fixed 1 } ∷ record { from = 1; to = 0; price = Fixed 1 } ∷ [];
    }
pair_back = refl

-- a lower bound of 0 is refused at its line, and no configuration is asked for
pair_bad_bounds : EndsAs (outcome AsRequested files)
    (record { name = codes "request.txt"; most = 4194304; came = Ok (request (codes "0 5")) } ∷ [])
    (Faulty (record { number = 25; file = codes "request.txt"; line = 3 }))
pair_bad_bounds = (refl, refl, refl)

-- a configuration that fails ends the reading, and the next isn't asked for
pair_failed : EndsAs (outcome AsRequested files)
    (record { name = codes "request.txt"; most = 4194304; came = Ok (request (codes "1 65535")) }
    ∷ record { name = codes "A.conf"; most = 4194304; came = Err NotRead } ∷ []) (Failed (codes "A.conf"))
pair_failed = (refl, refl, (refl, refl, (refl, refl)))
