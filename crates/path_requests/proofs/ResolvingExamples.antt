-- Each refusal of a request file once, on small databases.
use Rattle.std.proofs.Common.{◌≡◌, ℕ, refl, List, [], ◌∷◌}
use Rattle.std.specs.Prelude.{Some, None, codes}
use Rattle.area_graph.specs.declared.Vertex.TheVariants.{Router as RouterVertex}
use Rattle.area_graph.specs.declared.Price.TheVariants.{Fixed}
use Rattle.lsdb_build.specs.declared.Far.TheVariants.{Router, Subnet}
use Rattle.lsdb_build.specs.declared.Linked.{Linked}
use Rattle.lsdb_build.specs.Graphs.{Database}
use Rattle.request_reader.specs.declared.Directive.{Directive}
use Rattle.request_reader.specs.declared.Directive.TheVariants.{FreeAll, Free, Fix, Path, SymmetricAll, Symmetric}
use Rattle.request_reader.specs.declared.Excluded.TheVariants.{Router as ExcludedRouter, Interface as ExcludedInterface}
use Rattle.request_reader.specs.declared.DirectiveLine.{DirectiveLine}
use Rattle.request_reader.specs.Asked.{Asked}
use Rattle.wanted_paths.specs.declared.fault.ResolutionFault.TheVariants.{UnknownRouter, UnknownInterface, NotALink, LoopPath, PathExcluded, EndsDiffer, BrokenPath, NoCost}
use Rattle.path_requests.specs.Resolving.{resolution_fault, present_fault, present_problem_of}

abbrev link_to : ℕ → List ℕ → ℕ → ℕ → Linked
link_to r name far link_back = record { router = r; interface = name; line = 1; cost = None; to = Router far; link_back = Some link_back }

-- a triangle of routers, each link first to the next router
abbrev triangle : Database
triangle = record {
  routers = codes "A" ∷ codes "B" ∷ codes "C" ∷ [];
  links = link_to 0 (codes "0") 1 3 ∷ link_to 0 (codes "1") 2 4 ∷ link_to 1 (codes "0") 2 5 ∷ link_to 1 (codes "1") 0 0
      ∷ link_to 2 (codes "0") 0 1 ∷ link_to 2 (codes "1") 1 2 ∷ [];
  subnets = [];
}

abbrev lan_link : ℕ → Linked
lan_link r = record { router = r; interface = codes "0"; line = 1; cost = None; to = Subnet 0; link_back = None }

abbrev lan : Database
lan = record {
  routers = codes "A" ∷ codes "B" ∷ codes "C" ∷ [];
  links = lan_link 0 ∷ lan_link 1 ∷ lan_link 2 ∷ [];
  subnets = (0 ∷ 1 ∷ 2 ∷ []) ∷ [];
}

abbrev line : ℕ → Directive → DirectiveLine
line n directive = record { line = n; what = directive }

-- requests that first free every interface, in line 3
abbrev asked : List DirectiveLine → Asked
asked items = record { area = 0; default_cost = None; items = line 3 (FreeAll 1 9) ∷ items }

-- a path over interfaces 0 from A through B to a last router
abbrev ab_to : List ℕ → Directive
ab_to last = Path (record { hops = (codes "A", codes "0") ∷ (codes "B", codes "0") ∷ []; last = last }) []

resolves : resolution_fault (asked (line 4 SymmetricAll ∷ line 5 (ab_to (codes "C")) ∷ [])) triangle ≡ None
resolves = refl

unknown_router : resolution_fault (asked (line 4 (ab_to (codes "Z")) ∷ [])) triangle ≡ Some (UnknownRouter 4)
unknown_router = refl

unknown_interface : resolution_fault (asked (line 4 (Fix (codes "A") (codes "9")) ∷ [])) triangle ≡ Some (UnknownInterface 4)
unknown_interface = refl

not_a_link : resolution_fault (asked (line 4 (Symmetric (codes "A") (codes "0")) ∷ [])) lan ≡ Some (NotALink 4)
not_a_link = refl

broken_path : resolution_fault (asked (line 4 (ab_to (codes "A")) ∷ [])) triangle ≡ Some (BrokenPath 4 2)
broken_path = refl

loop_path : resolution_fault (asked
    (line 4 (Path (record { hops = (codes "A", codes "0") ∷ (codes "B", codes "1") ∷ []; last = codes "A" }) [])
    ∷ [])) triangle ≡ Some (LoopPath 4)
loop_path = refl

-- over the same subnet twice
loop_over_lan : resolution_fault (asked (line 4 (ab_to (codes "C")) ∷ [])) lan ≡ Some (LoopPath 4)
loop_over_lan = refl

unknown_part : resolution_fault
    (asked (line 4 (Path (record { hops = []; last = codes "A" }) (ExcludedInterface (codes "Z") (codes "0") ∷ [])) ∷ []))
    triangle ≡ Some (UnknownRouter 4)
unknown_part = refl

-- the link is excluded in both directions
path_excluded : resolution_fault (asked
    (line 4 (Path (record { hops = (codes "A", codes "0") ∷ []; last = codes "B" })
    (ExcludedInterface (codes "B") (codes "1") ∷ [])) ∷ [])) triangle ≡ Some (PathExcluded 4)
path_excluded = refl

start_excluded : resolution_fault (asked (line 4 (Path (record { hops = []; last = codes "A" }) (ExcludedRouter (codes "A") ∷ [])) ∷ [])) triangle ≡ Some (PathExcluded 4)
start_excluded = refl

start_stays : resolution_fault
    (asked (line 4 (Path (record { hops = []; last = codes "A" }) (ExcludedInterface (codes "A") (codes "0") ∷ [])) ∷ []))
    triangle ≡ None
start_stays = refl

-- at the first line that names such a link
one_end_fixed : resolution_fault
    (asked (line 4 (Symmetric (codes "B") (codes "0")) ∷ line 5 SymmetricAll ∷ line 6 (Fix (codes "A") (codes "0"))
    ∷ [])) triangle ≡ Some (EndsDiffer 5)
one_end_fixed = refl

other_bounds : resolution_fault
    (asked (line 4 (Symmetric (codes "B") (codes "1")) ∷ line 5 (Free (codes "A") (codes "0") 1 8) ∷ [])) triangle
    ≡ Some (EndsDiffer 4)
other_bounds = refl

-- the last line on an interface counts
no_cost : resolution_fault (asked
    (line 4 (Fix (codes "B") (codes "0")) ∷ line 5 (Fix (codes "C") (codes "0"))
    ∷ line 6 (Free (codes "B") (codes "0") 2 3) ∷ [])) triangle ≡ Some (NoCost 4)
no_cost = refl

present_no_cost : present_fault (asked []) triangle ≡ Some (NoCost 0)
present_no_cost = refl

abbrev pair : Database
pair = record { routers = codes "A" ∷ codes "B" ∷ []; links = link_to 0 (codes "0") 1 1 ∷ link_to 1 (codes "0") 0 0 ∷ []; subnets = [] }

abbrev pair_asked : Asked
pair_asked = record {
  area = 0;
  default_cost = Some 5;
  items = line 3 (FreeAll 1 9)
      ∷ line 4 (Path (record { hops = (codes "A", codes "0") ∷ []; last = codes "B" }) []) ∷ [];
}

present_resolves : present_fault pair_asked pair ≡ None
present_resolves = refl

-- in the present every interface is fixed, whatever is free in the request file
present_problem : present_problem_of pair_asked pair ≡ record {
  graph = record {
    vertices = RouterVertex 0 ∷ RouterVertex 1 ∷ [];
    edges = record { from = 0; to = 1; price = Fixed 5 } ∷ record { from = 1; to = 0; price = Fixed 5 } ∷ [];
  };
  vars = [];
  low = [];
  high = [];
  requests = record { path = record { start = 0; edges = 0 ∷ [] }; end = 1; excluded = [] } ∷ [];
}
present_problem = refl
