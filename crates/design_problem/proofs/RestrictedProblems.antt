-- A restricted problem keeps what every problem keeps.
use Rattle.std.proofs.Common.{◌≡◌, ℕ, zero, suc, ◌+◌, ◌<◌, ◌≤◌, sym, subst, List, [], ◌∷◌, map, length, get_or, arith}
use Rattle.std.specs.Prelude.{All}
use Rattle.std.specs.List.Sorted.{IsStrictlyIncreasing}
use Rattle.std.proofs.lemmas.List.{length-map, get_or-map}
use Rattle.area_graph.specs.Area.{Area}
use Rattle.area_graph.specs.Paths.{IsPathOf}
use Rattle.design_problem.specs.declared.problem.VarName.{VarName}
use Rattle.design_problem.specs.declared.problem.Request.{Request}
use Rattle.design_problem.specs.Problems.{DesignProblem, IsProblem, MayBeExcluded, request_ends, no_request, request_at, restricted}

-- rising numbers are at least their places
increasing_above : (xs : List ℕ) (k : ℕ) → IsStrictlyIncreasing xs → k < length xs → k ≤ get_or xs k 0
increasing_above xs zero rising k_in = omega arith
increasing_above xs (suc k) rising k_in =
    let before = increasing_above xs k rising (omega arith) in
    let e : k + 1 ≡ suc k = omega arith in
    let step = subst (λ (n : ℕ). get_or xs k 0 < get_or xs n 0) e (rising k (omega arith)) in
    omega arith

-- rising numbers below n are at most n
pub increasing-le : (n : ℕ) (xs : List ℕ) → IsStrictlyIncreasing xs → All (λ x. x < n) xs → length xs ≤ n
increasing-le n [] rising below = omega arith
increasing-le n (x ∷ xs) rising below =
    let last = increasing_above (x ∷ xs) (length xs) rising (omega arith) in
    let within = below (length xs) 0 (omega arith) in
    omega arith

-- what each request keeps, each chosen one keeps
chosen_keep : (P : Request → Type 0) (requests : List Request) (members : List ℕ) → All P requests →
    All (λ m. m < length requests) members → All P (map (request_at requests) members)
chosen_keep P requests members each known k d k_in =
    let within : k < length members = omega (arith, length-map members (request_at requests)) in
    subst P (sym (get_or-map (request_at requests) members k 0 d within)) (each (get_or members k 0) no_request (known k 0 within))

pub restricted_kept : (p : DesignProblem) (members : List ℕ) → IsProblem p → IsStrictlyIncreasing members →
    All (λ m. m < length p.requests) members → IsProblem (restricted p members)
restricted_kept p members kept rising known = record {
  requests = chosen_keep (λ r. IsPathOf p.graph (request_ends r) r.path.edges) p.requests members kept.requests known;
  excluded = chosen_keep (λ r. MayBeExcluded p.graph r.excluded) p.requests members kept.excluded known;
  low_count = kept.low_count;
  var_count = kept.var_count;
  ordered = kept.ordered;
  priced = kept.priced;
  named = kept.named;
  each_named = kept.each_named;
  words = kept.words;
  request_count = let few = increasing-le (length p.requests) members rising known in
      omega (arith, kept.request_count, length-map members (request_at p.requests));
}

-- a problem is its parts
pub same_problem : (g h : Area) (vs us : List VarName) (ls ms hs ks : List ℕ) (rs qs : List Request) → g ≡ h → vs ≡ us →
    ls ≡ ms → hs ≡ ks → rs ≡ qs →
    (let p : DesignProblem = record { graph = g; vars = vs; low = ls; high = hs; requests = rs } in p)
    ≡ (let q : DesignProblem = record { graph = h; vars = us; low = ms; high = ks; requests = qs } in q)
same_problem g h vs us ls ms hs ks rs qs a b c d e = λ i. record { graph = a i; vars = b i; low = c i; high = d i; requests = e i }
