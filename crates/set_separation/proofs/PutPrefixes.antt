-- The prefix of a place, whose edges are found from the place back to the root.
use Rattle.std.proofs.Common.{◌≡◌, ◌-◌, ℕ, ◌+◌, ◌<◌, ◌≤◌, sym, ◌∙◌, ap, List, [], ◌∷◌, ◌++◌, length, reverse, arith, append-nil, append_assoc, length-append}
use Rattle.std.specs.Prelude.{◌≢◌}
use Rattle.std.proofs.lemmas.List.{length-reverse, reverse-append}
use Rattle.area_graph.specs.Area.{Area, FitsGraph}
use Rattle.area_graph.specs.Paths.{Ends}
use Rattle.set_separation.specs.declared.prefix_tree.Step.{Step}
use Rattle.set_separation.specs.PrefixTrees.{IsGrown, IsPrefixTree, prefix_of_place, step_at}
use Rattle.set_separation.proofs.DeviationLemmas.{place_short}

-- the edges, last first, from an earlier place to a place
pub record IsPutBack (steps : List Step) (place earlier : ℕ) (path : List ℕ) : Type 0 where
  pub known : earlier ≤ length steps
  pub whole : (wanted done : List (List ℕ)) (tree : IsGrown wanted done steps) →
      prefix_of_place tree.prefixes place ≡ prefix_of_place tree.prefixes earlier ++ reverse path

pub nothing_put : (steps : List Step) (place : ℕ) → place ≤ length steps → IsPutBack steps place place []
nothing_put steps place known = record { known = known; whole = λ wanted done tree. sym (append-nil (prefix_of_place tree.prefixes place)) }

-- the prefix of a place behind a step
stepped : (wanted done : List (List ℕ)) (steps : List Step) (tree : IsGrown wanted done steps) (earlier : ℕ) →
    earlier ≤ length steps → earlier ≢ 0 →
    prefix_of_place tree.prefixes earlier ≡ prefix_of_place tree.prefixes (step_at steps (earlier - 1)).place ++ (step_at steps (earlier - 1)).edge ∷ []
stepped wanted done steps tree earlier known other =
    ap (λ (k : ℕ). prefix_of_place tree.prefixes k) (let e : earlier ≡ (earlier - 1) + 1 = omega (arith, other) in e)
    ∙ tree.grown (earlier - 1) (omega (arith, other))

-- so that there is a place for one more
pub put_short : (g : Area) (ends : Ends) (wanted : List (List ℕ)) (steps : List Step) → IsPrefixTree g ends wanted steps →
    FitsGraph g → (place earlier : ℕ) (path : List ℕ) → place ≤ length steps → earlier ≢ 0 →
    IsPutBack steps place earlier path → length path < length g.vertices
put_short g ends wanted steps tree graph place earlier path within other put =
    let short = place_short g ends wanted steps tree graph place within in
    let last = ap length (stepped wanted wanted steps tree.grown earlier put.known other) in
    let one = length-append (prefix_of_place tree.grown.prefixes (step_at steps (earlier - 1)).place) ((step_at steps (earlier - 1)).edge ∷ []) in
    let whole = ap length (put.whole wanted wanted tree.grown) in
    let parts = length-append (prefix_of_place tree.grown.prefixes earlier) (reverse path) in
    let same = length-reverse path in
    omega arith

-- one step back
pub put_more : (steps : List Step) (place earlier : ℕ) (path new : List ℕ) → earlier ≢ 0 →
    (step_at steps (earlier - 1)).place ≤ length steps → IsPutBack steps place earlier path →
    new ≡ path ++ (step_at steps (earlier - 1)).edge ∷ [] → IsPutBack steps place (step_at steps (earlier - 1)).place new
put_more steps place earlier path new other known put is = record {
  known = known;
  whole = λ wanted done tree.
      let before = prefix_of_place tree.prefixes (step_at steps (earlier - 1)).place in
      let edge = (step_at steps (earlier - 1)).edge in
      put.whole wanted done tree
      ∙ ap (λ (es : List ℕ). es ++ reverse path) (stepped wanted done steps tree earlier put.known other)
      ∙ append_assoc before (edge ∷ []) (reverse path)
      ∙ ap (λ (es : List ℕ). before ++ es) (sym (ap reverse is ∙ reverse-append path (edge ∷ [])));
}

-- back at the root
pub put_whole : (wanted done : List (List ℕ)) (steps : List Step) (tree : IsGrown wanted done steps) (place earlier : ℕ)
    (path : List ℕ) → earlier ≡ 0 → IsPutBack steps place earlier path → reverse path ≡ prefix_of_place tree.prefixes place
put_whole wanted done steps tree place earlier path root put =
    sym (put.whole wanted done tree ∙ ap (λ (es : List ℕ). es ++ reverse path) (ap (λ (k : ℕ). prefix_of_place tree.prefixes k) root ∙ tree.root))
