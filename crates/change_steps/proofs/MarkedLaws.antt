-- Variables on paths, item by item, and edges that have variables of their own.
use Rattle.std.proofs.Common.{◌≡◌, ℕ, ◌+◌, ◌<◌, ◌≤◌, refl, sym, ◌∙◌, ap, subst, List, [], ◌++◌, All, length, get_or, set, take, drop, inl, inr, arith, Bool, true, false, ◌||◌, ◌&&◌, take_all}
use Rattle.std.specs.Prelude.{not, ◌==◌}
use Rattle.std.proofs.Math.Bool.{or_assoc}
use Rattle.std.proofs.lemmas.Bool.{and_from, and_parts, both_ways, cases_lt, not_from_false, not-true, false≢true, and_right}
use Rattle.std.proofs.lemmas.List.{drop_more, take-append-drop}
use Rattle.std.proofs.lemmas.List.Folds.{list_all_at, list_all_more, list_any_at, list_any_more}
use Rattle.std.specs.List.{list_all}
use Rattle.cost_base.specs.Marks.{is_marked}
use Rattle.cost_base.proofs.MarkLaws.{written_mark}
use Rattle.area_graph.specs.Area.{Area, edge_at}
use Rattle.area_graph.specs.Paths.{IsPathOf}
use Rattle.area_graph.proofs.Visits.{joined_known}
use Rattle.design_problem.specs.Problems.{no_request, request_at, request_ends}
use Rattle.design_problem.specs.Rows.{is_var}
use Rattle.change_steps.specs.declared.kinds.Kind.{Kind}
use Rattle.change_steps.specs.declared.kinds.Kind.TheVariants.{First, Between, Last}
use Rattle.change_steps.specs.Rollouts.{IsRollout, Rollout, step_count}
use Rattle.change_steps.specs.Orders.{IsOnlyIn}
use Rattle.change_steps.specs.Kinds.{comes_between, falls_off_held, goes_over, kind_of_step, lies_on_held, rises, rises_off_held}
use Rattle.change_steps.specs.States.{MayFollow}
use Rattle.change_steps.specs.Outcomes.{IsFirstLost}
use Rattle.change_steps.specs.Search.{AreHeldMarks}

-- marks behind a write, where there is one of the number
pub mark_written : (old new : List Bool) (place v : ℕ) → new ≡ set old place true → v < length old → is_marked new v ≡ (is_marked old v || (place == v))
mark_written old new place v put within =
    ap (λ (ms : List Bool). is_marked ms v) put ∙ written_mark old place v (λ same. subst (λ (k : ℕ). k < length old) same within)

-- Paths.

pub goes_none : (g : Area) (v : ℕ) → goes_over g [] v ≡ false
unfolding goes_over
goes_none g v = refl

pub goes_more : (g : Area) (es : List ℕ) (i v : ℕ) → i < length es →
    goes_over g (take (i + 1) es) v ≡ (goes_over g (take i es) v || is_var v (edge_at g (get_or es i 0)).price)
unfolding goes_over
goes_more g es i v within = list_any_more (λ e. is_var v (edge_at g e).price) es i 0 within

pub goes_at : (g : Area) (es : List ℕ) (i v : ℕ) → i < length es → is_var v (edge_at g (get_or es i 0)).price ≡ true → true ≡ goes_over g es v
unfolding goes_over
goes_at g es i v within is = sym (list_any_at (λ e. is_var v (edge_at g e).price) es i 0 within is)

pub goes_all : (g : Area) (es : List ℕ) (i v : ℕ) → length es ≤ i → goes_over g (take i es) v ≡ goes_over g es v
goes_all g es i v past = ap (λ (xs : List ℕ). goes_over g xs v) (take_all i es past)

-- marks of a path with one edge more
pub path_more : (g : Area) (es : List ℕ) (i v : ℕ) (was here now : Bool) → i < length es → here ≡ (was || goes_over g (take i es) v) →
    now ≡ (here || is_var v (edge_at g (get_or es i 0)).price) → now ≡ (was || goes_over g (take (i + 1) es) v)
path_more g es i v was here now within so_far more =
    more ∙ ap (λ (b : Bool). b || is_var v (edge_at g (get_or es i 0)).price) so_far
    ∙ or_assoc was (goes_over g (take i es) v) (is_var v (edge_at g (get_or es i 0)).price)
    ∙ ap (λ (b : Bool). was || b) (sym (goes_more g es i v within))

-- the edges of a path of a request are edges of the graph
pub path_known : (r : Rollout) (k : ℕ) → IsRollout r → k < length r.requests → All (λ e. e < length r.graph.edges) (request_at r.requests k).path.edges
path_known r k is within =
    let path : IsPathOf r.graph (request_ends (request_at r.requests k)) (request_at r.requests k).path.edges = is.requests k no_request within in
    joined_known r.graph (request_at r.requests k).path.start (request_at r.requests k).path.edges (request_at r.requests k).end path.simple.joins

-- Held paths.

pub held_none_marked : (r : Rollout) (marks : List Bool) → length marks ≡ length r.moves.present → ((v : ℕ) → get_or marks v false ≡ false) →
    AreHeldMarks r [] marks
unfolding lies_on_held
held_none_marked r marks count none = record { count = count; told = λ v within. none v ∙ nothing v }
  where
    nothing : (v : ℕ) → false ≡ lies_on_held r [] v
    nothing v = refl

lies_more : (r : Rollout) (held : List ℕ) (i v : ℕ) → i < length held →
    lies_on_held r (take (i + 1) held) v ≡ (lies_on_held r (take i held) v || goes_over r.graph (request_at r.requests (get_or held i 0)).path.edges v)
unfolding lies_on_held
lies_more r held i v within = list_any_more (λ k. goes_over r.graph (request_at r.requests k).path.edges v) held i 0 within

pub held_more_marked : (r : Rollout) (held edges : List ℕ) (i : ℕ) (marks new : List Bool) (g : Area) → i < length held →
    AreHeldMarks r (take i held) marks → g ≡ r.graph → edges ≡ (request_at r.requests (get_or held i 0)).path.edges → length new ≡ length marks →
    ((v : ℕ) → v < length marks → get_or new v false ≡ (get_or marks v false || goes_over g edges v)) → AreHeldMarks r (take (i + 1) held) new
held_more_marked r held edges i marks new g within are graph edges_are count told = record {
  count = count ∙ are.count;
  told = λ v known.
      let near : v < length marks = let as_many = are.count in omega (arith, as_many, known) in
      told v near ∙ ap (λ (b : Bool). b || goes_over g edges v) (are.told v known)
      ∙ ap (λ (h : Area). lies_on_held r (take i held) v || goes_over h edges v) graph
      ∙ ap (λ (es : List ℕ). lies_on_held r (take i held) v || goes_over r.graph es v) edges_are
      ∙ sym (lies_more r held i v within);
}

-- Variables off held paths, one after another.

all_more : (p : ℕ → Bool) (xs : List ℕ) (i : ℕ) → i < length xs → list_all p (take i xs) ≡ true → p (get_or xs i 0) ≡ true → list_all p (take (i + 1) xs) ≡ true
all_more p xs i within so_far here = list_all_more p xs i 0 within ∙ and_from (list_all p (take i xs)) (p (get_or xs i 0)) so_far here

off_held : (r : Rollout) (held : List ℕ) (marks : List Bool) (v : ℕ) → AreHeldMarks r held marks → v < length r.moves.present → get_or marks v false ≡ false →
    not (lies_on_held r held v) ≡ true
off_held r held marks v are known left = not_from_false (lies_on_held r held v) (sym (are.told v known) ∙ left)

pub risen_more : (r : Rollout) (held : List ℕ) (marks : List Bool) (variables : List ℕ) (i : ℕ) → i < length variables →
    get_or variables i 0 < length r.moves.present →
    AreHeldMarks r held marks → rises r.moves (get_or variables i 0) ≡ true → get_or marks (get_or variables i 0) false ≡ false →
    list_all (rises_off_held r held) (take i variables) ≡ true → list_all (rises_off_held r held) (take (i + 1) variables) ≡ true
risen_more r held marks variables i within known are rise left so_far =
    all_more (rises_off_held r held) variables i within so_far
    (and_from (rises r.moves (get_or variables i 0)) (not (lies_on_held r held (get_or variables i 0))) rise
    (off_held r held marks (get_or variables i 0) are known left))

pub fallen_more : (r : Rollout) (held : List ℕ) (marks : List Bool) (variables : List ℕ) (i : ℕ) → i < length variables →
    get_or variables i 0 < length r.moves.present →
    AreHeldMarks r held marks → rises r.moves (get_or variables i 0) ≡ false → get_or marks (get_or variables i 0) false ≡ false →
    list_all (falls_off_held r held) (take i variables) ≡ true → list_all (falls_off_held r held) (take (i + 1) variables) ≡ true
fallen_more r held marks variables i within known are fall left so_far =
    all_more (falls_off_held r held) variables i within so_far
    (and_from (not (rises r.moves (get_or variables i 0))) (not (lies_on_held r held (get_or variables i 0)))
    (not_from_false (rises r.moves (get_or variables i 0)) fall)
    (off_held r held marks (get_or variables i 0) are known left))

-- a variable of another kind, and one that is on a held path
fails_at : (p : ℕ → Bool) (xs : List ℕ) (i : ℕ) → i < length xs → p (get_or xs i 0) ≡ false → false ≡ list_all p xs
fails_at p xs i within here = sym (list_all_at p xs i 0 within here)

pub not_risen : (r : Rollout) (held variables : List ℕ) (i : ℕ) → i < length variables → rises r.moves (get_or variables i 0) ≡ false →
    false ≡ list_all (rises_off_held r held) variables
not_risen r held variables i within fall =
    fails_at (rises_off_held r held) variables i within (ap (λ (b : Bool). b && not (lies_on_held r held (get_or variables i 0))) fall)

pub not_fallen : (r : Rollout) (held variables : List ℕ) (i : ℕ) → i < length variables → rises r.moves (get_or variables i 0) ≡ true →
    false ≡ list_all (falls_off_held r held) variables
not_fallen r held variables i within rise =
    fails_at (falls_off_held r held) variables i within (ap (λ (b : Bool). not b && not (lies_on_held r held (get_or variables i 0))) rise)

pub not_off : (r : Rollout) (held : List ℕ) (marks : List Bool) (variables : List ℕ) (i : ℕ) (test : ℕ → Bool) → i < length variables →
    get_or variables i 0 < length r.moves.present → AreHeldMarks r held marks → get_or marks (get_or variables i 0) false ≡ true →
    false ≡ list_all (λ v. test v && not (lies_on_held r held v)) variables
not_off r held marks variables i test within known are marked =
    fails_at (λ v. test v && not (lies_on_held r held v)) variables i within
    (and_right (test (get_or variables i 0)) (not (lies_on_held r held (get_or variables i 0))) (ap not (sym (are.told (get_or variables i 0) known) ∙ marked)))

-- Steps that may follow.

between_is : (kind : Kind) → comes_between kind ≡ true → kind ≡ Between
between_is First is = absurd (false≢true is)
between_is Between is = refl
between_is Last is = absurd (false≢true is)

pub follows_by : (r : Rollout) (held : List ℕ) (marks : List Bool) (k : ℕ) → k < step_count r →
    (comes_between (kind_of_step r held k) && not (is_marked marks k)) ≡ true → MayFollow r held marks k
follows_by r held marks k known test =
    let parts = and_parts (comes_between (kind_of_step r held k)) (not (is_marked marks k)) test in
    record { known = known; between = between_is (kind_of_step r held k) parts.0; left = not-true (is_marked marks k) parts.1 }

pub follows_test : (r : Rollout) (held : List ℕ) (marks : List Bool) (k : ℕ) → MayFollow r held marks k →
    (comes_between (kind_of_step r held k) && not (is_marked marks k)) ≡ true
follows_test r held marks k follows =
    and_from (comes_between (kind_of_step r held k)) (not (is_marked marks k)) (ap comes_between follows.between)
    (not_from_false (is_marked marks k) follows.left)

-- none of the first n, and one more
pub none_follow_more : (r : Rollout) (held : List ℕ) (marks : List Bool) (n : ℕ) → ((k : ℕ) → k < n → MayFollow r held marks k → ⊥) →
    (comes_between (kind_of_step r held n) && not (is_marked marks n)) ≡ false → (k : ℕ) → k < n + 1 → MayFollow r held marks k → ⊥
none_follow_more r held marks n none test k below follows = elim (cases_lt k n) [
  | inl before ↦ none k before follows
  | inr last ↦
      let same : k ≡ n = omega (arith, below, last) in
      both_ways (comes_between (kind_of_step r held n) && not (is_marked marks n)) test
      (follows_test r held marks n (subst (MayFollow r held marks) same follows))
]

-- Held paths one after another.

pub lost_at : (r : Rollout) (held : List ℕ) (done : ℕ → Bool) (i : ℕ) → i < length held → All (IsOnlyIn r done) (take i held) →
    (IsOnlyIn r done (get_or held i 0) → ⊥) → IsFirstLost r held done (get_or held i 0)
lost_at r held done i within hold lost = record {
  before = take i held;
  after = drop (i + 1) held;
  same = sym (take-append-drop i held) ∙ ap (λ (xs : List ℕ). take i held ++ xs) (drop_more held i 0 within);
  hold = hold;
  lost = lost;
}
