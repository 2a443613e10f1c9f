-- What the decided caps have come to, and how the answer tells it.
use Rattle.std.proofs.Common.{◌≡◌, ◌∙◌, ℕ, refl, sym, ap, subst, List, [], ◌∷◌, ◌++◌, append-nil, append_assoc}
use Rattle.std.specs.Prelude.{Option, None, Some}
use Rattle.design_problem.specs.declared.tree.Entry.{Entry}
use Rattle.design_problem.specs.declared.answer.CapTree.{CapTree}
use Rattle.design_problem.specs.declared.form.Row.{Row}
use Rattle.design_problem.specs.Problems.{DesignProblem}
use Rattle.design_problem.specs.Rows.{greatest_cost}
use Rattle.design_problem.specs.Answers.{AnswerParts, greatest_bound}
use Rattle.cut_advisors.specs.declared.candidate.Candidate.{Candidate}
use Rattle.form_search.specs.declared.found.Found.{Found}
use Rattle.form_search.specs.declared.found.Found.TheVariants.{Costs as FoundCosts, Refuted, Undecided}
use Rattle.form_search.specs.AdvisorsAsked.{AreAdvisorsLeft, IsSearched}
use Rattle.printed_rows.specs.NewNumbers.{ArePrinted, HasNumbers, named_in, new_number}
use Rattle.cost_branching.specs.Pools.{Pooled}
use Rattle.cost_branching.specs.AdvisorsAsked.{IsAskedAt}
use Rattle.cost_branching.proofs.Advising.{cap_searched, turns_left}
use Rattle.least_bound.specs.declared.so_far.Best.{Best}
use Rattle.least_bound.specs.declared.so_far.Best.TheVariants.{Costs}
use Rattle.least_bound.specs.declared.so_far.SoFar.{SoFar}
use Rattle.least_bound.specs.AdvisorsAsked.{AreAskedAtCaps, AreCapsBehind, AreCapsInOrder, AreSettledCaps, CapDecision, CapsSoFar, TellsCaps, TellsFound, after_cap, after_greatest_bound, cap_between, next_cap, undecided_after}
use Rattle.least_bound.specs.Caps.{caps_of, known_costs, undecided_of}
use Rattle.least_bound.specs.Printing.{ArePrintedIfAny}

-- a cap, and what a search found at it
abbrev pub decision : ℕ → Pooled → Found → CapDecision
decision cap pool found = record { cap = cap; pool = pool; found = found }

-- The caps so far.

-- what comes in order behind what the caps have come to since, does so behind these caps from the old on
abbrev pub AreCapsBefore : DesignProblem → CapsSoFar → CapsSoFar → List CapDecision → Type 0
AreCapsBefore p old new ds = (more : List CapDecision) (a : AnswerParts) → AreCapsInOrder p new more a → AreCapsInOrder p old (ds ++ more) a

-- one cap more
pub before_more : (p : DesignProblem) (old mid new : CapsSoFar) (ds : List CapDecision) (d : CapDecision) → AreCapsBefore p old mid ds →
    next_cap p mid ≡ Some d.cap → new ≡ after_cap mid d.cap d.found → AreCapsBefore p old new (ds ++ d ∷ [])
before_more p old mid new ds d before next is = λ more a are.
    subst (λ (es : List CapDecision). AreCapsInOrder p old es a) (sym (append_assoc ds (d ∷ []) more))
    (before (d ∷ more) a (next, subst (λ (s : CapsSoFar). AreCapsInOrder p s more a) is are))

-- none is left
pub ended_before : (p : DesignProblem) (old new : CapsSoFar) (ds : List CapDecision) (a : AnswerParts) → AreCapsBefore p old new ds →
    next_cap p new ≡ None → TellsCaps p new a → AreCapsInOrder p old ds a
ended_before p old new ds a before next tells =
    subst (λ (es : List CapDecision). AreCapsInOrder p old es a) (append-nil ds) (before [] a (next, tells))

-- the next cap by what is known
pub next_is : (p : DesignProblem) (so_far : SoFar) (next : Option ℕ) → so_far.lowest_cap ≡ greatest_cost p.low →
    next ≡ cap_between so_far.lowest_cap so_far.least so_far.most (known_costs so_far.best) → next_cap p (caps_of so_far) ≡ next
next_is p so_far next lowest_cap is = sym (is ∙ ap (λ (k : ℕ). cap_between k so_far.least so_far.most (known_costs so_far.best)) lowest_cap)

-- What is known behind a cap.

-- costs were found at it
pub caps_costs : (so_far : SoFar) (cap most : ℕ) (found : Found) (w : List ℕ) → found ≡ FoundCosts w → most ≡ greatest_cost w →
    caps_of (record so_far { most = most; best = Costs w }) ≡ after_cap (caps_of so_far) cap found
caps_costs so_far cap most found w found_is most_is =
    ap (λ (k : ℕ). caps_of (record so_far { most = k; best = Costs w })) most_is ∙ ap (λ (f : Found). after_cap (caps_of so_far) cap f) (sym found_is)

-- the budget was used up at it
pub caps_undecided : (so_far : SoFar) (cap : ℕ) (found : Found) (tree : List Entry) (best : Best) → found ≡ Undecided tree →
    known_costs best ≡ known_costs so_far.best →
    undecided_of best ≡ undecided_after (known_costs so_far.best) (undecided_of so_far.best) (record { cap = cap; tree = tree }) →
    caps_of (record so_far { most = cap; best = best }) ≡ after_cap (caps_of so_far) cap found
caps_undecided so_far cap found tree best found_is costs_are tree_is =
    both ∙ ap (λ (f : Found). after_cap (caps_of so_far) cap f) (sym found_is)
  where
    both : caps_of (record so_far { most = cap; best = best }) ≡ after_cap (caps_of so_far) cap (Undecided tree)
    both = λ i. record { least = so_far.least; most = cap; costs = costs_are i; refuted = so_far.kept; undecided = tree_is i }

-- The greatest bound.

-- it was refuted
pub settled_refuted : (p : DesignProblem) (cap : ℕ) (pool : Pooled) (found : Found) (tree : List Entry) (a : AnswerParts) → cap ≡ greatest_bound p →
    found ≡ Refuted tree → TellsFound p None (Some (record { cap = cap; tree = tree })) None a → AreSettledCaps p (decision cap pool found ∷ []) a
settled_refuted p cap pool found tree a cap_is found_is tells = (
  cap_is,
  subst (λ (f : Found). AreCapsBehind p f [] a) (sym found_is)
      (refl, subst (λ (k : ℕ). TellsFound p None (Some (record { cap = k; tree = tree })) None a) cap_is tells),
)

-- costs were found at it
pub settled_by_costs : (p : DesignProblem) (cap : ℕ) (pool : Pooled) (found : Found) (w : List ℕ) (s : CapsSoFar) (ds : List CapDecision)
    (a : AnswerParts) → cap ≡ greatest_bound p → found ≡ FoundCosts w → s ≡ after_greatest_bound p (FoundCosts w) → AreCapsInOrder p s ds a →
    AreSettledCaps p (decision cap pool found ∷ ds) a
settled_by_costs p cap pool found w s ds a cap_is found_is s_is are = (
  cap_is,
  subst (λ (f : Found). AreCapsBehind p f ds a) (sym found_is) (subst (λ (t : CapsSoFar). AreCapsInOrder p t ds a) s_is are),
)

-- the budget was used up at it
pub settled_undecided : (p : DesignProblem) (cap : ℕ) (pool : Pooled) (found : Found) (tree : List Entry) (s : CapsSoFar) (ds : List CapDecision)
    (a : AnswerParts) → cap ≡ greatest_bound p → found ≡ Undecided tree → s ≡ after_greatest_bound p (Undecided tree) → AreCapsInOrder p s ds a →
    AreSettledCaps p (decision cap pool found ∷ ds) a
settled_undecided p cap pool found tree s ds a cap_is found_is s_is are = (
  cap_is,
  subst (λ (f : Found). AreCapsBehind p f ds a) (sym found_is) (subst (λ (t : CapsSoFar). AreCapsInOrder p t ds a) s_is are),
)

-- What the answer tells.

-- the costs as they are printed, and the trees with the new numbers of the rows
pub told_found : (p : DesignProblem) (found : Option (List ℕ)) (kept lent undecided : Option CapTree) (old : List Row) (a : AnswerParts) → lent ≡ kept →
    ArePrinted old lent undecided a.rows a.proof a.undecided → ArePrintedIfAny p found a.costs → TellsFound p found kept undecided a
told_found p found kept lent undecided old a same printed costs = record {
  costs = costs;
  number = new_number (named_in lent undecided);
  proof = subst (λ (t : Option CapTree). HasNumbers (new_number (named_in lent undecided)) t a.proof) same printed.proof_is;
  undecided = printed.undecided_is;
}

-- what the best so far is told to be
pub told_best : (p : DesignProblem) (kept : Option CapTree) (best known : Best) (a : AnswerParts) → best ≡ known →
    TellsFound p (known_costs known) kept (undecided_of known) a → TellsFound p (known_costs best) kept (undecided_of best) a
told_best p kept best known a is tells = subst (λ (b : Best). TellsFound p (known_costs b) kept (undecided_of b) a) (sym is) tells

-- the searches at these caps are searches
pub called_at_caps : {A : Type 0} (IsItself : A → A → Type 0) (state : A → List ℕ) (would : A → List ℕ → List Candidate → ℕ)
    (left : A → List ℕ → List Candidate → List ℕ) (after : A → List ℕ → Entry → List ℕ) (p : DesignProblem) (top nodes : ℕ)
    (decisions : List CapDecision) (old new : List A) →
    AreAskedAtCaps IsItself state would left after p top nodes decisions old new →
    AreAdvisorsLeft (IsSearched IsItself state would left after) old new
called_at_caps IsItself state would left after p top nodes decisions old new are =
    turns_left (λ (d : CapDecision). IsAskedAt IsItself state would left after p top nodes d.cap d.pool d.found) (IsSearched IsItself state would left after)
    decisions old new
    (λ d xs ys asked. cap_searched IsItself state would left after p top nodes d.cap d.pool d.found xs ys asked) are
