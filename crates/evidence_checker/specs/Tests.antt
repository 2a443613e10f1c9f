-- The tests of a checker of answers, in their order, each with its number.
use Rattle.std.specs.Prelude.{◌≡◌, ℕ, ◌+◌, ◌^◌, ◌<◌, ◌≤◌, ◌⊎◌, List, [], ◌∷◌, ◌++◌, pos, ◌≤ℤ◌, length, slice_index, slice_get, All, Any, Option, None, Some, sum_by}
use Rattle.std.specs.List.{AllZip}
use Rattle.cost_base.specs.Order.{FirstOf, NoneOf}
use Rattle.area_graph.specs.Costs.{at_costs, IsOnlyCheapest}
use Rattle.design_problem.specs.declared.answer.Verdict.{Verdict}
use Rattle.design_problem.specs.declared.answer.Verdict.TheVariants.{Optimal, Impossible, Undecided}
use Rattle.design_problem.specs.declared.answer.Costs.{Costs}
use Rattle.design_problem.specs.declared.answer.CostLine.{CostLine}
use Rattle.design_problem.specs.declared.answer.Floor.{Floor}
use Rattle.design_problem.specs.declared.answer.Floor.TheVariants.{Absent, Empty, Var}
use Rattle.design_problem.specs.declared.answer.CapTree.{CapTree}
use Rattle.design_problem.specs.declared.form.Form.{Form}
use Rattle.design_problem.specs.declared.boxes.CostBox.{CostBox}
use Rattle.design_problem.specs.declared.form.Row.{Row}
use Rattle.design_problem.specs.declared.problem.VarName.{VarName}
use Rattle.design_problem.specs.declared.tree.Entry.{Entry}
use Rattle.design_problem.specs.declared.tree.Entry.TheVariants.{Tighten, Split, Halve, Refute, Undone}
use Rattle.design_problem.specs.Problems.{DesignProblem, request_ends, request_at}
use Rattle.design_problem.specs.Boxes.{capped, greatest}
use Rattle.design_problem.specs.Forms.{weighted}
use Rattle.design_problem.specs.Trees.{TightensAt, CutsAt, subboxes}
use Rattle.design_problem.specs.Rows.{HasRoute, path_edges, box_of, forms_of_rows, greatest_cost}
use Rattle.design_problem.specs.Answers.{AnswerParts, greatest_bound}
use Rattle.design_problem.specs.GivenCosts.{GivesCost, costs_given}
use Rattle.evidence_checker.specs.declared.fault.CheckFault.TheVariants.{NothingClaimed, WrongShape, WrongPlaces, UnequalEnds, OutOfBounds, WrongGreatest, NotOnlyCheapest, FalseFloor, NotAPath, NotARival, GreatMultipliers, NothingRefuted, UnsoundEntry, OpenLeaf}
use Rattle.evidence_checker.specs.Numbers.{check_fault_number}
use Rattle.evidence_checker.specs.Refusals.{FailedTest, AtNoPlace, AtFirst, OnItem, AtFirstItem}

-- 49: the verdict claims nothing
abbrev pub ClaimsNothing : Verdict → Type 0
ClaimsNothing (Optimal k) = ⊥
ClaimsNothing Impossible = ⊥
ClaimsNothing (Undecided cap) = Unit {0}

-- exactly one of floor and proof stands; a proof is at the cap below k, and no lower bound is above that cap
abbrev pub ShapeOfLeast : DesignProblem → ℕ → Floor → Option CapTree → Type 0
ShapeOfLeast p k Absent (Some proof) = (proof.cap + 1 ≡ k) × All (λ low. low ≤ proof.cap) p.low
ShapeOfLeast p k Absent None = ⊥
ShapeOfLeast p k Empty None = Unit {0}
ShapeOfLeast p k Empty (Some proof) = ⊥
ShapeOfLeast p k (Var v) None = Unit {0}
ShapeOfLeast p k (Var v) (Some proof) = ⊥

-- a proof stands at the greatest bound, and no floor
abbrev pub ShapeOfNone : DesignProblem → Floor → Option CapTree → Type 0
ShapeOfNone p Absent (Some proof) = proof.cap ≡ greatest_bound p
ShapeOfNone p Absent None = ⊥
ShapeOfNone p Empty proof = ⊥
ShapeOfNone p (Var v) proof = ⊥

-- the parts that a verdict needs, and no others
abbrev pub ShapeOfClaim : DesignProblem → Verdict → Option Costs → Floor → Option CapTree → Type 0
ShapeOfClaim p (Optimal k) (Some costs) floor proof = ShapeOfLeast p k floor proof
ShapeOfClaim p (Optimal k) None floor proof = ⊥
ShapeOfClaim p Impossible None floor proof = ShapeOfNone p floor proof
ShapeOfClaim p Impossible (Some costs) floor proof = ⊥
ShapeOfClaim p (Undecided cap) costs floor proof = ⊥

-- 51: the answer lacks the shape of its verdict, or an undecided tree stands
abbrev pub HasWrongShape : DesignProblem → AnswerParts → Type 0
HasWrongShape p a = ShapeOfClaim p a.verdict a.costs a.floor a.proof × (a.undecided ≡ None) → ⊥

-- 50: the cost lines don't name the free interfaces, each once, in order
abbrev pub NamesPlaces : List VarName → List CostLine → Type 0
NamesPlaces names lines = AllZip (λ name line. (line.router ≡ name.router) × (line.interface ≡ name.interface)) names lines

-- 53: two lines of the variable have different costs
abbrev pub HasUnequalEnds : List VarName → List CostLine → ℕ → Type 0
HasUnequalEnds names lines var = (c : ℕ) × (d : ℕ) × GivesCost names lines var c × GivesCost names lines var d × (c ≡ d → ⊥)

-- 45: the variable's cost is outside its bounds
abbrev pub IsOutside : List ℕ → List ℕ → List ℕ → ℕ → Type 0
IsOutside low high w var = (var < length low) × ((slice_index w var < slice_index low var) ⊎ (slice_index high var < slice_index w var))

-- 47: the claim, the number before the lines and the greatest cost aren't all equal
abbrev pub HasWrongGreatest : ℕ → ℕ → List ℕ → Type 0
HasWrongGreatest k printed w = (printed ≡ k) × (greatest_cost w ≡ k) → ⊥

-- 46: the request's path isn't the only cheapest among the simple paths of the request
abbrev pub IsNotOnly : DesignProblem → List ℕ → ℕ → Type 0
IsNotOnly p w request =
    (request < length p.requests) × (IsOnlyCheapest p.graph (at_costs w) (request_ends (request_at p.requests request))
    (request_at p.requests request).path.edges → ⊥)

-- 52: the floor is no variable whose lower bound is k, or says that there is no variable where there is one
abbrev pub IsFalseFloor : DesignProblem → ℕ → Floor → Type 0
IsFalseFloor p k Absent = ⊥
IsFalseFloor p k Empty = length p.low ≡ 0 → ⊥
IsFalseFloor p k (Var v) = (v < length p.low) × (slice_index p.low v ≡ k) → ⊥

-- the tests of the costs and the floor of an optimal answer; an impossible one has nothing to speak of
abbrev pub cost_tests : DesignProblem → Verdict → Option Costs → Floor → List (FailedTest → Type 0)
cost_tests p (Optimal k) (Some costs) floor =
    AtNoPlace (check_fault_number WrongPlaces) (NamesPlaces p.vars costs.lines → ⊥)
    ∷ AtFirst (check_fault_number UnequalEnds) (HasUnequalEnds p.vars costs.lines)
    ∷ AtFirst (check_fault_number OutOfBounds) (IsOutside p.low p.high (costs_given p costs.lines))
    ∷ AtNoPlace (check_fault_number WrongGreatest) (HasWrongGreatest k costs.greatest (costs_given p costs.lines))
    ∷ AtFirst (check_fault_number NotOnlyCheapest) (IsNotOnly p (costs_given p costs.lines))
    ∷ AtNoPlace (check_fault_number FalseFloor) (IsFalseFloor p k floor)
    ∷ []
cost_tests p (Optimal k) None floor = []
cost_tests p Impossible costs floor = []
cost_tests p (Undecided cap) costs floor = []

-- the tests of a row: 40, it is no simple path of a request; 41, it is the wanted path
abbrev pub row_tests : DesignProblem → Row → List (ℕ → Type 0)
row_tests p row =
    OnItem (check_fault_number NotAPath) (HasRoute p row → ⊥)
    ∷ OnItem (check_fault_number NotARival) (row.rival ≡ path_edges (slice_get p.requests row.request))
    ∷ []

-- 48: the sum of a Refute's multipliers is 2^100 or more
abbrev pub HasGreatSum : Entry → Type 0
HasGreatSum (Tighten var side value row) = ⊥
HasGreatSum (Split var value) = ⊥
HasGreatSum (Halve var value wide) = ⊥
HasGreatSum (Refute parts) = 2 ^ 100 ≤ sum_by (λ part. part.1) parts
HasGreatSum Undone = ⊥

-- 43: a Refute names a row out of range, or its weighted sum isn't negative at its greatest over the box
abbrev pub RefutesNothing : List Form → CostBox → Entry → Type 0
RefutesNothing forms box (Tighten var side value row) = ⊥
RefutesNothing forms box (Split var value) = ⊥
RefutesNothing forms box (Halve var value wide) = ⊥
RefutesNothing forms box (Refute parts) = Any (λ part. length forms ≤ part.0) parts ⊎ (pos 0 ≤ℤ greatest (weighted forms parts) box)
RefutesNothing forms box Undone = ⊥

-- 42: a Tighten, a Split or a Halve is no sound step at the box
abbrev pub IsUnsoundEntry : List Form → CostBox → Entry → Type 0
IsUnsoundEntry forms box (Tighten var side value row) = TightensAt forms box side var value row → ⊥
IsUnsoundEntry forms box (Split var value) = CutsAt box var value → ⊥
IsUnsoundEntry forms box (Halve var value wide) = CutsAt box var value → ⊥
IsUnsoundEntry forms box (Refute parts) = ⊥
IsUnsoundEntry forms box Undone = ⊥

-- 44: nothing is said of the box
abbrev pub IsOpenLeaf : Entry → Type 0
IsOpenLeaf (Tighten var side value row) = ⊥
IsOpenLeaf (Split var value) = ⊥
IsOpenLeaf (Halve var value wide) = ⊥
IsOpenLeaf (Refute parts) = ⊥
IsOpenLeaf Undone = Unit {0}

-- the tests of a line of a tree, at its box
abbrev pub line_tests : List Form → CostBox → Entry → List (ℕ → Type 0)
line_tests forms box entry =
    OnItem (check_fault_number GreatMultipliers) (HasGreatSum entry)
    ∷ OnItem (check_fault_number NothingRefuted) (RefutesNothing forms box entry)
    ∷ OnItem (check_fault_number UnsoundEntry) (IsUnsoundEntry forms box entry)
    ∷ OnItem (check_fault_number OpenLeaf) (IsOpenLeaf entry)
    ∷ []

-- the first line of a tree that fails a test, where each next line speaks of the first box that is still open
abbrev pub AtFirstLine : List Form → List CostBox → ℕ → List Entry → FailedTest → Type 0
AtFirstLine forms [] place entries f = ⊥
AtFirstLine forms (box ∷ boxes) place [] f = ⊥
AtFirstLine forms (box ∷ boxes) place (entry ∷ entries) f =
    ((f.place ≡ place) × FirstOf (line_tests forms box entry) f.number)
    ⊎ (NoneOf (line_tests forms box entry) × AtFirstLine forms (subboxes box entry ++ boxes) (place + 1) entries f)

-- the tests of the proof, where there is one: those of its lines, over the box at its cap
abbrev pub proof_tests : DesignProblem → List Row → Option CapTree → List (FailedTest → Type 0)
proof_tests p rows None = []
proof_tests p rows (Some proof) = AtFirstLine (forms_of_rows p rows) (capped (box_of p) proof.cap ∷ []) 0 proof.tree ∷ []

-- all tests, in their order
abbrev pub tests : DesignProblem → AnswerParts → List (FailedTest → Type 0)
tests p a =
    AtNoPlace (check_fault_number NothingClaimed) (ClaimsNothing a.verdict)
    ∷ AtNoPlace (check_fault_number WrongShape) (HasWrongShape p a)
    ∷ cost_tests p a.verdict a.costs a.floor
    ++ AtFirstItem (row_tests p) 0 a.rows
    ∷ proof_tests p a.rows a.proof
