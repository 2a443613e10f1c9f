-- The costs that the lines give the variables.
use Rattle.std.proofs.Common.{◌≡◌, ℕ, zero, suc, ◌<◌, refl, sym, ◌∙◌, ap, subst, List, [], ◌∷◌, length, get_or, replicate, arith, inl, inr, length-set, get_or-set_other}
use Rattle.std.specs.Prelude.{slice_index, slice_set, ◌⊎◌, Any}
use Rattle.std.specs.List.{AllZip}
use Rattle.std.proofs.lemmas.List.{length-replicate}
use native.Mathlib.Decide.{ℕ_discrete}
use Rattle.std.proofs.lemmas.Grind.{get_or-set_at, same_number_lists}
use Rattle.design_problem.specs.declared.answer.CostLine.{CostLine}
use Rattle.design_problem.specs.declared.problem.VarName.{VarName}
use Rattle.design_problem.specs.Answers.{CostLinesOf}
use Rattle.design_problem.specs.GivenCosts.{GivesCost, written, costs_given}
use Rattle.design_problem.specs.Problems.{DesignProblem}

-- a write keeps how many costs there are
pub length-written : (costs : List ℕ) (names : List VarName) (lines : List CostLine) → length (written costs names lines) ≡ length costs
length-written costs [] lines = refl
length-written costs (name ∷ names) [] = refl
length-written costs (name ∷ names) (line ∷ lines) = length-written (slice_set costs name.var line.cost) names lines ∙ length-set costs name.var line.cost

-- each cost is one that a line gives, or what stood there before
written_given : (costs : List ℕ) (names : List VarName) (lines : List CostLine) (var : ℕ) → var < length costs →
    GivesCost names lines var (slice_index (written costs names lines) var)
    ⊎ (slice_index (written costs names lines) var ≡ slice_index costs var)
written_given costs [] lines var var_in = inr refl
written_given costs (name ∷ names) [] var var_in = inr refl
written_given costs (name ∷ names) (line ∷ lines) var var_in =
    let size = length-set costs name.var line.cost in
    elim (written_given (slice_set costs name.var line.cost) names lines var (omega arith)) [
      | inl given ↦ inl (inr given)
      | inr same ↦
          elim (ℕ_discrete name.var var) [
            | yes here ↦ inl
                (inl (
                  here,
                  sym (same ∙ get_or-set_at costs name.var var line.cost 0 (sym here)
                      (let e : name.var < length costs = omega arith in e)),
                ))
            | no other ↦ inr (same ∙ get_or-set_other costs name.var var line.cost 0 (λ q. other (sym q)))
          ]
    ]

-- a variable with a line has a cost that a line gives
pub written_of_line : (costs : List ℕ) (names : List VarName) (lines : List CostLine) (var c : ℕ) → var < length costs →
    GivesCost names lines var c → GivesCost names lines var (slice_index (written costs names lines) var)
written_of_line costs [] lines var c var_in given = absurd given
written_of_line costs (name ∷ names) [] var c var_in given = absurd given
written_of_line costs (name ∷ names) (line ∷ lines) var c var_in given =
    let size = length-set costs name.var line.cost in
    elim given [
      | inl here ↦
          elim (written_given (slice_set costs name.var line.cost) names lines var (omega arith)) [
            | inl there ↦ inr there
            | inr same ↦ inl (
              here.0,
              sym (same
                  ∙ get_or-set_at costs name.var var line.cost 0 (sym here.0) (let e : name.var < length costs =
                  omega (arith, here.0) in e)),
            )
          ]
      | inr there ↦ inr (written_of_line (slice_set costs name.var line.cost) names lines var c (omega arith) there)
    ]

-- a cost that a line gives is that of the variable
pub given_is : (w : List ℕ) (names : List VarName) (lines : List CostLine) (var c : ℕ) →
    AllZip (λ name line. (line.router ≡ name.router) × (line.interface ≡ name.interface)
    × (line.cost ≡ slice_index w name.var)) names lines → GivesCost names lines var c → c ≡ slice_index w var
given_is w [] lines var c names_lines given = absurd given
given_is w (name ∷ names) [] var c names_lines given = absurd given
given_is w (name ∷ names) (line ∷ lines) var c names_lines given =
    elim given [
      | inl here ↦ sym here.1 ∙ names_lines.0.2 ∙ ap (λ (v : ℕ). slice_index w v) here.0
      | inr there ↦ given_is w names lines var c names_lines.1 there
    ]

line_of : (w : List ℕ) (k : ℕ) (names : List VarName) (lines : List CostLine) (name : VarName) →
    AllZip (λ name line. (line.router ≡ name.router) × (line.interface ≡ name.interface)
    × (line.cost ≡ slice_index w name.var)) names lines → k < length names → get_or names k name ≡ name →
    (c : ℕ) × GivesCost names lines name.var c
line_of w k [] lines name names_lines k_in is = absurd (omega arith)
line_of w k (x ∷ names) [] name names_lines k_in is = absurd names_lines
line_of w zero (x ∷ names) (line ∷ lines) name names_lines k_in is = (line.cost, inl (ap (λ (n : VarName). n.var) is, refl))
line_of w (suc k) (x ∷ names) (line ∷ lines) name names_lines k_in is =
    let rest = line_of w k names lines name names_lines.1 (omega arith) is in (rest.0, inr rest.1)

-- lines that give each variable one cost give those costs
pub names_written : (p : DesignProblem) (lines : List CostLine) (w : List ℕ) →
    ((k : ℕ) → k < length p.low → Any (λ name. name.var ≡ k) p.vars) → length p.low ≡ length w → CostLinesOf w p.vars lines →
    costs_given p lines ≡ w
names_written p lines w each_named count names_lines =
    let n = length p.low in
    let long : length (costs_given p lines) ≡ n = length-written (replicate n 0) p.vars lines ∙ length-replicate {A = ℕ} n 0 in
    same_number_lists (costs_given p lines) w (long ∙ count)
    (λ k k_in.
    let is_var : k < n = omega (arith, long) in
    let name = each_named k is_var in
    let line = line_of w name.0 p.vars lines name.1 names_lines name.2 name.3 in
    let given : GivesCost p.vars lines k line.0 = subst (λ (v : ℕ). GivesCost p.vars lines v line.0) name.4 line.1 in
    given_is w p.vars lines k (slice_index (costs_given p lines) k) names_lines
    (written_of_line (replicate n 0) p.vars lines k line.0 (let e : k < length (replicate n 0) = omega (arith, length-replicate {A = ℕ} n 0) in e) given))
