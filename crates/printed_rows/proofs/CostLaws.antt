-- The greatest of some costs, and the lines that give costs to free interfaces.
use Rattle.std.proofs.Common.{◌≡◌, ℕ, suc, ◌+◌, ◌<◌, ◌≤◌, refl, sym, ◌∙◌, ap, subst, List, [], ◌∷◌, ◌++◌, length, fold, max, get_or, take, inl, inr, arith}
use Rattle.std.specs.Prelude.{All, slice_index, ◌⊎◌}
use Rattle.std.proofs.lemmas.Bool.{cases_lt}
use Rattle.std.proofs.lemmas.List.{get_or_default, take_more}
use Rattle.std.proofs.lemmas.List.Elements.{All-nil, All-cons, All-head, All-tail}
use Rattle.cost_base.specs.Words.{IsWord}
use Rattle.cost_base.proofs.ListLemmas.{zip_push}
use Rattle.design_problem.specs.declared.problem.VarName.{VarName}
use Rattle.design_problem.specs.declared.answer.CostLine.{CostLine}
use Rattle.design_problem.specs.Problems.{DesignProblem, IsProblem}
use Rattle.design_problem.specs.Boxes.{IsInBox}
use Rattle.design_problem.specs.Rows.{IsFit, box_of, greatest_cost}
use Rattle.design_problem.specs.Answers.{CostLinesOf}
use Rattle.design_problem.proofs.ProblemTrees.{fold_le}
use Rattle.printed_rows.specs.PrintedCosts.{ArePrintedCosts, IsNamedCost}

-- the greatest is at most what each is at most
pub greatest-le : (w : List ℕ) (most : ℕ) → ((k : ℕ) → k < length w → slice_index w k ≤ most) → greatest_cost w ≤ most
greatest-le w most each = fold_le w 0 most (omega arith) each

-- a greatest from a on is a, or one of the others
greatest-reached_from : (a : ℕ) (w : List ℕ) → (fold max a w ≡ a) ⊎ ((k : ℕ) × (k < length w) × (slice_index w k ≡ fold max a w))
greatest-reached_from a [] = inl refl
greatest-reached_from a (x ∷ w) = elim (greatest-reached_from (max a x) w) [
  | inl same ↦ by_first (le_cases a x) same
  | inr found ↦ inr (suc found.0, omega arith, found.2)
]
  where
    le_cases : (a x : ℕ) → (max a x ≡ a) ⊎ (max a x ≡ x)
    le_cases a x = elim (cases_lt a x) [
      | inl below ↦ inr (omega arith)
      | inr above ↦ inl (omega arith)
    ]

    by_first : (max a x ≡ a) ⊎ (max a x ≡ x) → fold max (max a x) w ≡ max a x → (fold max a (x ∷ w) ≡ a)
        ⊎ ((k : ℕ) × (k < length (x ∷ w)) × (slice_index (x ∷ w) k ≡ fold max a (x ∷ w)))
    by_first (inl first) same = inl (same ∙ first)
    by_first (inr second) same = inr (0, omega arith, sym second ∙ sym same)

-- where no cost is the greatest, there is none
pub greatest-none : (w : List ℕ) → ((k : ℕ) → k < length w → slice_index w k ≡ greatest_cost w → ⊥) → length w ≡ 0
greatest-none [] none = refl
greatest-none (x ∷ w) none = elim (greatest-reached_from (max 0 x) w) [
  | inl same ↦ absurd (none 0 (omega arith) (omega (arith, same)))
  | inr found ↦ absurd (none (suc found.0) (omega arith) found.2)
]

-- the line of the next name
pub line_of_name : (costs : List ℕ) (names : List VarName) (i : ℕ) (name : VarName) (lines : List CostLine) (line : CostLine) →
    i < length names → name ≡ get_or names i name → CostLinesOf costs (take i names) lines →
    line ≡ record { router = name.router; interface = name.interface; cost = slice_index costs name.var } →
    (more : List CostLine) → more ≡ lines ++ line ∷ [] → CostLinesOf costs (take (i + 1) names) more
line_of_name costs names i name lines line below is zip same more pushed =
    let R : VarName → CostLine → Type 0 = λ n l. (l.router ≡ n.router) × (l.interface ≡ n.interface) × (l.cost ≡ slice_index costs n.var) in
    let here : R name line = (ap (λ (l : CostLine). l.router) same, ap (λ (l : CostLine). l.interface) same, ap (λ (l : CostLine). l.cost) same) in
    let names_are : take (i + 1) names ≡ take i names ++ name ∷ [] = take_more names i name below ∙ ap (λ (n : VarName). take i names ++ n ∷ []) (sym is) in
    rw (pushed, names_are) (zip_push R (take i names) lines name line zip here)

-- the names are words
abbrev IsNamed : VarName → Type 0
IsNamed name = IsWord name.router × IsWord name.interface

-- lines of names that are words, with the costs of variables below a count
lines_named : (costs : List ℕ) (names : List VarName) (lines : List CostLine) → All IsNamed names → All (λ name. name.var < length costs) names →
    ((k : ℕ) → k < length costs → (1 ≤ slice_index costs k) × (slice_index costs k ≤ 65535)) → CostLinesOf costs names lines → All IsNamedCost lines
lines_named costs [] [] words within bounds zipped = All-nil IsNamedCost
lines_named costs [] (line ∷ lines) words within bounds zipped = absurd zipped
lines_named costs (name ∷ names) [] words within bounds zipped = absurd zipped
lines_named costs (name ∷ names) (line ∷ lines) words within bounds zipped =
    let named : IsNamed name = All-head IsNamed name names words in
    let below : name.var < length costs = All-head (λ (n : VarName). n.var < length costs) name names within in
    let bound = bounds name.var below in
    let same = zipped.0 in
    All-cons IsNamedCost line lines (
      subst (λ (w : List ℕ). IsWord w) (sym same.0) named.0,
      subst (λ (w : List ℕ). IsWord w) (sym same.1) named.1,
      omega (arith, same.2, bound.0),
      omega (arith, same.2, bound.1),
    )
    (lines_named costs names lines (All-tail IsNamed name names words) (All-tail (λ (n : VarName). n.var < length costs) name names within) bounds zipped.1)

-- costs of the variables as they are printed
pub costs_printed : (p : DesignProblem) (w : List ℕ) (greatest : ℕ) (printed : List CostLine) (names : List VarName)
    (lines : List CostLine) → IsProblem p → length w ≡ length p.low → All (λ cost. 1 ≤ cost) w →
    ((k : ℕ) → k < length w → slice_index w k ≤ 65535) → CostLinesOf w names lines → names ≡ p.vars →
    greatest ≡ greatest_cost w → printed ≡ lines →
    ArePrintedCosts p w (record { greatest = greatest; lines = printed })
costs_printed p w greatest printed names lines problem counted positive most zipped names_is is same =
    let small = greatest-le w 65535 most in
    let within : All (λ name. name.var < length w) p.vars = subst (λ (n : ℕ). All (λ name. name.var < n) p.vars) (sym counted) problem.named in
    let there : CostLinesOf w p.vars lines = subst (λ (ns : List VarName). CostLinesOf w ns lines) names_is zipped in
    let named = lines_named w p.vars lines problem.words within (λ k k_in. (positive k 0 k_in, most k k_in)) there in
    record {
      greatest = is;
      small = omega arith;
      names = subst (λ (ls : List CostLine). CostLinesOf w p.vars ls) (sym same) there;
      named = subst (λ (ls : List CostLine). All IsNamedCost ls) (sym same) named;
    }

-- the named variables have costs
pub names_known : (p : DesignProblem) (w : List ℕ) (names : List VarName) → IsProblem p → length w ≡ length p.low →
    names ≡ p.vars → All (λ name. name.var < length w) names
names_known p w names problem counted is =
    subst (λ (n : ℕ). All (λ (name : VarName). name.var < n) names) (sym counted)
    (subst (λ (ns : List VarName). All (λ (name : VarName). name.var < length p.low) ns) (sym is) problem.named)

-- fit costs are such costs
pub fit_counted : (p : DesignProblem) (w : List ℕ) → IsFit p w → length w ≡ length p.low
fit_counted p w fit = sym fit.within.low_count

-- costs of the box are from 1
pub box_positive : (p : DesignProblem) (w : List ℕ) → IsProblem p → IsInBox (box_of p) w → All (λ cost. 1 ≤ cost) w
box_positive p w problem within k d k_in =
    let low = (problem.ordered k (omega (arith, within.low_count))).0 in
    let above = within.above k k_in in
    let same = get_or_default w k d 0 k_in in
    omega (arith, low, above, same)

pub fit_positive : (p : DesignProblem) (w : List ℕ) → IsProblem p → IsFit p w → All (λ cost. 1 ≤ cost) w
fit_positive p w problem fit = box_positive p w problem fit.within
