-- The costs that the lines give the variables.
use Rattle.std.proofs.Common.{◌≡◌, ℕ, zero, suc, ◌+◌, ◌<◌, ◌≤◌, refl, sym, ◌∙◌, ap, subst, List, [], ◌∷◌, length, get_or, drop, replicate, arith, inl, inr}
use Rattle.std.specs.Prelude.{slice_index, ◌⊎◌, Option, Some, None, All}
use Rattle.std.specs.List.{AllZip}
use Rattle.std.proofs.lemmas.List.{length-replicate}
use native.Mathlib.Decide.{ℕ_discrete}
use Rattle.std.proofs.lemmas.List.Elements.{All-tail}
use Rattle.std.proofs.lemmas.Option.{same_Some}
use Rattle.cost_base.proofs.ListLemmas.{drop_read}
use Rattle.design_problem.specs.declared.answer.CostLine.{CostLine}
use Rattle.design_problem.specs.declared.problem.VarName.{VarName}
use Rattle.design_problem.specs.Answers.{CostLinesOf}
use Rattle.design_problem.specs.Problems.{DesignProblem}
use Rattle.evidence_checker.specs.Refusals.{IsFirstPlace}
use Rattle.design_problem.specs.GivenCosts.{GivesCost, written, costs_given}
use Rattle.design_problem.proofs.GivenCosts.{given_is, length-written, written_of_line}
use Rattle.evidence_checker.specs.Tests.{HasUnequalEnds, NamesPlaces}
use Rattle.evidence_checker.specs.Costs.{lesser_of}

-- a line's variable is one of n
pub given_known : (n : ℕ) (names : List VarName) (lines : List CostLine) (var c : ℕ) → All (λ name. name.var < n) names → GivesCost names lines var c → var < n
given_known n [] lines var c known given = absurd given
given_known n (name ∷ names) [] var c known given = absurd given
given_known n (name ∷ names) (line ∷ lines) var c known given =
    elim given [
      | inl here ↦ subst (λ (v : ℕ). v < n) here.0 (known 0 name (omega arith))
      | inr there ↦ given_known n names lines var c (All-tail (λ name. name.var < n) name names known) there
    ]

-- a line gives the variable another cost than it has
abbrev pub IsOff : List ℕ → List VarName → List CostLine → ℕ → Type 0
IsOff costs names lines var = (c : ℕ) × GivesCost names lines var c × (c ≡ slice_index costs var → ⊥)

-- where the costs are those that the lines give, a variable with unequal ends is off, and the other way round
pub off_unequal : (n : ℕ) (costs : List ℕ) (names : List VarName) (lines : List CostLine) (var : ℕ) →
    All (λ name. name.var < length costs) names → costs ≡ written (replicate n 0) names lines →
    IsOff costs names lines var → HasUnequalEnds names lines var
off_unequal n costs names lines var known is off =
    let count = ap length is ∙ length-written (replicate n 0) names lines in
    let var_in : var < length costs = given_known (length costs) names lines var off.0 known off.1 in
    let given = written_of_line (replicate n 0) names lines var off.0 (let e : var < length (replicate n 0) = omega (arith, count) in e) off.1 in
    (off.0, slice_index costs var, off.1, subst (λ (w : List ℕ). GivesCost names lines var (slice_index w var)) (sym is) given, off.2)

pub unequal_off : (costs : List ℕ) (names : List VarName) (lines : List CostLine) (var : ℕ) → HasUnequalEnds names lines var → IsOff costs names lines var
unequal_off costs names lines var unequal =
    elim (ℕ_discrete unequal.0 (slice_index costs var)) [
      | yes same ↦ (unequal.1, unequal.3, λ q. unequal.4 (same ∙ sym q))
      | no other ↦ (unequal.0, unequal.2, other)
    ]

-- the least of the variables that are off among the first lines, where it tells of all but those that are left
abbrev pub IsAtMost : Option ℕ → ℕ → Type 0
IsAtMost None var = ⊥
IsAtMost (Some least) var = least ≤ var

pub record LeastOff (costs : List ℕ) (names : List VarName) (lines : List CostLine) (k : ℕ) (least : Option ℕ) : Type 0 where
  pub found : (var : ℕ) → least ≡ Some var → IsOff costs names lines var
  pub others : (var : ℕ) → IsOff costs names lines var → IsAtMost least var ⊎ IsOff costs (drop k names) (drop k lines) var

none_some : (var : ℕ) → None ≡ Some var → ⊥
none_some var e = cc

pub off_begins : (costs : List ℕ) (names : List VarName) (lines : List CostLine) → LeastOff costs names lines 0 None
off_begins costs names lines = record { found = λ var e. absurd (none_some var e); others = λ var off. inr off }

given_nil : (names : List VarName) (var c : ℕ) → GivesCost names [] var c → ⊥
given_nil [] var c given = given
given_nil (name ∷ names) var c given = given

given_later : (k : ℕ) (names : List VarName) (lines : List CostLine) (var c : ℕ) → GivesCost (drop k names) (drop k lines) var c → GivesCost names lines var c
given_later zero names lines var c given = given
given_later (suc k) [] lines var c given = absurd given
given_later (suc k) (name ∷ names) [] var c given = absurd (given_nil (drop k names) var c given)
given_later (suc k) (name ∷ names) (line ∷ lines) var c given = inr (given_later k names lines var c given)

-- of what is left, the next line or a later one
off_rest : (costs : List ℕ) (name : VarName) (names : List VarName) (line : CostLine) (lines : List CostLine)
    (var : ℕ) → IsOff costs (name ∷ names) (line ∷ lines) var →
    ((name.var ≡ var) × (line.cost ≡ slice_index costs name.var → ⊥)) ⊎ IsOff costs names lines var
off_rest costs name names line lines var off =
    elim (off.1) [
      | inl here ↦ inl (here.0, λ q. off.2 (sym here.1 ∙ q ∙ ap (λ (v : ℕ). slice_index costs v) here.0))
      | inr there ↦ inr (off.0, there, off.2)
    ]

at_most_lesser : (least : Option ℕ) (v var : ℕ) → IsAtMost least var → IsAtMost (Some (lesser_of least v)) var
at_most_lesser None v var most = absurd most
at_most_lesser (Some least) v var most = omega arith

lesser_most : (least : Option ℕ) (v : ℕ) → lesser_of least v ≤ v
lesser_most None v = omega arith
lesser_most (Some least) v = omega arith

min_cases : (least v : ℕ) → (lesser_of (Some least) v ≡ least) ⊎ (lesser_of (Some least) v ≡ v)
min_cases least v = grind arith

lesser_found : (P : ℕ → Type 0) (least : Option ℕ) (v : ℕ) → ((var : ℕ) → least ≡ Some var → P var) → P v → P (lesser_of least v)
lesser_found P None v found here = here
lesser_found P (Some least) v found here =
    elim (min_cases least v) [
      | inl old ↦ subst P (sym old) (found least refl)
      | inr new ↦ subst P (sym new) here
    ]

-- the next line is off
pub off_more : (costs : List ℕ) (names : List VarName) (lines : List CostLine) (k : ℕ) (least : Option ℕ)
    (name : VarName) (line : CostLine) → k < length names → k < length lines → name ≡ get_or names k name →
    line ≡ get_or lines k line → (line.cost ≡ slice_index costs name.var → ⊥) → LeastOff costs names lines k least →
    LeastOff costs names lines (k + 1) (Some (lesser_of least name.var))
off_more costs names lines k least name line name_in line_in name_is line_is differs so_far =
    let names_read = drop_read names k name name_in name_is in
    let lines_read = drop_read lines k line line_in line_is in
    let given : GivesCost names lines name.var line.cost =
    given_later k names lines name.var line.cost
    (subst (λ (ls : List CostLine). GivesCost (drop k names) ls name.var line.cost) (sym lines_read)
    (subst (λ (ns : List VarName). GivesCost ns (line ∷ drop (k + 1) lines) name.var line.cost) (sym names_read) (inl (refl, refl)))) in
    let here : IsOff costs names lines name.var = (line.cost, given, differs) in
    record {
      found = λ var e. subst (λ (v : ℕ). IsOff costs names lines v) (same_Some _ _ e) (lesser_found (IsOff costs names lines) least name.var so_far.found here);
      others = λ var off.
          elim (so_far.others var off) [
            | inl most ↦ inl (at_most_lesser least name.var var most)
            | inr left ↦
                elim (off_rest costs name (drop (k + 1) names) line (drop (k + 1) lines) var
                (subst (λ (ls : List CostLine). IsOff costs (name ∷ drop (k + 1) names) ls var) lines_read
                (subst (λ (ns : List VarName). IsOff costs ns (drop k lines) var) names_read left))) [
                  | inl is_here ↦ inl (subst (λ (v : ℕ). lesser_of least name.var ≤ v) is_here.0 (lesser_most least name.var))
                  | inr later ↦ inr later
                ]
          ];
    }

-- the next line isn't off
pub off_same : (costs : List ℕ) (names : List VarName) (lines : List CostLine) (k : ℕ) (least : Option ℕ)
    (name : VarName) (line : CostLine) → k < length names → k < length lines → name ≡ get_or names k name →
    line ≡ get_or lines k line → line.cost ≡ slice_index costs name.var → LeastOff costs names lines k least →
    LeastOff costs names lines (k + 1) least
off_same costs names lines k least name line name_in line_in name_is line_is same so_far =
    let names_read = drop_read names k name name_in name_is in
    let lines_read = drop_read lines k line line_in line_is in
    record {
      found = so_far.found;
      others = λ var off.
          elim (so_far.others var off) [
            | inl most ↦ inl most
            | inr left ↦
                elim (off_rest costs name (drop (k + 1) names) line (drop (k + 1) lines) var
                (subst (λ (ls : List CostLine). IsOff costs (name ∷ drop (k + 1) names) ls var) lines_read
                (subst (λ (ns : List VarName). IsOff costs ns (drop k lines) var) names_read left))) [
                  | inl is_here ↦ absurd (is_here.1 same)
                  | inr later ↦ inr later
                ]
          ];
    }

nothing_off : (costs : List ℕ) (names : List VarName) (lines : List CostLine) (k var : ℕ) → length names ≤ k → IsOff costs (drop k names) (drop k lines) var → ⊥
nothing_off costs [] lines zero var past off = off.1
nothing_off costs [] lines (suc k) var past off = off.1
nothing_off costs (name ∷ names) lines zero var past off = absurd (omega arith)
nothing_off costs (name ∷ names) [] (suc k) var past off = given_nil (drop k names) var off.0 off.1
nothing_off costs (name ∷ names) (line ∷ lines) (suc k) var past off = nothing_off costs names lines k var (omega arith) off

-- at the end it is the first variable with unequal ends
pub off_ends : (n : ℕ) (costs : List ℕ) (names : List VarName) (lines : List CostLine) (k : ℕ) (least : Option ℕ) →
    All (λ name. name.var < length costs) names → costs ≡ written (replicate n 0) names lines → length names ≤ k →
    LeastOff costs names lines k least → IsFirstPlace (HasUnequalEnds names lines) least
off_ends n costs names lines k None known is past so_far = λ var unequal.
    elim (so_far.others var (unequal_off costs names lines var unequal)) [
      | inl most ↦ most
      | inr left ↦ nothing_off costs names lines k var past left
    ]
off_ends n costs names lines k (Some least) known is past so_far = (
  off_unequal n costs names lines least known is (so_far.found least refl),
  λ var before unequal.
      elim (so_far.others var (unequal_off costs names lines var unequal)) [
        | inl most ↦ absurd (omega arith)
        | inr left ↦ nothing_off costs names lines k var past left
      ],
)

-- there are as many costs as variables
pub given_count : (n : ℕ) (costs : List ℕ) (names : List VarName) (lines : List CostLine) → costs ≡ written (replicate n 0) names lines → length costs ≡ n
given_count n costs names lines is = ap length is ∙ length-written (replicate n 0) names lines ∙ length-replicate {A = ℕ} n 0

pub known_names : (n : ℕ) (xs names : List VarName) (costs : List ℕ) → xs ≡ names → length costs ≡ n →
    All (λ name. name.var < n) names → All (λ name. name.var < length costs) xs
known_names n xs names costs same count known =
    subst (λ (ns : List VarName). All (λ name. name.var < length costs) ns) (sym same)
    (subst (λ (m : ℕ). All (λ name. name.var < m) names) (sym count) known)

pub given_moved : (n : ℕ) (xs names : List VarName) (lines : List CostLine) (costs : List ℕ) → xs ≡ names →
    length costs ≡ n → costs ≡ written (replicate n 0) names lines →
    costs ≡ written (replicate (length costs) 0) xs lines
given_moved n xs names lines costs same count is =
    is ∙ ap (λ (m : ℕ). written (replicate m 0) names lines) (sym count) ∙ ap (λ (ns : List VarName). written (replicate (length costs) 0) ns lines) (sym same)

-- where no variable has unequal ends, each line gives the cost of its variable
names_given : (w : List ℕ) (names : List VarName) (lines : List CostLine) → NamesPlaces names lines →
    ((var : ℕ) → IsOff w names lines var → ⊥) →
    AllZip (λ name line. (line.router ≡ name.router) × (line.interface ≡ name.interface)
    × (line.cost ≡ slice_index w name.var)) names lines
names_given w [] [] named none = tt
names_given w [] (line ∷ lines) named none = named
names_given w (name ∷ names) [] named none = named
names_given w (name ∷ names) (line ∷ lines) named none = (
  (
    named.0.0,
    named.0.1,
    elim (ℕ_discrete line.cost (slice_index w name.var)) [ yes same ↦ same | no other ↦ absurd (none name.var (line.cost, inl (refl, refl), other)) ],
  ),
  names_given w names lines named.1 (λ var off. none var (off.0, inr off.1, off.2)),
)

pub ends_equal : (p : DesignProblem) (xs : List VarName) (lines : List CostLine) (costs : List ℕ) → xs ≡ p.vars →
    All (λ name. name.var < length p.low) p.vars → NamesPlaces p.vars lines → costs ≡ costs_given p lines →
    IsFirstPlace (HasUnequalEnds xs lines) None → CostLinesOf costs p.vars lines
ends_equal p xs lines costs same known named is none =
    let count = given_count (length p.low) costs p.vars lines is in
    names_given costs p.vars lines named
    (λ var off. none var (subst (λ (ns : List VarName). HasUnequalEnds ns lines var) (sym same)
    (off_unequal (length p.low) costs p.vars lines var
    (known_names (length p.low) p.vars p.vars costs refl count known) is off)))

pub names_equal : (p : DesignProblem) (lines : List CostLine) (w : List ℕ) (var : ℕ) → CostLinesOf w p.vars lines → HasUnequalEnds p.vars lines var → ⊥
names_equal p lines w var names_lines unequal =
    unequal.4 (given_is w p.vars lines var unequal.0 names_lines unequal.2 ∙ sym (given_is w p.vars lines var unequal.1 names_lines unequal.3))
