-- Costs at which each of several forms is at least 0.
use Rattle.std.proofs.Common.{ℕ, List, length, sym, subst, arith, inl, inr}
use Rattle.std.specs.Prelude.{pos, ◌≤ℤ◌, All}
use Rattle.std.proofs.lemmas.Bool.{cases_lt}
use Rattle.std.proofs.lemmas.Int.{ints}
use Rattle.std.proofs.lemmas.List.{get_or_past}
use Rattle.design_problem.specs.Forms.{Form, Meets, no_form, value_for_costs}

abbrev pub Met : List ℕ → Form → Type 0
Met w form = pos 0 ≤ℤ value_for_costs form w

pub meets_all : (forms : List Form) (w : List ℕ) → All (Met w) forms → Meets forms w
meets_all forms w met row = elim (cases_lt row (length forms)) [
  | inl row_in ↦ met row no_form row_in
  | inr past ↦ subst (Met w) (sym (get_or_past forms row no_form past)) (omega (arith, ints))
]
