-- Every basis has a table in fractions, where the top is large enough.
use Rattle.std.proofs.Common.{ℕ, zero, suc, ◌+◌, ◌<◌, ◌≤◌, List, [], ◌∷◌, map, length, arith}
use Rattle.std.specs.Prelude.{ℤ, nat_abs, slice_index_or, sum_by}
use Rattle.std.specs.List.{AllZip}
use Rattle.std.proofs.lemmas.List.Sums.{sum_by-cons}
use Rattle.design_problem.specs.declared.form.Form.{Form}
use Rattle.design_problem.specs.declared.boxes.CostBox.{CostBox}
use Rattle.design_problem.specs.declared.tree.Member.{Member}
use Rattle.design_problem.specs.Basis.{member_form}
use Rattle.fraction_table.specs.ValidTables.{IsTableLine, IsUnboxed, members_of_box, numbers_of_form}
use Rattle.table_kernel.specs.Bases.{AreAtBasis}
use Rattle.table_kernel.specs.Numbers.{fraction_line, fraction_lines}
use Rattle.table_kernel.proofs.AtBasis.{unboxed_of}
use Rattle.table_kernel.proofs.OverCommon.{over_all, over_stand}

-- no number is greater in size than all together
within_sum : (zs : List ℤ) (k : ℕ) (d : ℤ) → k < length zs → nat_abs (slice_index_or zs k d) ≤ sum_by nat_abs zs
within_sum [] k d k_in = absurd (omega arith)
within_sum (z ∷ zs) zero d k_in = omega (arith, sum_by-cons nat_abs z zs)
within_sum (z ∷ zs) (suc k) d k_in = omega (arith, sum_by-cons nat_abs z zs, within_sum zs k d (omega arith))

-- the numbers of a member's form, and their sizes together
abbrev pub numbers_of : ℕ → CostBox → List Form → List (List ℤ) → Member → List ℤ
numbers_of D costs rows lows member = numbers_of_form (length costs.low) D costs.low lows (member_form (length costs.low) rows member)

abbrev pub size_of : ℕ → CostBox → List Form → List (List ℤ) → Member → ℕ
size_of D costs rows lows member = sum_by nat_abs (numbers_of D costs rows lows member)

pub lines_any : (top D : ℕ) (costs : CostBox) (rows : List Form) (lows : List (List ℤ)) (ms : List Member) → 0 < D → D ≤ top →
    sum_by (size_of D costs rows lows) ms ≤ top →
    AllZip (IsTableLine top D costs rows lows) ms (map (fraction_line D costs rows lows) ms)
lines_any top D costs rows lows [] positive D_small small = tt
lines_any top D costs rows lows (m ∷ ms) positive D_small small =
    let both = sum_by-cons (size_of D costs rows lows) m ms in (
      record {
        numbers = over_all top D (numbers_of D costs rows lows m) positive D_small
            (λ k d k_in. let one = within_sum (numbers_of D costs rows lows m) k d k_in in omega (arith, both, small, one));
        stand = over_stand D (numbers_of D costs rows lows m) positive;
      },
      lines_any top D costs rows lows ms positive D_small (omega (arith, both, small)),
    )

-- a top that no number passes
abbrev pub large_top : CostBox → List Form → ℕ → List (List ℤ) → ℕ
large_top costs rows D lows = D + sum_by (size_of D costs rows lows) (members_of_box costs (length rows))

abbrev pub unboxed_any : (costs : CostBox) (rows : List Form) (basis : List Member) (D : ℕ) (lows : List (List ℤ)) →
    AreAtBasis costs rows basis D lows → IsUnboxed (large_top costs rows D lows) costs rows basis (fraction_lines D costs rows lows)
unboxed_any costs rows basis D lows b =
    unboxed_of (large_top costs rows D lows) D costs rows basis lows (fraction_lines D costs rows lows) b
    (lines_any (large_top costs rows D lows) D costs rows lows (members_of_box costs (length rows)) b.positive (omega arith) (omega arith))
