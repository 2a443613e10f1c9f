-- A line of zeros is filled from the left.
use Rattle.std.proofs.Common.{◌≡◌, ℕ, zero, suc, ◌+◌, ◌<◌, ◌≤◌, sym, ◌∙◌, ap, subst, List, ◌∷◌, map, length, arith, inl, inr}
use Rattle.std.specs.Prelude.{ℤ, Result, Ok, Err, IfErr, OnOk, slice_set}
use Rattle.std.proofs.lemmas.Bool.{cases_lt}
use Rattle.std.proofs.lemmas.List.{get_or-set_other, get_or-set_same, length-set}
use Rattle.cost_base.specs.Lists.{numbers_from}
use Rattle.cost_base.proofs.ListLemmas.{each_mapped}
use Rattle.whole_numbers.specs.Fractions.{Fraction}
use Rattle.design_problem.specs.declared.form.Form.{Form}
use Rattle.design_problem.specs.declared.boxes.CostBox.{CostBox}
use Rattle.design_problem.specs.Basis.{entry}
use Rattle.design_problem.specs.Steps.{start_of_sum}
use Rattle.wide_fraction.specs.declared.steps.Wide.{Wide}
use Rattle.fraction_lines.specs.Entries.{IsPassing}
use Rattle.fraction_table.specs.RowLines.{IsAddedLine, IsRowStep, sum_at_place}
use Rattle.fraction_lines.specs.Sums.{IsSumStep, sum_of_terms}
use Rattle.fraction_lines.specs.TableLines.{AreTableNumbers, IsTableNumber, blank_line, nothing}
use Rattle.fraction_lines.proofs.BlankLines.{blank_entry, blank_size}
use Rattle.fraction_lines.proofs.ZeroFractions.{nothing_number}
use Rattle.fraction_lines.proofs.TableLineLaws.{written_numbers}

-- the first places of a line have the form's sums, and the others 0
pub record IsFilledTo (top : ℕ) (costs : CostBox) (form : Form) (lines : List (List Fraction)) (count : ℕ) (line : List Fraction) : Type 0 where
  pub long : length line ≡ suc (length costs.low)
  pub before : (place : ℕ) → place < count → entry line place ≡ sum_at_place costs form lines place
  pub after : (place : ℕ) → count ≤ place → entry line place ≡ nothing
  pub numbers : AreTableNumbers top line

-- one more place is filled
pub filled_next : (top : ℕ) (costs : CostBox) (form : Form) (lines : List (List Fraction)) (count : ℕ)
    (line new : List Fraction) (q : Fraction) → count < suc (length costs.low) →
    q ≡ sum_at_place costs form lines count → IsTableNumber top q → new ≡ slice_set line count q →
    IsFilledTo top costs form lines count line → IsFilledTo top costs form lines (suc count) new
filled_next top costs form lines count line new q count_in q_is number new_is f =
    subst (IsFilledTo top costs form lines (suc count)) (sym new_is)
    (record {
      long = length-set line count q ∙ f.long;
      before = λ place place_in. elim (cases_lt place count) [
        | inl earlier ↦ get_or-set_other line count place q nothing (λ same. absurd (omega (arith, same, earlier))) ∙ f.before place earlier
        | inr later ↦
            let here : place ≡ count = omega (arith, place_in, later) in
            subst (λ (k : ℕ). entry (slice_set line count q) k ≡ sum_at_place costs form lines k) (sym here)
            (get_or-set_same line count q nothing (omega (arith, f.long, count_in)) ∙ q_is)
      ];
      after = λ place later. get_or-set_other line count place q nothing (λ same. absurd (omega (arith, same, later))) ∙ f.after place (omega (arith, later));
      numbers = written_numbers top line count q f.numbers number;
    })

-- the constant is filled first
pub filled_first : (top : ℕ) (costs : CostBox) (form : Form) (lines : List (List Fraction)) (line new : List Fraction)
    (q : Fraction) → line ≡ blank_line (length costs.low) →
    q ≡ sum_at_place costs form lines 0 → IsTableNumber top q → new ≡ slice_set line 0 q →
    IsFilledTo top costs form lines 1 new
filled_first top costs form lines line new q blank q_is number new_is =
    let none = nothing_number top q number in
    filled_next top costs form lines 0 line new q (omega arith) q_is number new_is
    (subst (IsFilledTo top costs form lines 0) (sym blank)
    (record {
      long = blank_size (length costs.low);
      before = λ place place_in. absurd (omega (arith, place_in));
      after = λ place from. blank_entry (length costs.low) place;
      numbers = (none, each_mapped (IsTableNumber top) (λ (column : ℕ). nothing) (numbers_from 0 (length costs.low)) (λ k. none));
    }))

-- a step of the sum at a place is a step of the line
pub step_at : {X : Type 0} (r : Result X Wide) (top : ℕ) (costs : CostBox) (form : Form) (lines : List (List Fraction))
    (place : ℕ) (start : Fraction) (cs : List ℤ) → place < suc (length costs.low) →
    start ≡ start_of_sum costs form place → cs ≡ form.coefficients →
    IfErr r (λ wide. IsSumStep start cs lines place wide) → IfErr r (λ wide. IsPassing top wide) →
    IfErr r (IsRowStep top costs form lines)
step_at (Ok q) top costs form lines place start cs place_in start_is cs_are step passes = tt
step_at (Err wide) top costs form lines place start cs place_in start_is cs_are step passes =
    record {
      place = place;
      place_in = place_in;
      step =
          subst (λ (q : Fraction). IsSumStep q form.coefficients lines place wide) start_is
          (subst (λ (zs : List ℤ). IsSumStep start zs lines place wide) cs_are step);
      passes = passes;
    }

-- one more column is filled
pub filled_more : (top : ℕ) (costs : CostBox) (form : Form) (lines : List (List Fraction)) (column : ℕ)
    (line new : List Fraction) (q : Fraction) → column < length costs.low →
    q ≡ sum_at_place costs form lines (column + 1) → IsTableNumber top q → new ≡ slice_set line (suc column) q →
    IsFilledTo top costs form lines (suc column) line → IsFilledTo top costs form lines (suc (column + 1)) new
filled_more top costs form lines column line new q column_in q_is number new_is f =
    subst (λ (k : ℕ). IsFilledTo top costs form lines (suc k) new) (sym (one_more column))
    (filled_next top costs form lines (suc column) line new q (omega (arith, column_in))
    (q_is ∙ ap (sum_at_place costs form lines) (one_more column)) number new_is f)
  where
    one_more : (k : ℕ) → k + 1 ≡ suc k
    one_more k = omega arith

-- a line with what each sum starts with
pub record IsStarted (top : ℕ) (costs : CostBox) (form : Form) (line : List Fraction) : Type 0 where
  pub long : length line ≡ suc (length costs.low)
  pub starts : (place : ℕ) → entry line place ≡ start_of_sum costs form place
  pub numbers : AreTableNumbers top line

-- a line of zeros with its constant put
pub started_line : (top : ℕ) (costs : CostBox) (form : Form) (line new : List Fraction) (q : Fraction) →
    line ≡ blank_line (length costs.low) → q ≡ start_of_sum costs form 0 →
    IsTableNumber top q → new ≡ slice_set line 0 q → IsStarted top costs form new
started_line top costs form line new q blank q_is number new_is =
    let none = nothing_number top q number in
    subst (IsStarted top costs form) (sym (new_is ∙ ap (λ (l : List Fraction). slice_set l 0 q) blank))
    (record {
      long = blank_size (length costs.low);
      starts = starts (length costs.low);
      numbers = (number, each_mapped (IsTableNumber top) (λ (column : ℕ). nothing) (numbers_from 0 (length costs.low)) (λ k. none));
    })
  where
    starts : (n place : ℕ) → entry (q ∷ map (λ column. nothing) (numbers_from 0 n)) place ≡ start_of_sum costs form place
    starts n zero = q_is
    starts n (suc k) = blank_entry n (suc k)

-- with the terms put to all of it, it is the form's line
pub gathered_line : {X : Type 0} (r : Result X Wide) (top : ℕ) (costs : CostBox) (form : Form)
    (lines : List (List Fraction)) (old new : List Fraction) → IsStarted top costs form old →
    OnOk r ((place : ℕ) → place < length old →
    entry new place ≡ sum_of_terms (entry old place) form.coefficients lines place) → OnOk r (AreTableNumbers top new) →
    length new ≡ length old → OnOk r (IsAddedLine top costs form lines new)
gathered_line (Err wide) top costs form lines old new started sums numbers same = tt
gathered_line (Ok x) top costs form lines old new started sums numbers same =
    record {
      long = same ∙ started.long;
      sums = λ place place_in. sums place (omega (arith, place_in, started.long))
          ∙ ap (λ (q : Fraction). sum_of_terms q form.coefficients lines place) (started.starts place);
      numbers = numbers;
    }
