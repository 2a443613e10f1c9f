-- Which constants of lines are at most 2^44 in size over a common denominator.
use Rattle.std.proofs.Common.{◌≡◌, ℕ, ◌+◌, ◌*◌, ◌^◌, ◌<◌, ◌≤◌, ◌↔◌, refl, ◌∙◌, ap, subst, List, take, length, Bool, true, false}
use Rattle.std.specs.Prelude.{ℤ, nat_abs, slice_index_or, All, IsTrue}
use Rattle.std.proofs.lemmas.List.{take_all}
use Rattle.std.proofs.lemmas.List.Elements.{All-more}
use Rattle.integer_pivots.specs.declared.line.Line.{Line}
use Rattle.integer_pivots.specs.Lines.{no_line}
use Rattle.integer_pivots.proofs.FailedTests.{failed, never}
use Rattle.table_kernel.specs.Numbers.{share_of}

-- the line's constant fits over a common denominator
abbrev pub FitsIn : ℕ → Line → Type 0
FitsIn C line = nat_abs line.constant * share_of C line ≤ 2 ^ 44

-- what the test of a line tells, by what it is given
pub fit_told : (C : ℕ) (line own : Line) (answer : Bool) (constant share : ℤ) → line ≡ own → constant ≡ line.constant →
    nat_abs share ≡ share_of C line → IsTrue answer ↔ (nat_abs constant * nat_abs share ≤ 2 ^ 44) → IsTrue answer ↔ FitsIn C own
fit_told C line own answer constant share is constant_is share_is told =
    let same : nat_abs constant * nat_abs share ≡ nat_abs line.constant * share_of C line =
    ap (λ (z : ℤ). nat_abs z * nat_abs share) constant_is ∙ ap (λ (n : ℕ). nat_abs line.constant * n) share_is in
    subst (λ (l : Line). IsTrue answer ↔ FitsIn C l) is (subst (λ (n : ℕ). IsTrue answer ↔ (n ≤ 2 ^ 44)) same told)

-- one more fits
pub one_more_fits : (C : ℕ) (lines : List Line) (i : ℕ) → i < length lines → All (FitsIn C) (take i lines) →
    FitsIn C (slice_index_or lines i no_line) → All (FitsIn C) (take (i + 1) lines)
one_more_fits C lines i i_in before here = All-more (FitsIn C) lines i no_line i_in before here

-- one doesn't
pub not_all_fit : (C : ℕ) (lines : List Line) (i : ℕ) (answer : Bool) → i < length lines → answer ≡ false →
    IsTrue answer ↔ FitsIn C (slice_index_or lines i no_line) → IsTrue false ↔ All (FitsIn C) lines
not_all_fit C lines i answer i_in is told = never (λ (all : All (FitsIn C) lines). failed answer is told (all i no_line i_in))

-- all before the end do
pub all_fit : (C : ℕ) (lines : List Line) (i : ℕ) → length lines ≤ i → All (FitsIn C) (take i lines) → IsTrue true ↔ All (FitsIn C) lines
all_fit C lines i past before = (λ holds. subst (All (FitsIn C)) (take_all i lines past) before, λ all. refl)
