use Rattle.std.proofs.Common.{rules, ℕ, List, ◌<◌, ◌≤◌, ◌^◌, ◌==◌, length, arith, length-take, ap, ◌∙◌, sym, subst, lit<}
use Rattle.std.specs.Prelude.{position, unwrap_or}
use Rattle.cut_advisors.proofs.Positions.{position_below}
use Rattle.cut_advisors.specs.declared.candidate.Candidate.{Candidate}
use Rattle.cut_advisors.specs.Widths.{width, greatest_width}
use Rattle.cut_advisors.proofs.widest_first.first_widest.Goals as goal

pub overflow_cast-result : goal.overflow_cast-result
overflow_cast-result c =
    let counted = c.countable-counted.result.now in
    let none : Candidate = record { var = 0; floor = 0; low = 0; high = 0 } in
    let P : List Candidate → Type 0 = λ xs. length xs ≤ 2 ^ 32 in
    let few : length counted ≤ 2 ^ 32 = subst P (sym c.countable-counted.ensures) (simp length-take (omega arith)) in
    let below : unwrap_or (position (λ candidate. width candidate == c.greatest_width.result) counted) 0 < 2 ^ 32 =
    position_below _ counted (2 ^ 32) none few (lit< tt) in
    let Q : ℕ → Type 0 = λ n. n < 2 ^ 32 in
    let here : c.unwrap_or.result < 2 ^ 32 = subst Q (sym (c.unwrap_or.ensures ∙ ap (λ o. unwrap_or o 0) c.first_of_width.ensures)) below in
    search rules

pub returns : goal.returns
returns c =
    let at : ℕ → List Candidate → ℕ = λ widest xs. unwrap_or (position (λ candidate. width candidate == widest) xs) 0 in
    c.unwrap_or.ensures
    ∙ (ap (λ o. unwrap_or o 0) c.first_of_width.ensures
    ∙ (ap (λ widest. at widest c.countable-counted.result.now) c.greatest_width.ensures
    ∙ ap (λ xs. at (greatest_width xs) xs) c.countable-counted.ensures))
