-- Walks from mark to mark: what is passed by is 0.
use Rattle.std.proofs.Common.{◌≡◌, ℕ, ℤ, ◌+◌, ◌<◌, ◌≤◌, ◌∙◌, sym, subst, List, pos, length, arith, slice_set}
use Rattle.whole_numbers.specs.Lists.{number_at}
use Rattle.integer_pivots.proofs.WrittenPlaces.{AreWritten, none_written, one_written, passed_written}

-- Before the first mark nothing is left to do, where 0 needs nothing to be done.
pub walk_begins : (P : ℕ → ℤ → Type 0) (olds : List ℤ) (first : ℕ) → ((c : ℕ) → 0 ≤ c → c < first → number_at olds c ≡ pos 0) →
    ((c : ℕ) → number_at olds c ≡ pos 0 → P c (number_at olds c)) → AreWritten P (pos 0) olds first olds
walk_begins P olds first passed zero =
    passed_written P (pos 0) olds 0 first olds (none_written P (pos 0) olds) (omega arith) (λ c behind before. zero c (passed c behind before))

-- Once a number is written, all is done up to the next mark.
pub walk_goes_on : (P : ℕ → ℤ → Type 0) (olds : List ℤ) (i : ℕ) (news after : List ℤ) (x : ℤ) (next : ℕ) →
    AreWritten P (pos 0) olds i news → i < length olds → P i x → after ≡ slice_set news i x → i + 1 ≤ next →
    ((c : ℕ) → i + 1 ≤ c → c < next → number_at after c ≡ pos 0) →
    ((c : ℕ) → number_at olds c ≡ pos 0 → P c (number_at olds c)) → AreWritten P (pos 0) olds next after
walk_goes_on P olds i news after x next are i_in here is behind passed zero =
    let one : AreWritten P (pos 0) olds (i + 1) after = subst (AreWritten P (pos 0) olds (i + 1)) (sym is) (one_written P (pos 0) olds i news x are i_in here)
    in
    passed_written P (pos 0) olds (i + 1) next after one behind
    (λ c from before. zero c (sym (one.rest c from) ∙ passed c from before))
