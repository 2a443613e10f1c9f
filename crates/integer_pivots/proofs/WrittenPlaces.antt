-- Lists of which one place more is written.
use Rattle.std.proofs.Common.{◌≡◌, ◌≢◌, ℕ, ◌+◌, ◌<◌, ◌≤◌, sym, ◌∙◌, subst, refl, List, length, arith, inl, inr, get_or-set_same, get_or-set_other, ap, ◌++◌, take, drop}
use Rattle.std.specs.Prelude.{slice_index_or, slice_set}
use Rattle.std.proofs.lemmas.Bool.{cases_eq, cases_lt}
use Rattle.std.proofs.lemmas.List.{drop_all, append-nil, length-set, take_all}

-- what holds of all numbers before one and of it
pub all_more : (P : ℕ → Type 0) (i : ℕ) → ((c : ℕ) → c < i → P c) → P i → (c : ℕ) → c < i + 1 → P c
all_more P i before here c c_in =
    elim (cases_eq c i) [
      | inl same ↦ subst P (sym same) here
      | inr other ↦ before c (omega (arith, c_in, other))
    ]

-- what holds of all that stands before a place, once that is written, too
pub written_more : {X : Type 0} (P : ℕ → X → Type 0) (d : X) (xs : List X) (i : ℕ) (x : X) → i < length xs →
    ((c : ℕ) → c < i → P c (slice_index_or xs c d)) → P i x → (c : ℕ) → c < i + 1 →
    P c (slice_index_or (slice_set xs i x) c d)
written_more P d xs i x i_in before here c c_in =
    elim (cases_eq c i) [
      | inl same ↦ subst (λ k. P k (slice_index_or (slice_set xs i x) k d)) (sym same) (subst (P i) (sym (get_or-set_same xs i x d i_in)) here)
      | inr other ↦ subst (P c) (sym (get_or-set_other xs i c x d other)) (before c (omega (arith, c_in, other)))
    ]

-- and what isn't written yet
pub rest_more : {X : Type 0} (d : X) (olds xs : List X) (i : ℕ) (x : X) →
    ((c : ℕ) → i ≤ c → slice_index_or xs c d ≡ slice_index_or olds c d) → (c : ℕ) → i + 1 ≤ c →
    slice_index_or (slice_set xs i x) c d ≡ slice_index_or olds c d
rest_more d olds xs i x rest c c_from =
    get_or-set_other xs i c x d (apart c_from) ∙ rest c (omega (arith, c_from))
  where
    apart : i + 1 ≤ c → c ≢ i
    apart h same = omega (arith, h, same)

-- what a slice of a whole vector ends as
pub written : {X : Type 0} (n : ℕ) (news olds : List X) → length news ≡ length olds → n ≡ length olds → take n (news ++ drop (length news) olds) ≡ news
written n news olds long counted =
    ap (λ ys. take n (news ++ ys)) (drop_all (length news) olds (omega (arith, long)))
    ∙ ap (take n) (append-nil news)
    ∙ take_all n news (omega (arith, long, counted))

-- The places before one are written as they should be, and the others are as before.
pub record AreWritten {X : Type 0} (P : ℕ → X → Type 0) (d : X) (olds : List X) (i : ℕ) (news : List X) : Type 0 where
  pub count : length news ≡ length olds
  pub done : (c : ℕ) → c < i → P c (slice_index_or news c d)
  pub rest : (c : ℕ) → i ≤ c → slice_index_or news c d ≡ slice_index_or olds c d

pub none_written : {X : Type 0} (P : ℕ → X → Type 0) (d : X) (xs : List X) → AreWritten P d xs 0 xs
none_written P d xs = record { count = refl; done = λ c c_in. absurd (omega (arith, c_in)); rest = λ c from. refl }

pub one_written : {X : Type 0} (P : ℕ → X → Type 0) (d : X) (olds : List X) (i : ℕ) (news : List X) (x : X) →
    AreWritten P d olds i news → i < length olds → P i x → AreWritten P d olds (i + 1) (slice_set news i x)
one_written P d olds i news x are i_in here = record {
  count = length-set news i x ∙ are.count;
  done = written_more P d news i x (omega (arith, are.count, i_in)) are.done here;
  rest = rest_more d olds news i x are.rest;
}

-- places that are passed by hold what they should as they were
pub passed_written : {X : Type 0} (P : ℕ → X → Type 0) (d : X) (olds : List X) (i j : ℕ) (news : List X) →
    AreWritten P d olds i news → i ≤ j → ((c : ℕ) → i ≤ c → c < j → P c (slice_index_or olds c d)) → AreWritten P d olds j news
passed_written P d olds i j news are behind passed = record {
  count = are.count;
  done =
      λ c c_in. elim (cases_lt c i) [
        | inl before ↦ are.done c before
        | inr here ↦ subst (P c) (sym (are.rest c here)) (passed c here c_in)
      ];
  rest = λ c c_from. are.rest c (omega (arith, behind, c_from));
}
