-- Which advisor answers, and which advisors are left.
use Rattle.std.specs.Prelude.{◌≡◌, ℕ, ◌<◌, ◌≤◌, List, [], ◌∷◌}

-- of the advisors that were left the first has become `first` by being asked, and the others are as they were
pub record StandsFirst {A : Type 0} (Asked : A → A → Type 0) (advisor : A) (others left : List A) : Type 0 where
  pub first : A
  pub those_left : left ≡ first ∷ others
  pub asked : Asked advisor first

-- The answer is that of the first advisor for which it is below the number of candidates. Those before it are dropped,
-- it is itself as `Asked` says, and those after it are as they were. With none in range the answer is 0, and none is
-- left.
abbrev pub IsChosen : {A : Type 0} → (A → ℕ) → (A → A → Type 0) → ℕ → List A → ℕ → List A → Type 0
IsChosen would Asked candidates [] answer left = (answer ≡ 0) × (left ≡ [])
IsChosen would Asked candidates (advisor ∷ others) answer left =
    (would advisor < candidates → (answer ≡ would advisor) × StandsFirst Asked advisor others left)
    × (candidates ≤ would advisor → IsChosen would Asked candidates others answer left)
