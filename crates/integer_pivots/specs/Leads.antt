-- Where columns lead: the first variable with a number in each.
use Rattle.std.specs.Prelude.{◌≡◌, ◌≢◌, ℕ, ◌<◌, ◌≤◌, List, [], ℤ, pos, length, slice_index, slice_index_or}
use Rattle.whole_numbers.specs.Lists.{number_at}

-- the variables before this one have 0 in the column
abbrev pub AreZeros : List (List ℤ) → ℕ → ℕ → Type 0
AreZeros rows column bound = (v : ℕ) → v < bound → number_at (slice_index_or rows v []) column ≡ pos 0

-- the first variable whose number in the column isn't 0; where there is none, how many variables there are
pub record IsLead (rows : List (List ℤ)) (column lead : ℕ) : Type 0 where
  pub within : lead ≤ length rows
  pub before : AreZeros rows column lead
  pub there : lead < length rows → number_at (slice_index_or rows lead []) column ≢ pos 0

-- the leads of all columns
abbrev pub AreLeads : List (List ℤ) → List ℕ → Type 0
AreLeads rows leads = (c : ℕ) → c < length leads → IsLead rows c (slice_index leads c)
