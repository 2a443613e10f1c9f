-- The widest of the candidates.
use Rattle.std.specs.Prelude.{ℕ, ◌-◌, max, List, fold, take, position, unwrap_or, ◌==◌, ◌^◌}
use Rattle.cut_advisors.specs.declared.candidate.Candidate.{Candidate}

-- how far the range goes, 0 where it is empty
abbrev pub width : Candidate → ℕ
width candidate = candidate.high - candidate.low

-- the width of the widest candidate; 0 with no candidate
abbrev pub greatest_width : List Candidate → ℕ
greatest_width candidates = fold (λ greatest candidate. max greatest (width candidate)) 0 candidates

-- the position of the first candidate of the greatest width, 0 with no candidate
abbrev pub first_widest : List Candidate → ℕ
first_widest candidates = unwrap_or (position (λ candidate. width candidate == greatest_width candidates) candidates) 0

-- positions are numbers of 32 bits, so only so many candidates are looked at
abbrev pub countable : List Candidate → List Candidate
countable candidates = take (2 ^ 32) candidates
