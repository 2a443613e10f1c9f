-- The numbers of the lines in which paths stand.
use Rattle.std.proofs.Common.{◌≡◌, ℕ, suc, ◌+◌, ◌<◌, refl, sym, ◌∙◌, ap, get_or, List, [], ◌∷◌, length, arith, Bool, true, false, cond}
use Rattle.std.specs.Prelude.{None, Some, if◌then◌else◌}
use Rattle.set_reader.specs.Reading.{stands_in}
use Rattle.spread_sets.specs.Spreads.{set_of}
use Rattle.spread_sets.specs.MemberSets.{line_with_path}

-- the line of a path
pub found_line : (number : ℕ) (lines : List (List ℕ)) (path n : ℕ) → line_with_path number lines path ≡ Some n →
    (i : ℕ) × (n ≡ number + i) × (i < length lines) × (get_or lines i [] ≡ set_of lines path)
found_line number [] path n is = absurd (cc)
found_line number (set ∷ sets) path n is = by_test (stands_in path set) (λ later. found_line (number + 1) sets path n later) is
  where
    by_test : (stands : Bool) → (line_with_path (number + 1) sets path ≡ Some n →
        (i : ℕ) × (n ≡ number + 1 + i) × (i < length sets) × (get_or sets i [] ≡ set_of sets path)) →
        cond stands (Some number) (line_with_path (number + 1) sets path) ≡ Some n →
        (i : ℕ) × (n ≡ number + i) × (i < suc (length sets)) × (get_or (set ∷ sets) i [] ≡ (if stands then set else set_of sets path))
    by_test true later is = (0, (let e : number ≡ n = cc in omega arith), omega arith, refl)
    by_test false later is = let found = later is in (suc found.0, omega (arith, found.1), omega (arith, found.2), found.3)

pub no_line : (number : ℕ) (lines : List (List ℕ)) (path : ℕ) → line_with_path number lines path ≡ None → set_of lines path ≡ path ∷ []
no_line number [] path is = refl
no_line number (set ∷ sets) path is = by_test (stands_in path set) (λ later. no_line (number + 1) sets path later) is
  where
    by_test : (stands : Bool) → (line_with_path (number + 1) sets path ≡ None → set_of sets path ≡ path ∷ []) →
        cond stands (Some number) (line_with_path (number + 1) sets path) ≡ None → (if stands then set else set_of sets path) ≡ path ∷ []
    by_test true later is = absurd (cc)
    by_test false later is = later is

-- what is read at a number is the path's set
pub line_there : (lines : List (List ℕ)) (path n : ℕ) → Some n ≡ line_with_path 0 lines path → (n < length lines) × (get_or lines n [] ≡ set_of lines path)
line_there lines path n is =
    let found = found_line 0 lines path n (sym is) in
    (omega (arith, found.1, found.2), ap (λ (i : ℕ). get_or lines i []) (let e : n ≡ found.0 = omega (arith, found.1) in e) ∙ found.3)
