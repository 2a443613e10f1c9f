-- Counts of failed calls.
use Rattle.std.proofs.Common.{◌≡◌, ◌≢◌, ℕ, ◌+◌, refl, ◌∙◌, ap, List, [], ◌∷◌, ◌++◌, arith, bytes_eq, Bool, true, false, cond, Err}
use Rattle.std.proofs.lemmas.List.Sums.{sum_by-append}
use Rattle.std.proofs.lemmas.Slice.Eq.{bytes_eq-Decides}
use Rattle.cost_base.specs.Files.{count_of_name}
use Rattle.cost_base.specs.Outside.{CountsFaults}
use Rattle.cost_base.specs.declared.ShelfStop.TheVariants.{Failed}

-- one more name counts once for itself, and not for another
pub times_more : (names : List (List ℕ)) (name other : List ℕ) → count_of_name (names ++ name ∷ []) other ≡
    count_of_name names other + cond (bytes_eq name other) 1 0
times_more names name other =
    omega (arith, sum_by-append (λ (x : List ℕ). cond (bytes_eq x other) 1 0) names (name ∷ []))

-- a test of equal bytes fails at different bytes
different : (name other : List ℕ) → other ≢ name → bytes_eq name other ≡ false
different name other differs = grind (arith, bytes_eq-Decides name other, differs)

-- a failed call whose name was noted is a fault of that name alone
pub noted : {T : Type 0} (before now : List (List ℕ)) (name copy : List ℕ) → now ≡ before ++ copy ∷ [] → copy ≡ name →
    CountsFaults {T = T} (count_of_name before) (count_of_name now) name (Err Failed)
noted before now name copy grown same = record {
  others = λ other differs.
      let e : bytes_eq copy other ≡ false = rw same (different name other differs) in
      let k : count_of_name now other ≡ count_of_name before other + cond false 1 0 =
      rw grown (times_more before copy other ∙ ap (λ (b : Bool). count_of_name before other + cond b 1 0) e) in omega arith;
  failed = λ _.
      let e : bytes_eq copy name ≡ true = rw same ((bytes_eq-Decides name name).1 refl) in
      let k : count_of_name now name ≡ count_of_name before name + cond true 1 0 =
      rw grown (times_more before copy name ∙ ap (λ (b : Bool). count_of_name before name + cond b 1 0) e) in omega arith;
  kept = λ not. absurd (not refl);
}
