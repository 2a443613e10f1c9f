-- Trees of prefixes as they grow.
use Rattle.std.proofs.Common.{◌≡◌, ℕ, refl, sym, subst, List, [], ◌∷◌, arith}
use Rattle.std.specs.Prelude.{Contains}
use Rattle.set_separation.specs.PrefixTrees.{BeginsOneOf, IsGrown, prefix_of_place}

-- the tree of the empty prefix alone
pub grown_first : (wanted : List (List ℕ)) (path : List ℕ) → Contains wanted path → IsGrown wanted [] []
grown_first wanted path has = record {
  prefixes = [] ∷ [];
  count = refl;
  root = refl;
  before = λ i i_in. absurd (omega arith);
  grown = λ i i_in. absurd (omega arith);
  different = λ k l k_in l_in same. omega arith;
  begun = λ k k_in.
      let none : k ≡ 0 = omega arith in
      subst (λ (n : ℕ). BeginsOneOf wanted (prefix_of_place ([] ∷ []) n)) (sym none) (record { path = path; listed = has; more = path; same = refl });
  passed = λ done listed. absurd (omega (arith, listed.1));
}
