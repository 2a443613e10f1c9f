-- Routers that are noted at prefixes, with one more.
use Rattle.std.proofs.Common.{◌≡◌, ℕ, inl, inr, true, false, cond, ◌==◌, not, eq-eqb, Option, Some, None, refl, ap, ◌∙◌}
use Rattle.std.proofs.lemmas.Bool.{cases_Bool, false≢true, eqb-true}
use Rattle.indexmap.specs.IndexMap.{IndexMap, get, Updates}
use Rattle.lsdb_build.specs.declared.port.Subnet.{Subnet}
use Rattle.lsdb_build.specs.declared.owners.Owner.{Owner}
use Rattle.lsdb_build.specs.declared.owners.Owner.TheVariants.{One, Several}
use Rattle.lsdb_build.specs.Tallies.{same_subnet}
use Rattle.lsdb_build.specs.Owners.{joined_owner, has_router, has_other, IsOwnerNoted}
use Rattle.lsdb_build.proofs.Placing.{same_subnets}

joined_has : (found : Option Owner) (router : ℕ) → has_router (Some (joined_owner found router)) router ≡ true
joined_has None router = eq-eqb router router refl
joined_has (Some (One first)) router =
    elim (cases_Bool (first == router)) [
      | inl same ↦ ap (λ b. has_router (Some (cond b (One first) Several)) router) same ∙ same
      | inr differs ↦ ap (λ b. has_router (Some (cond b (One first) Several)) router) differs
    ]
joined_has (Some Several) router = refl

joined_keeps : (found : Option Owner) (router other : ℕ) → has_router found other ≡ true → has_router (Some (joined_owner found router)) other ≡ true
joined_keeps None router other has = absurd (false≢true has)
joined_keeps (Some (One first)) router other has =
    elim (cases_Bool (first == router)) [
      | inl same ↦ ap (λ b. has_router (Some (cond b (One first) Several)) other) same ∙ has
      | inr differs ↦ ap (λ b. has_router (Some (cond b (One first) Several)) other) differs
    ]
joined_keeps (Some Several) router other has = refl

-- where a router is noted, another one has another beside it
pub other_noted : (found : Option Owner) (router other : ℕ) → has_router found router ≡ true → (router == other) ≡ false → has_other found other ≡ true
other_noted None router other has apart = absurd (false≢true has)
other_noted (Some (One first)) router other has apart = ap (λ n. not (n == other)) (eqb-true first router has) ∙ ap not apart
other_noted (Some Several) router other has apart = refl

module _ {S : Type 0} (old new : IndexMap Subnet Owner S) (router : ℕ) (prefix : Subnet) (owner : Owner)
    (owner_is : owner ≡ joined_owner (get same_subnet old prefix) router)
    (updates : Updates same_subnet old new prefix (Some owner)) where
  pub noted_there : IsOwnerNoted new router prefix
  noted_there = ap (λ found. has_router found router) (updates.1 ∙ ap Some owner_is) ∙ joined_has (get same_subnet old prefix) router

  pub noted_kept : (other : ℕ) (key : Subnet) → IsOwnerNoted old other key → IsOwnerNoted new other key
  noted_kept other key has =
      elim (cases_Bool (same_subnet prefix key)) [
        | inl same ↦
            ap (λ found. has_router found other) (updates.0 key ∙ ap (λ b. cond b (Some owner) (get same_subnet old key)) same ∙ ap Some owner_is)
            ∙ joined_keeps (get same_subnet old prefix) router other (ap (λ k. has_router (get same_subnet old k) other) (same_subnets prefix key same) ∙ has)
        | inr differs ↦
            ap (λ found. has_router found other) (updates.0 key ∙ ap (λ b. cond b (Some owner) (get same_subnet old key)) differs) ∙ has
      ]
