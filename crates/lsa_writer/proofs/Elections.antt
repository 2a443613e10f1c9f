-- The designated router of a subnet is one of its members.
use Rattle.std.proofs.Common.{◌≡◌, ℕ, zero, suc, ◌<◌, refl, sym, ◌∙◌, ap, subst, List, [], ◌∷◌, length, arith, Bool, true, false, cond, Option, Some, None, slice_get}
use Rattle.std.proofs.lemmas.Bool.{false≢true, eqb-true}
use Rattle.std.proofs.lemmas.Option.{slice_get_within, get_or_from_slice_get}
use Rattle.std.proofs.lemmas.List.Elements.{filter_passes}
use Rattle.cost_base.specs.Lists.{numbers_from}
use Rattle.interface_model.specs.Records.{Router as Config}
use Rattle.lsdb_build.specs.declared.Far.{Far}
use Rattle.lsdb_build.specs.declared.Far.TheVariants.{Router, Subnet}
use Rattle.lsdb_build.specs.declared.Linked.{Linked}
use Rattle.lsdb_build.specs.Graphs.{Database, IsAreaDatabase, leads_to, link_leads_to, links_into_subnet}
use Rattle.lsdb_build.proofs.Pairs.{all_at, map_at, at_map}
use Rattle.lsa_writer.specs.declared.ends.LinkEnd.{LinkEnd}
use Rattle.lsa_writer.specs.Ends.{no_end, end_of, link_ends, end_at, outranks, first_in_rank, designated, member_ends}

-- the first in rank is one of them
first_is : (best : LinkEnd) (more : List LinkEnd) → (k : ℕ) × (slice_get (best ∷ more) k ≡ Some (first_in_rank best more))
first_is best [] = (0, refl)
first_is best (other ∷ more) = by_rank (outranks other best) (first_is other more) (first_is best more)
  where
    by_rank : (b : Bool) → ((k : ℕ) × (slice_get (other ∷ more) k ≡ Some (first_in_rank other more))) →
        ((k : ℕ) × (slice_get (best ∷ more) k ≡ Some (first_in_rank best more))) →
        (k : ℕ) × (slice_get (best ∷ other ∷ more) k ≡ Some (first_in_rank (cond b other best) more))
    by_rank true won kept = (suc won.0, won.1)
    by_rank false won kept = past_other kept.0 kept.1
      where
        past_other : (k : ℕ) → slice_get (best ∷ more) k ≡ Some (first_in_rank best more) →
            (j : ℕ) × (slice_get (best ∷ other ∷ more) j ≡ Some (first_in_rank best more))
        past_other zero at = (0, at)
        past_other (suc k) at = (suc (suc k), at)

-- of some members the designated router is one
pub elected : (ends : List LinkEnd) → 0 < length ends → (k : ℕ) × (slice_get ends k ≡ Some (designated ends))
elected [] some = absurd (omega arith)
elected (first ∷ more) some = first_is first more

-- where a link leads to a subnet
pub subnet_is : (s : ℕ) (far : Far) → leads_to s far ≡ true → far ≡ Subnet s
subnet_is s (Router r) leads = absurd (false≢true leads)
subnet_is s (Subnet t) leads = ap Subnet (eqb-true t s leads)

-- a link that leads to a subnet
pub record LeadsInto (d : Database) (s l : ℕ) : Type 0 where
  pub link : Linked
  pub at : slice_get d.links l ≡ Some link
  pub to : link.to ≡ Subnet s

leads_into : (d : Database) (s l : ℕ) (o : Option Linked) → slice_get d.links l ≡ o → link_leads_to s o ≡ true → LeadsInto d s l
leads_into d s l None is leads = absurd (false≢true leads)
leads_into d s l (Some link) is leads = record { link = link; at = is; to = subnet_is s link.to leads }

-- a member of a subnet is such a link
pub member_leads : (d : Database) (s : ℕ) (members : List ℕ) → IsAreaDatabase d → slice_get d.subnets s ≡ Some members →
    (k l : ℕ) → slice_get members k ≡ Some l → LeadsInto d s l
member_leads d s members base at k l at_k =
    let within = slice_get_within d.subnets s members at in
    let are : members ≡ links_into_subnet d s = sym (get_or_from_slice_get d.subnets s members [] at) ∙ base.members s within in
    leads_into d s l (slice_get d.links l) refl
    (all_at (λ m. link_leads_to s (slice_get d.links m) ≡ true) (links_into_subnet d s)
    (filter_passes (λ m. link_leads_to s (slice_get d.links m)) (numbers_from 0 (length d.links))) k l
    (subst (λ (ms : List ℕ). slice_get ms k ≡ Some l) are at_k))

-- the end of a link
pub end_there : (configs : List Config) (links : List Linked) (l : ℕ) (link : Linked) → slice_get links l ≡ Some link →
    end_at (link_ends configs links) l ≡ end_of configs link
end_there configs links l link at = get_or_from_slice_get (link_ends configs links) l (end_of configs link) no_end (at_map (end_of configs) links l link at)

-- a subnet's designated router
pub record IsElected (configs : List Config) (d : Database) (s : ℕ) (members : List ℕ) : Type 0 where
  pub place : ℕ
  pub into : LeadsInto d s place
  pub end_is : designated (member_ends (link_ends configs d.links) members) ≡ end_of configs into.link

pub elected_leads : (configs : List Config) (d : Database) (s : ℕ) (members : List ℕ) → IsAreaDatabase d →
    slice_get d.subnets s ≡ Some members → 0 < length members → IsElected configs d s members
elected_leads configs d s members base at some =
    let ends = link_ends configs d.links in
    let won = elected (member_ends ends members) (subst (λ n. 0 < n) (sym (length-members members)) some) in
    let from = map_at (end_at ends) members won.0 (designated (member_ends ends members)) won.1 in
    let into = member_leads d s members base at won.0 from.0 from.1 in
    record { place = from.0; into = into; end_is = from.2 ∙ end_there configs d.links from.0 into.link into.at }
  where
    length-members : (ms : List ℕ) → length (member_ends (link_ends configs d.links) ms) ≡ length ms
    length-members [] = refl
    length-members (m ∷ ms) = ap suc (length-members ms)
