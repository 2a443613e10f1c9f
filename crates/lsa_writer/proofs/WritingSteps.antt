-- One step of the calls that write LSAs.
use Rattle.std.proofs.Common.{◌≡◌, inl, inr, ℕ, suc, ◌+◌, ◌-◌, ◌*◌, ◌<◌, ◌≤◌, refl, sym, ◌∙◌, ap, subst, List, [], ◌∷◌, ◌++◌, length, map, filter, take, drop, get_or, arith, Bool, true, false, cond, Option, Some, None, slice_get, append_assoc, append-nil}
use Rattle.std.specs.Prelude.{All, AllPairs, flat_map, nat_le, ◌==◌, MatchOption}
use Rattle.std.specs.Option.{option_and_then}
use Rattle.std.specs.Int.{w16, w32, to_be_bytes}
use Rattle.std.proofs.lemmas.Bool.{false_from_ne_true, cases_Bool, false≢true, eqb-true, eqb-false, ne_eqb, leb-true, le-leb}
use Rattle.std.proofs.lemmas.Option.{none-some, same_Some, slice_get-get_or, get_or_from_slice_get}
use Rattle.std.proofs.lemmas.List.{at_drop_more, get_or_default, length-map}
use Rattle.std.proofs.lemmas.List.Elements.{All-cons, All-head, All-tail, All-weaker, filter_passes}
use Rattle.std.proofs.lemmas.List.Kept.{AllPairs-filter}
use Rattle.std.proofs.lemmas.List.Sums.{length-filter, count_by-le-length}
use Rattle.cost_base.specs.Lists.{same_bytes, numbers_from}
use Rattle.cost_base.proofs.ByteLemmas.{same_bytes-true}
use Rattle.cost_base.proofs.ListLemmas.{pairs_head, pairs_tail}
use Rattle.interface_model.specs.declared.Interface.{Interface}
use Rattle.interface_model.specs.Records.{Router}
use Rattle.lsdb_build.proofs.Pairs.{all_at, at_map}
use Rattle.lsdb_build.proofs.PortFacts.{differ}
use Rattle.lsdb_build.proofs.GraphLaws.{numbers_step}
use Rattle.lsa_bytes.specs.declared.Body.TheVariants.{Links, Attached}
use Rattle.lsa_bytes.specs.Written.{header, link_bytes, body_bytes, lsa_bytes, bytes_of_all}
use Rattle.lsa_bytes.proofs.RoundTrip.{links_length, routers_length}
use Rattle.lsa_writer.specs.declared.ends.LinkEnd.{LinkEnd}
use Rattle.lsa_writer.specs.declared.said.OwnedLink.{OwnedLink}
use Rattle.lsa_writer.specs.Ends.{id_of, interface_named, no_end, end_at, designated, member_ends, designated_ends}
use Rattle.lsa_writer.specs.Places.{own_count}
use Rattle.lsa_writer.specs.WrittenLsas.{links_alone, own_links, own_lsa, router_lsa, network_lsa, subnet_lsa, routers_in, mask_of}
use Rattle.lsa_writer.proofs.ListPlaces.{in_front}
use Rattle.lsa_writer.proofs.LinkGroups.{AreInOrder, IsBehind}

-- Interfaces that are looked up.

-- the interface at a place of which none before has the name
pub named_here : (name : List ℕ) (interfaces : List Interface) (k : ℕ) (i : Interface) → k < length interfaces →
    i ≡ get_or interfaces k i → same_bytes name i.name ≡ true →
    interface_named name (drop k interfaces) ≡ interface_named name interfaces → slice_get interfaces k ≡ interface_named name interfaces
named_here name interfaces k i within is named left =
    slice_get-get_or interfaces k i within ∙ ap Some (sym is)
    ∙ sym (at_drop_more (interface_named name) interfaces k i within
    ∙ ap (λ (j : Interface). cond (same_bytes name j.name) (Some j) (interface_named name (drop (k + 1) interfaces))) (sym is)
    ∙ ap (λ b. cond b (Some i) (interface_named name (drop (k + 1) interfaces))) named)
    ∙ left

named_so : (name : List ℕ) (interfaces : List Interface) (i : Interface) → interface_named name interfaces ≡ Some i → same_bytes name i.name ≡ true
named_so name [] i found = absurd (none-some i found)
named_so name (j ∷ more) i found = by_test (same_bytes name j.name) refl found (named_so name more i)
  where
    by_test : (b : Bool) → same_bytes name j.name ≡ b → cond b (Some j) (interface_named name more) ≡ Some i →
        (interface_named name more ≡ Some i → same_bytes name i.name ≡ true) → same_bytes name i.name ≡ true
    by_test true is h later = ap (λ (x : Interface). same_bytes name x.name) (sym (same_Some j i h)) ∙ is
    by_test false is h later = later h

past : (xs ys : List Interface) (n : ℕ) (x : Interface) → slice_get ys n ≡ Some x → slice_get (xs ++ ys) (length xs + n) ≡ Some x
past [] ys n x h = let same : 0 + n ≡ n = omega arith in ap (slice_get ys) same ∙ h
past (z ∷ xs) ys n x h = let same : length (z ∷ xs) + n ≡ suc (length xs + n) = omega arith in ap (slice_get (z ∷ xs ++ ys)) same ∙ past xs ys n x h

-- what is named behind is named in the whole, where the names differ
behind_named : (name : List ℕ) (before behind : List Interface) (k : ℕ) (i : Interface) →
    AllPairs differ (before ++ behind) → slice_get behind k ≡ Some i → interface_named name behind ≡ Some i →
    interface_named name (before ++ behind) ≡ Some i
behind_named name [] behind k i pairs at found = found
behind_named name (j ∷ before) behind k i pairs at found =
    elim (cases_Bool (same_bytes name j.name)) [
      | inl here ↦
          let apart = all_at (differ j) (before ++ behind) (pairs_head differ j (before ++ behind) pairs) (length before + k) i (past before behind k i at) in
          absurd (apart (sym (same_bytes-true name j.name here) ∙ same_bytes-true name i.name (named_so name behind i found)))
      | inr other ↦ ap (λ b. cond b (Some j) (interface_named name (before ++ behind))) other
          ∙ behind_named name before behind k i (pairs_tail differ j (before ++ behind) pairs) at found
    ]

pub found_behind : (name : List ℕ) (whole before behind : List Interface) (k : ℕ) → whole ≡ before ++ behind →
    AllPairs differ whole → k < length behind → slice_get behind k ≡ interface_named name behind
    → slice_get whole (length before + k) ≡ interface_named name whole
found_behind name whole before [] k is pairs within found = absurd (omega arith)
found_behind name whole before (x ∷ behind) k is pairs within found =
    let i = get_or (x ∷ behind) k x in
    let at : slice_get (x ∷ behind) k ≡ Some i = slice_get-get_or (x ∷ behind) k x within in
    ap (λ (is : List Interface). slice_get is (length before + k)) is
    ∙ past before (x ∷ behind) k i at
    ∙ sym (behind_named name before (x ∷ behind) k i (subst (AllPairs differ) is pairs) at (sym found ∙ at))
    ∙ ap (interface_named name) (sym is)

none_behind : (name : List ℕ) (before behind : List Interface) → interface_named name behind ≡ None →
    interface_named name (before ++ behind) ≡ interface_named name before
none_behind name [] behind none = none
none_behind name (j ∷ before) behind none = ap (λ later. cond (same_bytes name j.name) (Some j) later) (none_behind name before behind none)

abbrev pub IsWithin : List Interface → Option ℕ → Type 0
IsWithin interfaces o = MatchOption o (Unit {0}) (λ place. place < length interfaces)

pub found_before : (name : List ℕ) (whole before behind : List Interface) (o : Option ℕ) → whole ≡ before ++ behind →
    None ≡ interface_named name behind → IsWithin before o → option_and_then (slice_get before) o ≡ interface_named name before
    → option_and_then (slice_get whole) o ≡ interface_named name whole
found_before name whole before behind None is none within found =
    found ∙ sym (none_behind name before behind (sym none)) ∙ ap (interface_named name) (sym is)
found_before name whole [] behind (Some k) is none within found = absurd (omega (arith, within))
found_before name whole (x ∷ before) behind (Some k) is none within found =
    let at = slice_get-get_or (x ∷ before) k x within in
    ap (λ (is : List Interface). slice_get is k) is ∙ in_front (x ∷ before) behind k (get_or (x ∷ before) k x) at ∙ sym at ∙ found
    ∙ sym (none_behind name (x ∷ before) behind (sym none)) ∙ ap (interface_named name) (sym is)

-- Bytes that are added.

-- what one more adds, of several whose bytes stand one after another
pub one_more : {X Y : Type 0} (f : Y → List ℕ) (g : X → Y) (new so_far total : List ℕ) (xs : List X) (k : ℕ) (x : X) →
    k < length xs → x ≡ get_or xs k x → new ≡ so_far ++ f (g x) →
    so_far ++ flat_map f (map g (drop k xs)) ≡ total → new ++ flat_map f (map g (drop (k + 1) xs)) ≡ total
one_more {X} {Y} f g new so_far total xs k x within is added left =
    ap (λ (bytes : List ℕ). bytes ++ flat_map f (map g (drop (k + 1) xs))) added
    ∙ append_assoc so_far (f (g x)) (flat_map f (map g (drop (k + 1) xs)))
    ∙ sym (ap (λ (bytes : List ℕ). so_far ++ bytes)
    (at_drop_more (λ (ys : List X). flat_map f (map g ys)) xs k x within ∙ ap (λ (y : X). f (g y) ++ flat_map f (map g (drop (k + 1) xs))) (sym is)))
    ∙ left

pub one_more_at : {X Y : Type 0} (f : Y → List ℕ) (g : X → Y) (new so_far total : List ℕ) (xs : List X) (k : ℕ)
    (d : X) → k < length xs → new ≡ so_far ++ f (g (get_or xs k d)) →
    so_far ++ flat_map f (map g (drop k xs)) ≡ total → new ++ flat_map f (map g (drop (k + 1) xs)) ≡ total
one_more_at f g new so_far total xs k d within added left =
    one_more f g new so_far total xs k (get_or xs k d) within (get_or_default xs k d (get_or xs k d) within) added left

pub three_added : (old a b c one two three : List ℕ) → one ≡ old ++ a → two ≡ one ++ b → three ≡ two ++ c → three ≡ old ++ (a ++ (b ++ c))
three_added old a b c one two three h i j =
    j ∙ ap (λ (x : List ℕ). x ++ c) (i ∙ ap (λ (x : List ℕ). x ++ b) h) ∙ append_assoc (old ++ a) b c ∙ append_assoc old a (b ++ c)

pub router_bytes : (id : ℕ) (said : List OwnedLink) →
    header 1 id id (24 + 12 * length said)
    ++ ((0 ∷ 0 ∷ to_be_bytes w16 (length said)) ++ flat_map link_bytes (links_alone said))
    ≡ lsa_bytes (router_lsa id (links_alone said))
router_bytes id said =
    let links = links_alone said in
    let count : length links ≡ length said = length-map said (λ (s : OwnedLink). s.link) in
    let size : 24 + 12 * length said ≡ 20 + length (body_bytes 0 (Links links)) = omega (arith, links_length links, count) in
    ap (λ n. header 1 id id n ++ ((0 ∷ 0 ∷ to_be_bytes w16 (length said)) ++ flat_map link_bytes links)) size
    ∙ ap (λ n. header 1 id id (20 + length (body_bytes 0 (Links links))) ++ ((0 ∷ 0 ∷ to_be_bytes w16 n) ++ flat_map link_bytes links)) (sym count)

pub network_bytes : (from : LinkEnd) (ends : List LinkEnd) (members : List ℕ) →
    header 2 from.address from.router (24 + 4 * length members)
    ++ (to_be_bytes w32 (mask_of from.length) ++ flat_map (to_be_bytes w32) (routers_in (member_ends ends members)))
    ≡ lsa_bytes (network_lsa from (member_ends ends members))
network_bytes from ends members =
    let of = member_ends ends members in
    let routers = routers_in of in
    let size : 24 + 4 * length members ≡ 20 + length (body_bytes (mask_of from.length) (Attached routers)) =
    omega (arith, routers_length routers, length-map of (λ (e : LinkEnd). e.router), length-map members (end_at ends)) in
    ap (λ n. header 2 from.address from.router n ++ (to_be_bytes w32 (mask_of from.length) ++ flat_map (to_be_bytes w32) routers)) size

-- Links of one router after another.

abbrev pub from_on : ℕ → List OwnedLink → List OwnedLink
from_on router said = filter (λ s. nat_le router s.router) said

pub all_from_on : (said : List OwnedLink) → from_on 0 said ≡ said
all_from_on [] = refl
all_from_on (s ∷ said) = ap (λ b. cond b (s ∷ from_on 0 said) (from_on 0 said)) (le-leb 0 s.router (omega arith))
    ∙ ap (λ (xs : List OwnedLink). s ∷ xs) (all_from_on said)

pub count_within : (router : ℕ) (said : List OwnedLink) → own_count router said ≤ length said
count_within router [] = omega arith
count_within router (s ∷ said) = by_test (s.router == router) (count_within router said)
  where
    by_test : (b : Bool) → own_count router said ≤ length said → cond b (suc (own_count router said)) 0 ≤ suc (length said)
    by_test true h = omega arith
    by_test false h = omega arith

-- what stands in front of links in order that are of no router before
pub record IsCut (router : ℕ) (rest : List OwnedLink) : Type 0 where
  pub own : take (own_count router rest) rest ≡ own_links router rest
  pub later : drop (own_count router rest) rest ≡ from_on (router + 1) rest

none_own : (router : ℕ) (rest : List OwnedLink) → All (λ s. router < s.router) rest → (own_links router rest ≡ []) × (from_on (router + 1) rest ≡ rest)
none_own router [] all = (refl, refl)
none_own router (s ∷ rest) all =
    let above = All-head (λ x. router < x.router) s rest all in
    let more = none_own router rest (All-tail (λ x. router < x.router) s rest all) in (
      ap (λ b. cond b (s ∷ own_links router rest) (own_links router rest)) (ne_eqb s.router router (λ same. omega (arith, above, same))) ∙ more.0,
      ap (λ b. cond b (s ∷ from_on (router + 1) rest) (from_on (router + 1) rest))
          (le-leb (router + 1) s.router (omega (arith, above))) ∙ ap (λ (xs : List OwnedLink). s ∷ xs) more.1,
    )

pub cut : (router : ℕ) (rest : List OwnedLink) → AreInOrder rest → All (λ s. router ≤ s.router) rest → IsCut router rest
cut router [] order all = record { own = refl; later = refl }
cut router (s ∷ rest) order all =
    let here = All-head (λ x. router ≤ x.router) s rest all in
    elim (cases_Bool (s.router == router)) [
      | inl same ↦
          let is : s.router ≡ router = eqb-true s.router router same in
          let more = cut router rest (pairs_tail IsBehind s rest order) (All-tail (λ x. router ≤ x.router) s rest all) in
          record {
            own = ap (λ b. take (cond b (suc (own_count router rest)) 0) (s ∷ rest)) same
                ∙ ap (λ (xs : List OwnedLink). s ∷ xs) more.own
                ∙ sym (ap (λ b. cond b (s ∷ own_links router rest) (own_links router rest)) same);
            later = ap (λ b. drop (cond b (suc (own_count router rest)) 0) (s ∷ rest)) same ∙ more.later
                ∙ sym (ap (λ b. cond b (s ∷ from_on (router + 1) rest) (from_on (router + 1) rest)) (too_low is));
          }
      | inr other ↦
          let apart = eqb-false s.router router other in
          let above : router < s.router = omega (arith, here, apart) in
          let none = none_own router (s ∷ rest)
          (All-cons (λ x. router < x.router) s rest above
          (All-weaker (IsBehind s) (λ x. router < x.router) (λ x h. omega (arith, h, above)) rest
          (pairs_head IsBehind s rest order))) in
          record {
            own = ap (λ b. take (cond b (suc (own_count router rest)) 0) (s ∷ rest)) other ∙ sym none.0;
            later = ap (λ b. drop (cond b (suc (own_count router rest)) 0) (s ∷ rest)) other ∙ sym none.1;
          }
    ]
  where
    too_low : s.router ≡ router → nat_le (router + 1) s.router ≡ false
    too_low is = false_from_ne_true (nat_le (router + 1) s.router) (λ high. (let above = leb-true (router + 1) s.router high in omega (arith, above, is)))

-- of the links from a router on, those of the router and those behind it
own_from : (router : ℕ) (said : List OwnedLink) → own_links router (from_on router said) ≡ own_links router said
own_from router [] = refl
own_from router (s ∷ said) = by_tests (nat_le router s.router) (s.router == router) refl refl (own_from router said)
  where
    by_tests : (a b : Bool) → nat_le router s.router ≡ a → (s.router == router) ≡ b →
        own_links router (from_on router said) ≡ own_links router said →
        own_links router (cond a (s ∷ from_on router said) (from_on router said))
        ≡ cond b (s ∷ own_links router said) (own_links router said)
    by_tests true b high is rest =
        ap (λ c. cond c (s ∷ own_links router (from_on router said)) (own_links router (from_on router said))) is
        ∙ ap (λ (xs : List OwnedLink). cond b (s ∷ xs) xs) rest
    by_tests false true high is rest = absurd (false≢true (sym high ∙ le-leb router s.router (let same = eqb-true s.router router is in omega (arith, same))))
    by_tests false false high is rest = rest

later_from : (router : ℕ) (said : List OwnedLink) → from_on (router + 1) (from_on router said) ≡ from_on (router + 1) said
later_from router [] = refl
later_from router (s ∷ said) = by_tests (nat_le router s.router) (nat_le (router + 1) s.router) refl refl (later_from router said)
  where
    by_tests : (a b : Bool) → nat_le router s.router ≡ a → nat_le (router + 1) s.router ≡ b →
        from_on (router + 1) (from_on router said) ≡ from_on (router + 1) said →
        from_on (router + 1) (cond a (s ∷ from_on router said) (from_on router said))
        ≡ cond b (s ∷ from_on (router + 1) said) (from_on (router + 1) said)
    by_tests true b high is rest =
        ap (λ c. cond c (s ∷ from_on (router + 1) (from_on router said)) (from_on (router + 1) (from_on router said))) is
        ∙ ap (λ (xs : List OwnedLink). cond b (s ∷ xs) xs) rest
    by_tests false true high is rest =
        absurd (false≢true (sym high
        ∙ le-leb router s.router (let above = leb-true (router + 1) s.router is in omega (arith, above))))
    by_tests false false high is rest = rest

-- the links of a router are taken off those from it on
pub taken_off : (router : ℕ) (said rest : List OwnedLink) → AreInOrder said → rest ≡ from_on router said →
    (take (own_count router rest) rest ≡ own_links router said)
    × (drop (own_count router rest) rest ≡ from_on (router + 1) said)
taken_off router said rest order is =
    let low = All-weaker (λ s. nat_le router s.router ≡ true) (λ s. router ≤ s.router)
    (λ s h. leb-true router s.router h) (from_on router said)
    (filter_passes (λ (s : OwnedLink). nat_le router s.router) said) in
    let parts = cut router (from_on router said) (AllPairs-filter IsBehind (λ s. nat_le router s.router) said order) low in (
      ap (λ (xs : List OwnedLink). take (own_count router xs) xs) is ∙ parts.own ∙ own_from router said,
      ap (λ (xs : List OwnedLink). drop (own_count router xs) xs) is ∙ parts.later ∙ later_from router said,
    )

pub own_within : (router : ℕ) (said : List OwnedLink) → length (own_links router said) ≤ length said
own_within router said = omega (
  arith,
  length-filter (λ (s : OwnedLink). s.router == router) said,
  count_by-le-length (λ (s : OwnedLink). s.router == router) said,
)

-- the network-LSA of one more subnet
pub one_subnet_added : (ends chosen : List LinkEnd) (subnets : List (List ℕ)) (i : ℕ) (members slice : List ℕ)
    (from : LinkEnd) (old new : List ℕ) → i < length subnets → members ≡ get_or subnets i members →
    chosen ≡ designated_ends ends subnets →
    slice ≡ members → from ≡ end_at chosen i → new ≡ old ++ lsa_bytes (network_lsa from (member_ends ends slice)) →
    new ≡ old ++ lsa_bytes (subnet_lsa ends members)
one_subnet_added ends chosen subnets i members slice from old new within is chosen_is same from_is added =
    let at : slice_get subnets i ≡ Some members = slice_get-get_or subnets i members within ∙ ap Some (sym is) in
    let first : from ≡ designated (member_ends ends members) =
    from_is ∙ ap (λ (es : List LinkEnd). end_at es i) chosen_is
    ∙ get_or_from_slice_get (designated_ends ends subnets) i (designated (member_ends ends members)) no_end
    (at_map (λ ms. designated (member_ends ends ms)) subnets i members at) in
    added ∙ ap (λ (ms : List ℕ). old ++ lsa_bytes (network_lsa from (member_ends ends ms))) same
    ∙ ap (λ (e : LinkEnd). old ++ lsa_bytes (network_lsa e (member_ends ends members))) first

-- the router-LSA of one more router
pub router_turn : (configs : List Router) (said own : List OwnedLink) (router id : ℕ) (so_far new total : List ℕ) →
    router < length configs → id ≡ id_of configs router → own ≡ own_links router said →
    new ≡ so_far ++ lsa_bytes (router_lsa id (links_alone own)) →
    so_far ++ bytes_of_all (map (own_lsa configs said) (numbers_from router (length configs - router))) ≡ total →
    new ++ bytes_of_all (map (own_lsa configs said) (numbers_from (router + 1) (length configs - (router + 1)))) ≡ total
router_turn configs said own router id so_far new total below id_is own_is added left =
    let later = bytes_of_all (map (own_lsa configs said) (numbers_from (router + 1) (length configs - (router + 1)))) in
    let one = lsa_bytes (own_lsa configs said router) in
    ap (λ (bytes : List ℕ). bytes ++ later)
    (added ∙ ap (λ (n : ℕ). so_far ++ lsa_bytes (router_lsa n (links_alone own))) id_is
    ∙ ap (λ (links : List OwnedLink).
    so_far ++ lsa_bytes (router_lsa (id_of configs router) (links_alone links))) own_is)
    ∙ append_assoc so_far one later
    ∙ sym (ap (λ (ns : List ℕ). so_far ++ bytes_of_all (map (own_lsa configs said) ns)) (numbers_step router (length configs) below))
    ∙ left

-- no router is left
pub router_end : (configs : List Router) (said : List OwnedLink) (router : ℕ) (so_far total : List ℕ) →
    length configs ≤ router → so_far
    ++ bytes_of_all (map (own_lsa configs said) (numbers_from router (length configs - router))) ≡ total →
    so_far ≡ total
router_end configs said router so_far total past left =
    let none : length configs - router ≡ 0 = omega (arith, past) in
    sym (append-nil so_far) ∙ sym (ap (λ n. so_far ++ bytes_of_all (map (own_lsa configs said) (numbers_from router n))) none) ∙ left
