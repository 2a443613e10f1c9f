-- LSAs that were written are read again.
use Rattle.std.proofs.Common.{◌≡◌, ℕ, ◌+◌, ◌-◌, ◌*◌, ◌/◌, ◌%◌, ◌^◌, ◌<◌, ◌&&◌, ◌||◌, not, Bool, true, false, cond, nat_eq, nat_lt, List, [], ◌∷◌, ◌++◌, length, drop, map, get_or, Option, None, Some, Ok, All, refl, sym, ap, subst, ◌∙◌, arith}
use Rattle.std.specs.Prelude.{flat_map, nat_le, is_some}
use Rattle.std.specs.List.{concat, AllByRecursion}
use Rattle.std.specs.Option.{option_map, option_or}
use Rattle.std.specs.Int.{w16, w32, to_be_bytes}
use Rattle.std.specs.Cmp.Derive.{both_true}
use Rattle.std.proofs.lemmas.Bool.{le-leb, le-ltb, or_from, eq-eqb}
use Rattle.std.proofs.lemmas.Nat.{from_be_bytes-to_be_bytes_2, from_be_bytes-to_be_bytes_4}
use Rattle.std.proofs.lemmas.List.{append-nil, get_or-drop, drop-drop}
use Rattle.std.proofs.lemmas.List.Elements.{All-head, All-tail}
use Rattle.cost_base.specs.Lists.{numbers_from}
use Rattle.lsa_bytes.specs.declared.fault.LsaFault.{LsaFault}
use Rattle.lsa_bytes.specs.declared.fault.LsaFault.TheVariants.{BadBody}
use Rattle.lsa_bytes.specs.declared.LsaLink.{LsaLink}
use Rattle.lsa_bytes.specs.declared.Body.{Body}
use Rattle.lsa_bytes.specs.declared.Body.TheVariants.{Links, Attached}
use Rattle.lsa_bytes.specs.declared.Lsa.{Lsa}
use Rattle.lsa_bytes.specs.declared.instances.Instance.{Instance}
use Rattle.lsa_bytes.specs.Fields.{number_16, number_32}
use Rattle.lsa_bytes.specs.Grammar.{age_of, type_of, length_of, link_at, starts_link, links_of, body_of, with_body, is_read, said_at, stamp_of}
use Rattle.lsa_bytes.specs.Databases.{HaveNoFault}
use Rattle.lsa_bytes.specs.Instances.{is_max_age, lsas_of, those_that_count}
use Rattle.lsa_bytes.specs.Faults.{body_fault}
use Rattle.lsa_bytes.specs.Files.{IsLsa, Say, decided, fault_or, instances_in}
use Rattle.lsa_bytes.proofs.Apart.{all_count}
use Rattle.lsa_bytes.proofs.Lengths.{IsWhole, own_fault}
use Rattle.lsa_bytes.specs.Written.{Masked, IsWritableLink, CanBeWritten, IsWritable, bytes_of_all, header, link_bytes, body_bytes, type_of_body, lsa_bytes}

-- a link that was written begins what follows it, and says what it said
link_starts : (link : LsaLink) (rest : List ℕ) → IsWritableLink link → starts_link (link_bytes link ++ rest) ≡ true
link_starts link rest is = both_true (le-leb 12 (length (link_bytes link ++ rest)) (omega arith)) is.kind

link_again : (link : LsaLink) (rest : List ℕ) → IsWritableLink link → link_at (link_bytes link ++ rest) ≡ link
unfolding number_16 number_32
link_again link rest is =
    let id : (link_at (link_bytes link ++ rest)).id ≡ link.id = omega (arith, from_be_bytes-to_be_bytes_4 link.id is.id) in
    let address : (link_at (link_bytes link ++ rest)).address ≡ link.address = omega (arith, from_be_bytes-to_be_bytes_4 link.address is.address) in
    let metric : (link_at (link_bytes link ++ rest)).metric ≡ link.metric = omega (arith, from_be_bytes-to_be_bytes_2 link.metric is.metric) in
    λ i. record { id = id i; address = address i; kind = link.kind; metric = metric i }

links_again : (links : List LsaLink) → All IsWritableLink links → links_of (length links) (flat_map link_bytes links) ≡ Some links
links_again [] all = refl
links_again (link ∷ links) all =
    let rest = flat_map link_bytes links in
    let is = All-head IsWritableLink link links all in
    ap (λ (b : Bool). cond b (option_map (λ ls. link_at (link_bytes link ++ rest) ∷ ls) (links_of (length links) rest)) None) (link_starts link rest is)
    ∙ ap (λ (found : Option (List LsaLink)). option_map (λ ls. link_at (link_bytes link ++ rest) ∷ ls) found)
    (links_again links (All-tail IsWritableLink link links all))
    ∙ ap (λ (l : LsaLink). Some (l ∷ links)) (link_again link rest is)

-- the header of an LSA that was written
header_length : (type id router size : ℕ) (body : List ℕ) → size < 2 ^ 16 → length_of (header type id router size ++ body) ≡ size
unfolding number_16
header_length type id router size body fits = omega (arith, from_be_bytes-to_be_bytes_2 size fits)

header_age : (type id router size : ℕ) (body : List ℕ) → age_of (header type id router size ++ body) ≡ 0
unfolding number_16
header_age type id router size body = refl

header_id : (type id router size : ℕ) (body : List ℕ) → id < 2 ^ 32 → number_32 (header type id router size ++ body) 4 ≡ id
unfolding number_16 number_32
header_id type id router size body fits = omega (arith, from_be_bytes-to_be_bytes_4 id fits)

header_router : (type id router size : ℕ) (body : List ℕ) → router < 2 ^ 32 → number_32 (header type id router size ++ body) 8 ≡ router
unfolding number_16 number_32
header_router type id router size body fits = omega (arith, from_be_bytes-to_be_bytes_4 router fits)

-- Attached routers that were written.

pub routers_length : (routers : List ℕ) → length (flat_map (to_be_bytes w32) routers) ≡ 4 * length routers
routers_length [] = refl
routers_length (router ∷ routers) = omega (arith, routers_length routers)

number_32-drop : (at : ℕ) (bytes : List ℕ) → number_32 (drop at bytes) 0 ≡ number_32 bytes at
unfolding number_16 number_32
number_32-drop at bytes =
    let a : get_or (drop at bytes) 0 0 ≡ get_or bytes at 0 = get_or-drop at bytes 0 0 ∙ ap (λ (k : ℕ). get_or bytes k 0) (omega arith) in
    let b : get_or (drop at bytes) 1 0 ≡ get_or bytes (at + 1) 0 = get_or-drop at bytes 1 0 in
    let c : get_or (drop at bytes) 2 0 ≡ get_or bytes (at + 2) 0 = get_or-drop at bytes 2 0 in
    let d : get_or (drop at bytes) 3 0 ≡ get_or bytes (at + 2 + 1) 0 = get_or-drop at bytes 3 0 ∙ ap (λ (k : ℕ). get_or bytes k 0) (omega arith) in
    ap (λ (x : ℕ). 65536 * (256 * x + get_or (drop at bytes) 1 0) + (256 * get_or (drop at bytes) 2 0 + get_or (drop at bytes) 3 0)) a
    ∙ ap (λ (x : ℕ). 65536 * (256 * get_or bytes at 0 + x) + (256 * get_or (drop at bytes) 2 0 + get_or (drop at bytes) 3 0)) b
    ∙ ap (λ (x : ℕ). 65536 * (256 * get_or bytes at 0 + get_or bytes (at + 1) 0) + (256 * x + get_or (drop at bytes) 3 0)) c
    ∙ ap (λ (x : ℕ). 65536 * (256 * get_or bytes at 0 + get_or bytes (at + 1) 0) + (256 * get_or bytes (at + 2) 0 + x)) d

router_again : (router : ℕ) (rest : List ℕ) → router < 2 ^ 32 → number_32 (to_be_bytes w32 router ++ rest) 0 ≡ router
unfolding number_16 number_32
router_again router rest fits = omega (arith, from_be_bytes-to_be_bytes_4 router fits)

routers_again : (bytes : List ℕ) (a : ℕ) (routers : List ℕ) → All (λ r. r < 2 ^ 32) routers → drop (24 + 4 * a) bytes ≡ flat_map (to_be_bytes w32) routers
    → map (λ i. number_32 bytes (24 + 4 * i)) (numbers_from a (length routers)) ≡ routers
routers_again bytes a [] all is = refl
routers_again bytes a (router ∷ routers) all is =
    let rest = flat_map (to_be_bytes w32) routers in
    let here : number_32 bytes (24 + 4 * a) ≡ router =
    sym (number_32-drop (24 + 4 * a) bytes) ∙ ap (λ (bs : List ℕ). number_32 bs 0) is
    ∙ router_again router rest (All-head (λ r. r < 2 ^ 32) router routers all) in
    let further : 24 + 4 * (a + 1) ≡ 24 + 4 * a + 4 = omega arith in
    let next : drop (24 + 4 * (a + 1)) bytes ≡ rest =
    ap (λ (n : ℕ). drop n bytes) further ∙ sym (drop-drop 4 (24 + 4 * a) bytes) ∙ ap (drop 4) is in
    ap (λ (r : ℕ). r ∷ map (λ i. number_32 bytes (24 + 4 * i)) (numbers_from (a + 1) (length routers))) here
    ∙ ap (λ (rs : List ℕ). router ∷ rs) (routers_again bytes (a + 1) routers (All-tail (λ r. r < 2 ^ 32) router routers all) next)

-- Whole LSAs that were written.

pub links_length : (links : List LsaLink) → length (flat_map link_bytes links) ≡ 12 * length links
links_length [] = refl
links_length (link ∷ links) = omega (arith, links_length links)

body_length : (mask : ℕ) (body : Body) → CanBeWritten body → 20 + length (body_bytes mask body) < 2 ^ 16
body_length mask (Links links) can = omega (arith, links_length links, can.1)
body_length mask (Attached routers) can = omega (arith, routers_length routers, can.2)

whole_again : (m : Masked) → IsWritable m → length_of (lsa_bytes m) ≡ length (lsa_bytes m)
whole_again m is =
    let body = body_bytes m.mask m.lsa.body in
    header_length (type_of_body m.lsa.body) m.lsa.id m.lsa.router (20 + length body) body (body_length m.mask m.lsa.body is.body) ∙ omega arith

count_again : (type id router size n : ℕ) (rest : List ℕ) → n < 2 ^ 16 → number_16 (header type id router size ++ (0 ∷ 0 ∷ to_be_bytes w16 n ++ rest)) 22 ≡ n
unfolding number_16
count_again type id router size n rest fits = omega (arith, from_be_bytes-to_be_bytes_2 n fits)

body_again : (mask id router size : ℕ) (body : Body) → CanBeWritten body →
    body_of (header (type_of_body body) id router size ++ body_bytes mask body) ≡ Some body
body_again mask id router size (Links links) can =
    let bytes = header 1 id router size ++ body_bytes mask (Links links) in
    let long : nat_lt (length bytes) 24 ≡ false = le-ltb (length bytes) 24 (omega arith) in
    let count : number_16 bytes 22 ≡ length links = count_again 1 id router size (length links) (flat_map link_bytes links) (omega (arith, can.1)) in
    ap (λ (b : Bool). option_map Links (cond b None (links_of (number_16 bytes 22) (drop 24 bytes)))) long
    ∙ ap (λ (n : ℕ). option_map Links (links_of n (flat_map link_bytes links))) count
    ∙ ap (option_map Links) (links_again links can.0)
body_again mask id router size (Attached routers) can =
    let bytes = header 2 id router size ++ body_bytes mask (Attached routers) in
    let size_is : length bytes - 24 ≡ 4 * length routers = omega (arith, routers_length routers) in
    let at : ℕ → ℕ = λ i. number_32 bytes (24 + 4 * i) in
    let long : nat_lt (4 * length routers) 4 ≡ false = le-ltb (4 * length routers) 4 (omega (arith, can.1)) in
    let even : (4 * length routers) % 4 ≡ 0 = omega arith in
    let none : (nat_lt (4 * length routers) 4 || not (nat_eq ((4 * length routers) % 4) 0)) ≡ false =
    or_from _ _ long (ap not (eq-eqb ((4 * length routers) % 4) 0 even)) in
    let count : (4 * length routers) / 4 ≡ length routers = omega arith in
    ap (λ (n : ℕ). option_map Attached (cond (nat_lt n 4 || not (nat_eq (n % 4) 0)) None (Some (map at (numbers_from 0 (n / 4)))))) size_is
    ∙ ap (λ (b : Bool). option_map Attached (cond b None (Some (map at (numbers_from 0 ((4 * length routers) / 4)))))) none
    ∙ ap (λ (n : ℕ). Some (Attached (map at (numbers_from 0 n)))) count
    ∙ ap (λ (rs : List ℕ). Some (Attached rs)) (routers_again bytes 0 routers can.0 refl)

-- the instance that stands where an LSA was written
abbrev written_at : ℕ → Masked → Instance
written_at place m = record { stamp = stamp_of place (lsa_bytes m); lsa = m.lsa }

said_again : (place : ℕ) (m : Masked) → IsWritable m → said_at place (lsa_bytes m) ≡ written_at place m ∷ []
said_again place m is =
    let bytes = lsa_bytes m in
    let body = body_bytes m.mask m.lsa.body in
    let type = type_of_body m.lsa.body in
    let size = 20 + length body in
    let id : number_32 bytes 4 ≡ m.lsa.id = header_id type m.lsa.id m.lsa.router size body is.id in
    let router : number_32 bytes 8 ≡ m.lsa.router = header_router type m.lsa.id m.lsa.router size body is.router in
    ap (λ (found : Option Body). with_body place bytes found) (body_again m.mask m.lsa.id m.lsa.router size m.lsa.body is.body)
    ∙ (λ i. record { stamp = stamp_of place bytes; lsa = record { id = id i; router = router i; body = m.lsa.body } } ∷ [])

young_again : (place : ℕ) (m : Masked) → is_max_age (written_at place m).stamp ≡ false
young_again place m =
    let body = body_bytes m.mask m.lsa.body in
    ap (λ (age : ℕ). nat_le 3600 age) (header_age (type_of_body m.lsa.body) m.lsa.id m.lsa.router (20 + length body) body)

no_body_fault : (m : Masked) → IsWritable m → body_fault (lsa_bytes m) ≡ None
no_body_fault m is =
    let body = body_bytes m.mask m.lsa.body in
    ap (λ (found : Option Body). cond (is_read (type_of (lsa_bytes m)) && not (is_some found)) (Some BadBody) None)
    (body_again m.mask m.lsa.id m.lsa.router (20 + length body) m.lsa.body is.body)
    ∙ by_type (is_read (type_of (lsa_bytes m)))
  where
    by_type : (b : Bool) → cond (b && false) (Some BadBody) None ≡ None
    by_type true = refl
    by_type false = refl

-- Files of LSAs that were written.

abbrev all_written : ℕ → List Masked → List Instance
all_written place [] = []
all_written place (m ∷ ms) = written_at place m ∷ all_written (place + length (lsa_bytes m)) ms

all_said_again : (place : ℕ) (ms : List Masked) → All IsWritable ms → instances_in place (map lsa_bytes ms) ≡ all_written place ms
all_said_again place [] all = refl
all_said_again place (m ∷ ms) all =
    ap (λ (said : List Instance). said ++ instances_in (place + length (lsa_bytes m)) (map lsa_bytes ms)) (said_again place m (All-head IsWritable m ms all))
    ∙ ap (λ (said : List Instance). written_at place m ∷ said) (all_said_again (place + length (lsa_bytes m)) ms (All-tail IsWritable m ms all))

written_lsas : (place : ℕ) (ms : List Masked) → lsas_of (all_written place ms) ≡ map (λ m. m.lsa) ms
written_lsas place [] = refl
written_lsas place (m ∷ ms) = ap (λ (lsas : List Lsa). m.lsa ∷ lsas) (written_lsas (place + length (lsa_bytes m)) ms)

all_young : (place : ℕ) (ms : List Masked) → AllByRecursion (λ i. is_max_age i.stamp ≡ false) (all_written place ms)
all_young place [] = tt
all_young place (m ∷ ms) = (young_again place m, all_young (place + length (lsa_bytes m)) ms)

lsas_again : (ms : List Masked) → All IsWritable ms → AllByRecursion IsLsa (map lsa_bytes ms)
lsas_again [] all = tt
lsas_again (m ∷ ms) all =
    let is = All-head IsWritable m ms all in
    let whole : IsWhole (lsa_bytes m) = record { header = omega arith; long = whole_again m is } in
    ((whole.long, own_fault (lsa_bytes m) whole ∙ no_body_fault m is), lsas_again ms (All-tail IsWritable m ms all))

in_pieces : (ms : List Masked) → bytes_of_all ms ≡ concat (map lsa_bytes ms)
in_pieces [] = refl
in_pieces (m ∷ ms) = ap (λ (rest : List ℕ). lsa_bytes m ++ rest) (in_pieces ms)

-- the bytes of LSAs without a fault say these LSAs
pub written_says : (ms : List Masked) → All IsWritable ms → HaveNoFault (map (λ m. m.lsa) ms) → Say (bytes_of_all ms) (map (λ m. m.lsa) ms)
written_says ms all none =
    let written = all_written 0 ms in
    let count = all_count written (all_young 0 ms) (subst HaveNoFault (sym (written_lsas 0 ms)) none) in
    record {
      pieces = map lsa_bytes ms;
      rest = [];
      cut = record { whole = in_pieces ms ∙ sym (append-nil (concat (map lsa_bytes ms))); lsas = lsas_again ms all; over = tt };
      is = sym (ap (λ (instances : List Instance). decided instances None) (all_said_again 0 ms all)
          ∙ ap (λ (found : Option (LsaFault × ℕ)). fault_or (option_or found None) (lsas_of (those_that_count written))) count.0
          ∙ ap (λ (instances : List Instance). Ok (lsas_of instances)) count.1
          ∙ ap Ok (written_lsas 0 ms));
    }
