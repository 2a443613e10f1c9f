-- Bodies of LSAs: links read one after the other, and what each body keeps.
use Rattle.std.proofs.Common.{◌≡◌, ℕ, zero, suc, ◌+◌, ◌-◌, ◌*◌, ◌/◌, ◌%◌, ◌<◌, ◌≤◌, ◌||◌, not, Bool, true, false, cond, nat_lt, nat_eq, List, [], ◌∷◌, ◌++◌, length, drop, map, get_or, Option, None, Some, refl, sym, ap, ◌∙◌, append_assoc, arith}
use Rattle.std.specs.Prelude.{MatchOption, nat_le}
use Rattle.std.specs.Option.{option_map}
use Rattle.std.specs.List.{list_all}
use Rattle.std.specs.Cmp.Derive.{both_true}
use Rattle.std.proofs.lemmas.Bool.{and_parts, or_parts, leb-true, ltb-false, eqb-true, false≢true}
use Rattle.std.proofs.lemmas.List.{append-nil, length-drop}
use Rattle.std.proofs.lemmas.List.Elements.{All-nil, All-cons}
use Rattle.cost_base.specs.Lists.{numbers_from}
use Rattle.cost_base.proofs.ListLemmas.{length-map-numbers_from}
use Rattle.lsa_bytes.specs.declared.LsaLink.{LsaLink}
use Rattle.lsa_bytes.specs.declared.Body.{Body}
use Rattle.lsa_bytes.specs.declared.Body.TheVariants.{Links, Attached}
use Rattle.lsa_bytes.specs.declared.Lsa.{Lsa}
use Rattle.lsa_bytes.specs.Fields.{number_16, number_32}
use Rattle.lsa_bytes.specs.Grammar.{type_of, link_at, link_length, is_link_type, starts_link, links_of, links_of_router_lsa, attached_in, body_of, with_body, said_at}
use Rattle.lsa_bytes.specs.Databases.{has_link_types, size_of_body}
use Rattle.lsa_bytes.specs.Reading.{AreSmall}

-- Links: some that were read, and those that are still to be read.

abbrev pub with_front : List LsaLink → Option (List LsaLink) → Option (List LsaLink)
with_front front found = option_map (λ more. front ++ more) found

regroup : (front : List LsaLink) (link : LsaLink) (found : Option (List LsaLink)) →
    with_front front (option_map (λ links. link ∷ links) found) ≡ with_front (front ++ link ∷ []) found
regroup front link None = refl
regroup front link (Some more) = ap Some (sym (append_assoc front (link ∷ []) more))

links_step : (b : Bool) (n : ℕ) (bytes : List ℕ) → starts_link bytes ≡ b →
    links_of (suc n) bytes ≡ cond b
    (option_map (λ links. link_at bytes ∷ links) (links_of n (drop (link_length bytes) bytes))) None
links_step b n bytes is = ap (λ (starts : Bool).
    cond starts (option_map (λ links. link_at bytes ∷ links) (links_of n (drop (link_length bytes) bytes))) None) is

pub goes_on : (front : List LsaLink) (count i : ℕ) (bytes : List ℕ) (total : Option (List LsaLink)) → i < count → starts_link bytes ≡ true
    → with_front front (links_of (count - i) bytes) ≡ total →
    with_front (front ++ link_at bytes ∷ []) (links_of (count - (i + 1)) (drop (link_length bytes) bytes)) ≡ total
goes_on front count i bytes total more starts so_far =
    let next : count - i ≡ suc (count - (i + 1)) = omega arith in
    sym (regroup front (link_at bytes) (links_of (count - (i + 1)) (drop (link_length bytes) bytes)))
    ∙ ap (with_front front) (sym (links_step true (count - (i + 1)) bytes starts))
    ∙ ap (λ (n : ℕ). with_front front (links_of n bytes)) (sym next)
    ∙ so_far

pub breaks_off : (front : List LsaLink) (count i : ℕ) (bytes : List ℕ) (total : Option (List LsaLink)) → i < count → starts_link bytes ≡ false
    → with_front front (links_of (count - i) bytes) ≡ total → None ≡ total
breaks_off front count i bytes total more starts so_far =
    let next : count - i ≡ suc (count - (i + 1)) = omega arith in
    ap (with_front front) (sym (links_step false (count - (i + 1)) bytes starts))
    ∙ ap (λ (n : ℕ). with_front front (links_of n bytes)) (sym next)
    ∙ so_far

-- no bytes are left, or some are
pub all_read : (front : List LsaLink) (count i : ℕ) (bytes : List ℕ) (total : Option (List LsaLink)) → count ≤ i → nat_eq (length bytes) 0 ≡ true
    → with_front front (links_of (count - i) bytes) ≡ total → Some front ≡ total
all_read front count i [] total done none so_far =
    let zero_left : count - i ≡ 0 = omega arith in
    ap Some (sym (append-nil front)) ∙ ap (λ (n : ℕ). with_front front (links_of n [])) (sym zero_left) ∙ so_far
all_read front count i (byte ∷ bytes) total done none so_far = absurd (omega (arith, eqb-true (length (byte ∷ bytes)) 0 none))

pub some_left : (front : List LsaLink) (count i : ℕ) (bytes : List ℕ) (total : Option (List LsaLink)) → count ≤ i → nat_eq (length bytes) 0 ≡ false
    → with_front front (links_of (count - i) bytes) ≡ total → None ≡ total
some_left front count i [] total done some so_far = absurd (false≢true (sym some))
some_left front count i (byte ∷ bytes) total done some so_far =
    let zero_left : count - i ≡ 0 = omega arith in
    ap (λ (n : ℕ). with_front front (links_of n (byte ∷ bytes))) (sym zero_left) ∙ so_far

-- What bodies keep.

-- the links that were found in bytes
record AreFrom (bytes : List ℕ) (links : List LsaLink) : Type 0 where
  types : list_all (λ link. is_link_type link.kind) links ≡ true
  size : 12 * length links ≤ length bytes

links_from : (n : ℕ) (bytes : List ℕ) → MatchOption (links_of n bytes) (Unit {0}) (AreFrom bytes)
links_from zero [] = record { types = refl; size = omega arith }
links_from zero (byte ∷ bytes) = tt
links_from (suc n) bytes = by_test (starts_link bytes) refl (links_of n (drop (link_length bytes) bytes)) (links_from n (drop (link_length bytes) bytes))
  where
    by_test : (b : Bool) → starts_link bytes ≡ b → (found : Option (List LsaLink)) → MatchOption found (Unit {0}) (AreFrom (drop (link_length bytes) bytes))
        → MatchOption (cond b (option_map (λ links. link_at bytes ∷ links) found) None) (Unit {0}) (AreFrom bytes)
    by_test false is found from = tt
    by_test true is None from = tt
    by_test true is (Some links) from =
        let parts = and_parts (nat_le (link_length bytes) (length bytes)) (is_link_type (get_or bytes 8 0)) is in
        record {
          types = both_true parts.1 from.types;
          size = omega (arith, from.size, length-drop (link_length bytes) bytes, leb-true (link_length bytes) (length bytes) parts.0);
        }

-- a body that was found in the bytes of an LSA
record FitsIn (lsa : List ℕ) (body : Body) : Type 0 where
  types : has_link_types body ≡ true
  size : 4 * (1 + size_of_body body) ≤ length lsa

router_fits : (lsa : List ℕ) → MatchOption (option_map Links (links_of_router_lsa lsa)) (Unit {0}) (FitsIn lsa)
router_fits lsa = by_test (nat_lt (length lsa) 24) refl (links_of (number_16 lsa 22) (drop 24 lsa)) (links_from (number_16 lsa 22) (drop 24 lsa))
  where
    by_test : (b : Bool) → nat_lt (length lsa) 24 ≡ b → (found : Option (List LsaLink)) →
        MatchOption found (Unit {0}) (AreFrom (drop 24 lsa)) →
        MatchOption (option_map Links (cond b None found)) (Unit {0}) (FitsIn lsa)
    by_test true is found from = tt
    by_test false is None from = tt
    by_test false is (Some links) from = record {
      types = from.types;
      size = omega (arith, from.size, length-drop 24 lsa, ltb-false (length lsa) 24 is);
    }

network_fits : (lsa : List ℕ) → MatchOption (option_map Attached (attached_in lsa)) (Unit {0}) (FitsIn lsa)
network_fits lsa = by_test (nat_lt (length lsa - 24) 4 || not (nat_eq ((length lsa - 24) % 4) 0)) refl
  where
    by_test : (b : Bool) → (nat_lt (length lsa - 24) 4 || not (nat_eq ((length lsa - 24) % 4) 0)) ≡ b
        →
        MatchOption (option_map Attached
        (cond b None (Some (map (λ i. number_32 lsa (24 + 4 * i)) (numbers_from 0 ((length lsa - 24) / 4))))))
        (Unit {0}) (FitsIn lsa)
    by_test true is = tt
    by_test false is =
        let long = ltb-false (length lsa - 24) 4 (or_parts (nat_lt (length lsa - 24) 4) (not (nat_eq ((length lsa - 24) % 4) 0)) is).0 in
        record {
          types = refl;
          size = omega (arith, long, length-map-numbers_from (λ i. number_32 lsa (24 + 4 * i)) 0 ((length lsa - 24) / 4));
        }

body_fits : (lsa : List ℕ) → MatchOption (body_of lsa) (Unit {0}) (FitsIn lsa)
body_fits lsa = by_tests (nat_eq (type_of lsa) 1) (nat_eq (type_of lsa) 2)
  where
    by_tests : (a b : Bool) → MatchOption
        (cond a (option_map Links (links_of_router_lsa lsa)) (cond b (option_map Attached (attached_in lsa)) None)) (Unit {0})
        (FitsIn lsa)
    by_tests true b = router_fits lsa
    by_tests false true = network_fits lsa
    by_tests false false = tt

-- the instances that the bytes of an LSA say fit in them
pub said_fits : (place : ℕ) (bytes : List ℕ) → AreSmall (said_at place bytes) (length bytes)
said_fits place bytes = by_body (body_of bytes) (body_fits bytes)
  where
    by_body : (found : Option Body) → MatchOption found (Unit {0}) (FitsIn bytes) → AreSmall (with_body place bytes found) (length bytes)
    by_body None fits = record { types = All-nil (λ lsa. has_link_types lsa.body ≡ true); sizes = omega arith }
    by_body (Some body) fits =
        let lsa : Lsa = record { id = number_32 bytes 4; router = number_32 bytes 8; body = body } in
        record {
          types = All-cons (λ l. has_link_types l.body ≡ true) lsa [] fits.types (All-nil (λ l. has_link_types l.body ≡ true));
          sizes = omega (arith, fits.size);
        }
