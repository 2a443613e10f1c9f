-- Whole LSAs at the front of bytes.
use Rattle.std.proofs.Common.{◌≡◌, ℕ, ◌+◌, ◌*◌, ◌≤◌, ◌||◌, Bool, false, cond, nat_lt, List, [], ◌++◌, length, take, get_or, Option, None, Some, sym, ap, ◌∙◌, arith}
use Rattle.std.specs.Option.{option_or}
use Rattle.std.proofs.lemmas.Bool.{or_parts, or_from, ltb-false, le-ltb}
use Rattle.std.proofs.lemmas.List.{append-nil, get_or_append_left, append_cancel_left, length-append}
use Rattle.std.proofs.Math.Seq.{take-append_seam}
use Rattle.cost_base.proofs.ListLemmas.{option_or-parts, cond-none}
use Rattle.lsa_bytes.specs.declared.fault.LsaFault.{LsaFault}
use Rattle.lsa_bytes.specs.declared.fault.LsaFault.TheVariants.{ShortLsa, BadLength}
use Rattle.lsa_bytes.specs.Fields.{number_16}
use Rattle.lsa_bytes.specs.Grammar.{length_of}
use Rattle.lsa_bytes.specs.Faults.{length_fault, body_fault, form_fault}
use Rattle.lsa_bytes.specs.Files.{IsLsa}

-- an LSA that begins the bytes, whole
pub record BeginsWhole (rest : List ℕ) : Type 0 where
  pub header : 20 ≤ length_of rest
  pub whole : length_of rest ≤ length rest

pub begins_whole : (rest : List ℕ) → length_fault rest ≡ None → BeginsWhole rest
begins_whole rest none =
    let short = cond-none (nat_lt (length rest) 20 || nat_lt (length rest) (length_of rest)) ShortLsa
    (cond (nat_lt (length_of rest) 20) (Some BadLength) None) none in
    let bad = cond-none (nat_lt (length_of rest) 20) BadLength None short.1 in
    record {
      header = ltb-false (length_of rest) 20 bad.0;
      whole = ltb-false (length rest) (length_of rest) (or_parts (nat_lt (length rest) 20) (nat_lt (length rest) (length_of rest)) short.0).1;
    }

pub no_length_fault : (rest : List ℕ) → BeginsWhole rest → length_fault rest ≡ None
no_length_fault rest begins =
    let long : nat_lt (length rest) 20 ≡ false = le-ltb (length rest) 20 (omega (arith, begins.header, begins.whole)) in
    let short : (nat_lt (length rest) 20 || nat_lt (length rest) (length_of rest)) ≡ false =
    or_from _ _ long (le-ltb (length rest) (length_of rest) begins.whole) in
    ap (λ (b : Bool). cond b (Some ShortLsa) (cond (nat_lt (length_of rest) 20) (Some BadLength) None)) short
    ∙ ap (λ (b : Bool). cond b (Some BadLength) None) (le-ltb (length_of rest) 20 begins.header)

-- the length stands in the header
pub length_of-append : (xs ys : List ℕ) → 20 ≤ length xs → length_of (xs ++ ys) ≡ length_of xs
unfolding number_16
length_of-append xs ys long =
    let high : get_or (xs ++ ys) 18 0 ≡ get_or xs 18 0 = get_or_append_left xs ys 0 18 (omega arith) in
    let low : get_or (xs ++ ys) 19 0 ≡ get_or xs 19 0 = get_or_append_left xs ys 0 19 (omega arith) in
    ap (λ (x : ℕ). 256 * x + get_or (xs ++ ys) 19 0) high ∙ ap (λ (y : ℕ). 256 * get_or xs 18 0 + y) low

-- the bytes of one LSA, as long as it says
pub record IsWhole (lsa : List ℕ) : Type 0 where
  pub header : 20 ≤ length lsa
  pub long : length_of lsa ≡ length lsa

pub is_whole : (lsa : List ℕ) → IsLsa lsa → IsWhole lsa
is_whole lsa is =
    let begins = begins_whole lsa (option_or-parts (length_fault lsa) (body_fault (take (length_of lsa) lsa)) is.1).0 in
    record { header = omega (arith, begins.header, begins.whole, is.0); long = is.0 }

pub length_in_front : (lsa more : List ℕ) → IsWhole lsa → length_of (lsa ++ more) ≡ length lsa
length_in_front lsa more is = length_of-append lsa more is.header ∙ is.long

pub front_whole : (lsa more : List ℕ) → IsWhole lsa → BeginsWhole (lsa ++ more)
front_whole lsa more is = record {
  header = omega (arith, is.header, length_in_front lsa more is);
  whole = omega (arith, length_in_front lsa more is, length-append lsa more);
}

pub front_taken : (lsa more : List ℕ) → IsWhole lsa → take (length_of (lsa ++ more)) (lsa ++ more) ≡ lsa
front_taken lsa more is = ap (λ (n : ℕ). take n (lsa ++ more)) (length_in_front lsa more is) ∙ take-append_seam lsa more

-- two whole LSAs that begin the same bytes are one
pub same_front : (x y xs ys : List ℕ) → IsWhole x → IsWhole y → x ++ xs ≡ y ++ ys → (x ≡ y) × (xs ≡ ys)
same_front x y xs ys first second same =
    let one : x ≡ y = sym (front_taken x xs first) ∙ ap (λ (bytes : List ℕ). take (length_of bytes) bytes) same ∙ front_taken y ys second in
    (one, append_cancel_left y xs ys (ap (λ (z : List ℕ). z ++ xs) (sym one) ∙ same))

-- what stands behind a whole LSA adds no fault to it
pub fault_in_front : (lsa more : List ℕ) → IsWhole lsa → form_fault (lsa ++ more) ≡ body_fault lsa
fault_in_front lsa more is =
    ap (λ (fault : Option LsaFault). option_or fault (body_fault (take (length_of (lsa ++ more)) (lsa ++ more))))
    (no_length_fault (lsa ++ more) (front_whole lsa more is))
    ∙ ap body_fault (front_taken lsa more is)

pub own_fault : (lsa : List ℕ) → IsWhole lsa → form_fault lsa ≡ body_fault lsa
own_fault lsa is = ap form_fault (sym (append-nil lsa)) ∙ fault_in_front lsa [] is
