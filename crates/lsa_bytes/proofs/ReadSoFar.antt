-- A file of LSAs that is read as far as some bytes that are left.
use Rattle.std.proofs.Common.{◌≡◌, ℕ, ◌+◌, ◌-◌, ◌*◌, ◌<◌, ◌≤◌, List, [], ◌∷◌, ◌++◌, All, length, take, drop, Option, None, Some, is_some, true, refl, sym, ap, subst, ◌∙◌, append_assoc, zero-add, arith}
use Rattle.std.specs.Prelude.{sum_by}
use Rattle.std.specs.List.{concat, AllByRecursion}
use Rattle.std.specs.Option.{option_or}
use Rattle.std.proofs.lemmas.List.{append-nil, length-append, take-append-drop, length-take, map-append}
use Rattle.std.proofs.lemmas.List.Elements.{All-append}
use Rattle.std.proofs.lemmas.List.Folds.{concat-append}
use Rattle.std.proofs.lemmas.List.Sums.{sum_by-append}
use Rattle.cost_base.specs.declared.refusal.Refusal.{Refusal}
use Rattle.cost_base.specs.declared.refusal.Refusal.TheVariants.{Refused, OutOfMemory}
use Rattle.lsa_bytes.specs.declared.fault.LsaFault.{LsaFault}
use Rattle.lsa_bytes.specs.declared.instances.Instance.{Instance}
use Rattle.lsa_bytes.specs.Grammar.{length_of, said_at}
use Rattle.lsa_bytes.specs.Databases.{has_link_types, size_of_lsa}
use Rattle.lsa_bytes.specs.Instances.{lsas_of}
use Rattle.lsa_bytes.specs.Faults.{TellsLsaFault, length_fault, body_fault, form_fault, placed}
use Rattle.lsa_bytes.specs.Files.{IsLsa, instances_in}
use Rattle.lsa_bytes.specs.Reading.{AreReadFrom, AreSmall, EndAt}
use Rattle.lsa_bytes.proofs.BodyLaws.{said_fits}
use Rattle.lsa_bytes.proofs.Lengths.{BeginsWhole, length_of-append, IsWhole, fault_in_front, own_fault}

-- LSAs as the grammar says stand before the bytes that are left, and say these instances
pub record IsUnderway (bytes rest : List ℕ) (instances : List Instance) : Type 0 where
  pub pieces : List (List ℕ)
  pub whole : bytes ≡ concat pieces ++ rest
  pub lsas : AllByRecursion IsLsa pieces
  pub said : instances ≡ instances_in 0 pieces
  pub types : All (λ lsa. has_link_types lsa.body ≡ true) (lsas_of instances)
  pub sizes : 4 * sum_by size_of_lsa (lsas_of instances) + length rest ≤ length bytes

pub begin : (bytes : List ℕ) (instances : List Instance) → instances ≡ [] → IsUnderway bytes bytes instances
begin bytes [] none = record { pieces = []; whole = refl; lsas = tt; said = refl; types = λ i d within. absurd (omega (arith, within)); sizes = omega arith }
begin bytes (instance ∷ more) none = absurd (cc)

-- the first LSA of the bytes that are left, and the bytes behind it
pub record IsFirst (rest lsa behind : List ℕ) : Type 0 where
  pub lsa_is : lsa ≡ take (length_of rest) rest
  pub behind_is : behind ≡ drop (length_of rest) rest
  pub begins : BeginsWhole rest

pub first_parts : (rest lsa behind : List ℕ) → IsFirst rest lsa behind → rest ≡ lsa ++ behind
first_parts rest lsa behind is =
    sym (ap (λ (front : List ℕ). front ++ behind) is.lsa_is
    ∙ ap (λ (back : List ℕ). take (length_of rest) rest ++ back) is.behind_is
    ∙ take-append-drop (length_of rest) rest)

pub first_length : (rest lsa behind : List ℕ) → IsFirst rest lsa behind → length lsa ≡ length_of rest
first_length rest lsa behind is = ap length is.lsa_is ∙ omega (arith, length-take (length_of rest) rest, is.begins.whole)

pub first_whole : (rest lsa behind : List ℕ) → IsFirst rest lsa behind → IsWhole lsa
first_whole rest lsa behind is =
    let long = first_length rest lsa behind is in
    let header : 20 ≤ length lsa = omega (arith, long, is.begins.header) in
    record {
      header = header;
      long = sym (length_of-append lsa behind header) ∙ ap length_of (sym (first_parts rest lsa behind is)) ∙ sym long;
    }

-- the fault of that LSA is the fault of the bytes that are left
pub first_fault_is : (rest lsa behind : List ℕ) → IsFirst rest lsa behind → form_fault rest ≡ body_fault lsa
first_fault_is rest lsa behind is = ap form_fault (first_parts rest lsa behind is) ∙ fault_in_front lsa behind (first_whole rest lsa behind is)

pieces_push : (pieces : List (List ℕ)) (lsa : List ℕ) → AllByRecursion IsLsa pieces → IsLsa lsa → AllByRecursion IsLsa (pieces ++ lsa ∷ [])
pieces_push [] lsa are is = (is, tt)
pieces_push (piece ∷ pieces) lsa are is = (are.0, pieces_push pieces lsa are.1 is)

instances_push : (place : ℕ) (pieces : List (List ℕ)) (lsa : List ℕ) →
    instances_in place (pieces ++ lsa ∷ []) ≡ instances_in place pieces ++ said_at (place + length (concat pieces)) lsa
instances_push place [] lsa = append-nil (said_at place lsa) ∙ ap (λ (n : ℕ). said_at n lsa) (omega arith)
instances_push place (piece ∷ pieces) lsa =
    ap (λ (more : List Instance). said_at place piece ++ more) (instances_push (place + length piece) pieces lsa)
    ∙ sym (append_assoc (said_at place piece) (instances_in (place + length piece) pieces) (said_at (place + length piece + length (concat pieces)) lsa))
    ∙ ap (λ (n : ℕ). (said_at place piece ++ instances_in (place + length piece) pieces) ++ said_at n lsa)
    (omega (arith, length-append piece (concat pieces)))

-- where the bytes that are left begin
pub place_of : (bytes rest : List ℕ) (instances : List Instance) (is : IsUnderway bytes rest instances) →
    length bytes - length rest ≡ length (concat is.pieces)
place_of bytes rest instances is = omega (arith, ap length is.whole, length-append (concat is.pieces) rest)

-- one LSA more
pub next : (bytes rest lsa behind : List ℕ) (instances more : List Instance) (place : ℕ) → IsUnderway bytes rest instances → IsFirst rest lsa behind →
    place ≡ length bytes - length rest → body_fault lsa ≡ None → more ≡ instances ++ said_at place lsa → IsUnderway bytes behind more
next bytes rest lsa behind instances more place so_far is place_is none more_is =
    let whole = first_whole rest lsa behind is in
    let fits = said_fits place lsa in
    let lsas : lsas_of more ≡ lsas_of instances ++ lsas_of (said_at place lsa) =
    ap lsas_of more_is ∙ map-append (λ (i : Instance). i.lsa) instances (said_at place lsa) in
    record {
      pieces = so_far.pieces ++ lsa ∷ [];
      whole = so_far.whole ∙ ap (λ (back : List ℕ). concat so_far.pieces ++ back) (first_parts rest lsa behind is)
          ∙ sym (ap (λ (front : List ℕ). front ++ behind) (concat-append so_far.pieces (lsa ∷ [])
          ∙ ap (λ (back : List ℕ). concat so_far.pieces ++ back) (append-nil lsa))
          ∙ append_assoc (concat so_far.pieces) lsa behind);
      lsas = pieces_push so_far.pieces lsa so_far.lsas (whole.long, own_fault lsa whole ∙ none);
      said = more_is
          ∙ ap (λ (n : ℕ). instances ++ said_at n lsa) (place_is ∙ place_of bytes rest instances so_far)
          ∙ ap (λ (before : List Instance). before ++ said_at (length (concat so_far.pieces)) lsa) so_far.said
          ∙ ap (λ (n : ℕ). instances_in 0 so_far.pieces ++ said_at n lsa) (sym (zero-add (length (concat so_far.pieces))))
          ∙ sym (instances_push 0 so_far.pieces lsa);
      types = subst (All (λ l. has_link_types l.body ≡ true)) (sym lsas)
          (All-append (λ l. has_link_types l.body ≡ true) (lsas_of instances) (lsas_of (said_at place lsa)) so_far.types fits.types);
      sizes = omega (
        arith,
        so_far.sizes,
        ap (sum_by size_of_lsa) lsas,
        sum_by-append size_of_lsa (lsas_of instances) (lsas_of (said_at place lsa)),
        fits.sizes,
        ap length (first_parts rest lsa behind is),
        length-append lsa behind,
      );
    }

small : (bytes rest : List ℕ) (instances : List Instance) → IsUnderway bytes rest instances → AreSmall instances (length bytes)
small bytes rest instances so_far = record { types = so_far.types; sizes = omega (arith, so_far.sizes) }

-- no bytes are left
pub all_read : (bytes rest : List ℕ) (instances : List Instance) → IsUnderway bytes rest instances → length rest ≡ 0 → AreReadFrom bytes instances None
all_read bytes [] instances so_far none = record {
  pieces = so_far.pieces;
  rest = [];
  cut = record { whole = so_far.whole; lsas = so_far.lsas; over = tt };
  said = so_far.said;
  behind_is = refl;
  small = small bytes [] instances so_far;
}
all_read bytes (byte ∷ rest) instances so_far none = absurd (omega (arith, none))

-- the next LSA is off the grammar
pub broken_off : (bytes rest : List ℕ) (instances : List Instance) (place : ℕ) (fault : LsaFault) → IsUnderway bytes rest instances →
    0 < length rest → place ≡ length bytes - length rest → form_fault rest ≡ Some fault → AreReadFrom bytes instances (Some (fault, place))
broken_off bytes [] instances place fault so_far some place_is found = absurd (omega (arith, some))
broken_off bytes (byte ∷ more) instances place fault so_far some place_is found = record {
  pieces = so_far.pieces;
  rest = byte ∷ more;
  cut = record { whole = so_far.whole; lsas = so_far.lsas; over = ap is_some found };
  said = so_far.said;
  behind_is = ap (λ (n : ℕ). Some (fault, n)) (place_is ∙ place_of bytes (byte ∷ more) instances so_far)
      ∙ sym (ap (placed (length (concat so_far.pieces))) found);
  small = small bytes (byte ∷ more) instances so_far;
}

refused : (bytes rest : List ℕ) (instances : List Instance) (place : ℕ) (stop : Refusal LsaFault ℕ) → IsUnderway bytes rest instances →
    0 < length rest → place ≡ length bytes - length rest → TellsLsaFault (placed place (form_fault rest)) stop → EndAt bytes instances stop
refused bytes rest instances place (Refused fault offset) so_far some place_is told =
    by_found (form_fault rest) refl told
  where
    by_found : (found : Option LsaFault) → form_fault rest ≡ found → placed place found ≡ Some (fault, offset) →
        AreReadFrom bytes instances (Some (fault, offset))
    by_found None is none = absurd (cc)
    by_found (Some other) is same =
        subst (λ (pair : Option (LsaFault × ℕ)). AreReadFrom bytes instances pair) same
        (broken_off bytes rest instances place other so_far some place_is is)
refused bytes rest instances place OutOfMemory so_far some place_is told = tt

length_told : (rest : List ℕ) (place : ℕ) (stop : Refusal LsaFault ℕ) →
    TellsLsaFault (placed place (length_fault rest)) stop → TellsLsaFault (placed place (form_fault rest)) stop
length_told rest place (Refused fault offset) told = by_found (length_fault rest) told
  where
    by_found : (found : Option LsaFault) → placed place found ≡ Some (fault, offset) →
        placed place (option_or found (body_fault (take (length_of rest) rest))) ≡ Some (fault, offset)
    by_found None none = absurd (cc)
    by_found (Some other) same = same
length_told rest place OutOfMemory told = tt

pub length_refused : (bytes rest : List ℕ) (instances : List Instance) (place : ℕ) (stop : Refusal LsaFault ℕ) → IsUnderway bytes rest instances →
    0 < length rest → place ≡ length bytes - length rest → TellsLsaFault (placed place (length_fault rest)) stop → EndAt bytes instances stop
length_refused bytes rest instances place stop so_far some place_is told =
    refused bytes rest instances place stop so_far some place_is (length_told rest place stop told)

pub body_refused : (bytes rest lsa behind : List ℕ) (instances : List Instance) (place : ℕ) (stop : Refusal LsaFault ℕ) →
    IsUnderway bytes rest instances → place ≡ length bytes - length rest → IsFirst rest lsa behind →
    TellsLsaFault (placed place (body_fault lsa)) stop → EndAt bytes instances stop
body_refused bytes rest lsa behind instances place stop so_far place_is is told =
    refused bytes rest instances place stop so_far (omega (arith, is.begins.header, is.begins.whole)) place_is
    (subst (λ (found : Option LsaFault). TellsLsaFault (placed place found) stop) (sym (first_fault_is rest lsa behind is)) told)
