-- Read LSA by LSA, bytes come to what they come to.
use Rattle.std.proofs.Common.{◌≡◌, ℕ, zero, suc, ◌+◌, ◌<◌, ◌≤◌, refl, sym, ◌∙◌, ap, subst, List, [], ◌∷◌, ◌++◌, length, take, drop, arith, Option, None, Some, Result, Ok, Err}
use Rattle.std.specs.Prelude.{MatchResult}
use Rattle.std.proofs.lemmas.List.{length-drop}
use Rattle.cost_base.specs.declared.refusal.Refusal.{Refusal}
use Rattle.cost_base.specs.declared.refusal.Refusal.TheVariants.{Refused, OutOfMemory}
use Rattle.cost_base.proofs.ListLemmas.{option_or-parts}
use Rattle.lsa_bytes.specs.declared.fault.LsaFault.{LsaFault}
use Rattle.lsa_bytes.specs.declared.Lsa.{Lsa}
use Rattle.lsa_bytes.specs.declared.instances.Instance.{Instance}
use Rattle.lsa_bytes.specs.Grammar.{length_of, said_at}
use Rattle.lsa_bytes.specs.Faults.{length_fault, body_fault, form_fault}
use Rattle.lsa_bytes.specs.Files.{ComesTo, Refuses, decided, instances_in}
use Rattle.lsa_bytes.specs.Reading.{AreReadFrom}
use Rattle.lsa_bytes.proofs.Lengths.{begins_whole}
use Rattle.lsa_bytes.proofs.ReadSoFar.{IsUnderway, IsFirst, begin, next, all_read, broken_off}
use Rattle.lsa_bytes.proofs.Pieces.{one_outcome}
use Rattle.input_files.proofs.Parsed.{TellsPlace}
use Rattle.live_input.specs.LsaFiles.{by_fault, lsas_behind, lsas_in}

-- what instances and a fault behind them come to, the bytes come to
comes_to : (bytes : List ℕ) (instances : List Instance) (behind : Option (LsaFault × ℕ)) → AreReadFrom bytes instances behind →
    ComesTo bytes (decided instances behind)
comes_to bytes instances behind read = record {
  pieces = read.pieces;
  rest = read.rest;
  cut = read.cut;
  is = ap (λ (all : List Instance). decided all behind) read.said ∙ ap (decided (instances_in 0 read.pieces)) read.behind_is;
}

-- the first LSA of the rest is off the grammar, or the bytes come to what they come to behind it
by_found : (bytes rest : List ℕ) (before : List Instance) (offset : ℕ) (later : Result (List Lsa) (LsaFault × ℕ))
    (found : Option LsaFault) → IsUnderway bytes rest before → 0 < length rest → offset + length rest ≡ length bytes →
    form_fault rest ≡ found → (form_fault rest ≡ None → ComesTo bytes later) → ComesTo bytes (by_fault before offset found later)
by_found bytes rest before offset later (Some fault) so_far some at is further =
    comes_to bytes before (Some (fault, offset)) (broken_off bytes rest before offset fault so_far some (omega (arith, at)) is)
by_found bytes rest before offset later None so_far some at is further = further is

come_to : (most : ℕ) (bytes rest : List ℕ) (before : List Instance) (offset : ℕ) → IsUnderway bytes rest before →
    length rest ≤ most → offset + length rest ≡ length bytes → ComesTo bytes (lsas_behind most before offset rest)
come_to zero bytes rest before offset so_far few at = comes_to bytes before None (all_read bytes rest before so_far (omega (arith, few)))
come_to (suc most) bytes [] before offset so_far few at = comes_to bytes before None (all_read bytes [] before so_far refl)
come_to (suc most) bytes (byte ∷ more) before offset so_far few at =
    let rest : List ℕ = byte ∷ more in
    by_found bytes rest before offset
    (lsas_behind most (before ++ said_at offset (take (length_of rest) rest)) (offset + length_of rest)
    (drop (length_of rest) rest)) (form_fault rest) so_far (omega arith) at refl
    (λ none.
    (let parts = option_or-parts (length_fault rest) (body_fault (take (length_of rest) rest)) none in
    let begins = begins_whole rest parts.0 in
    let first : IsFirst rest (take (length_of rest) rest) (drop (length_of rest) rest) = record { lsa_is = refl; behind_is = refl; begins = begins } in
    come_to most bytes (drop (length_of rest) rest) (before ++ said_at offset (take (length_of rest) rest)) (offset + length_of rest)
    (next bytes rest (take (length_of rest) rest) (drop (length_of rest) rest) before
    (before ++ said_at offset (take (length_of rest) rest)) offset so_far first (omega (arith, at)) parts.1 refl)
    (omega (arith, few, begins.header, begins.whole, length-drop (length_of rest) rest))
    (omega (arith, at, begins.whole, length-drop (length_of rest) rest))))

-- the bytes come to this, and to nothing else
pub comes : (bytes : List ℕ) → ComesTo bytes (lsas_in bytes)
comes bytes = come_to (length bytes) bytes bytes [] 0 (begin bytes [] refl) (omega arith) (omega arith)

pub lsas_are : (bytes : List ℕ) (r : Result (List Lsa) (LsaFault × ℕ)) → ComesTo bytes r → lsas_in bytes ≡ r
lsas_are bytes r is = one_outcome bytes (lsas_in bytes) r (comes bytes) is

-- what was read of a file's bytes, or refused
pub lsas_told : (bytes : List ℕ) (parsed : Result (List Lsa) (Refusal LsaFault ℕ)) →
    MatchResult parsed (λ lsas. ComesTo bytes (Ok lsas)) (Refuses bytes) →
    MatchResult parsed (λ lsas. lsas_in bytes ≡ Ok lsas) (TellsPlace (lsas_in bytes))
lsas_told bytes (Ok lsas) is = lsas_are bytes (Ok lsas) is
lsas_told bytes (Err (Refused fault offset)) is = lsas_are bytes (Err (fault, offset)) is
lsas_told bytes (Err OutOfMemory) is = tt
