-- Read as JSON or LSA by LSA, a live file comes to what it comes to.
use Rattle.std.proofs.Common.{◌≡◌, ℕ, List, [], Bool, true, false, cond, refl, sym, ◌∙◌, ap, subst, inl, inr, Result, Ok, Err}
use Rattle.std.specs.Prelude.{MatchResult}
use Rattle.std.specs.Str.{is_utf8}
use Rattle.std.specs.Str.Lossy.{utf8_valid_len}
use Rattle.std.proofs.lemmas.Bool.{false≢true}
use Rattle.std.proofs.lemmas.Str.{IsUtf8-from_is_utf8, is_utf8-from_IsUtf8}
use Rattle.cost_base.specs.declared.refusal.Refusal.{Refusal}
use Rattle.cost_base.specs.declared.refusal.Refusal.TheVariants.{Refused, OutOfMemory}
use Rattle.lsa_bytes.specs.declared.Lsa.{Lsa}
use Rattle.lsa_bytes.specs.declared.fault.LsaFault.{LsaFault}
use Rattle.lsa_bytes.specs.Files.{ComesTo}
use Rattle.live_reader.specs.declared.fault.LiveFault.{LiveFault}
use Rattle.live_reader.specs.declared.fault.LiveFault.TheVariants.{BadJson}
use Rattle.live_reader.specs.LiveFiles.{begins_object, said_by_json, as_live, JsonComesTo, ComesToAs, LiveComesTo, RefusesLive}
use Rattle.live_reader.specs.Texts.{line_of_offset}
use Rattle.input_files.proofs.Parsed.{TellsPlace}
use Rattle.live_input.specs.LsaFiles.{lsas_in}
use Rattle.live_input.specs.LiveReadings.{json_in, live_in}
use Rattle.live_input.specs.Laws.{LsaFilesComeTo, LiveFilesComeTo}
use Rattle.live_input.proofs.LsaFiles.{comes, lsas_are}

-- what came of a live file
abbrev Outcome : Type 0
Outcome = Result (List Lsa) (LiveFault × ℕ)

-- bytes that aren't UTF-8
abbrev no_text : List ℕ → Outcome
no_text bytes = Err (BadJson, line_of_offset bytes (utf8_valid_len bytes))

json_comes : (b : Bool) (area : ℕ) (bytes : List ℕ) → is_utf8 bytes ≡ b → JsonComesTo area bytes (cond b (said_by_json area bytes) (no_text bytes))
json_comes true area bytes is = inl (IsUtf8-from_is_utf8 bytes is, refl)
json_comes false area bytes is = inr (λ text. false≢true (sym is ∙ is_utf8-from_IsUtf8 bytes text), refl)

json_are : (b : Bool) (area : ℕ) (bytes : List ℕ) (r : Outcome) → is_utf8 bytes ≡ b → JsonComesTo area bytes r →
    cond b (said_by_json area bytes) (no_text bytes) ≡ r
json_are true area bytes r is (inl h) = sym h.1
json_are true area bytes r is (inr h) = absurd (h.0 (IsUtf8-from_is_utf8 bytes is))
json_are false area bytes r is (inl h) = absurd (false≢true (sym is ∙ is_utf8-from_IsUtf8 bytes h.0))
json_are false area bytes r is (inr h) = sym h.1

comes_as : (b : Bool) (area : ℕ) (bytes : List ℕ) → ComesToAs b area bytes (cond b (json_in area bytes) (as_live (lsas_in bytes)))
comes_as true area bytes = json_comes (is_utf8 bytes) area bytes refl
comes_as false area bytes = record { lsas = lsas_in bytes; come = comes bytes; is = refl }

are_as : (b : Bool) (area : ℕ) (bytes : List ℕ) (r : Outcome) → ComesToAs b area bytes r → cond b (json_in area bytes) (as_live (lsas_in bytes)) ≡ r
are_as true area bytes r h = json_are (is_utf8 bytes) area bytes r refl h
are_as false area bytes r h = ap as_live (lsas_are bytes h.lsas h.come) ∙ sym h.is

-- a live file comes to this, and to nothing else
live_comes : (area : ℕ) (bytes : List ℕ) → LiveComesTo area bytes (live_in area bytes)
live_comes area bytes = comes_as (begins_object bytes) area bytes

pub live_are : (area : ℕ) (bytes : List ℕ) (r : Outcome) → LiveComesTo area bytes r → live_in area bytes ≡ r
live_are area bytes r h = are_as (begins_object bytes) area bytes r h

pub lsa_files : LsaFilesComeTo
lsa_files bytes r = (λ h. lsas_are bytes r h, λ is. subst (λ (x : Result (List Lsa) (LsaFault × ℕ)). ComesTo bytes x) is (comes bytes))

pub live_files : LiveFilesComeTo
live_files area bytes r = (λ h. live_are area bytes r h, λ is. subst (λ (x : Outcome). LiveComesTo area bytes x) is (live_comes area bytes))

-- what was read of a live file's bytes, or refused
pub live_told : (area : ℕ) (bytes : List ℕ) (parsed : Result (List Lsa) (Refusal LiveFault ℕ)) →
    MatchResult parsed (λ lsas. LiveComesTo area bytes (Ok lsas)) (RefusesLive area bytes) →
    MatchResult parsed (λ lsas. live_in area bytes ≡ Ok lsas) (TellsPlace (live_in area bytes))
live_told area bytes (Ok lsas) is = live_are area bytes (Ok lsas) is
live_told area bytes (Err (Refused fault place)) is = live_are area bytes (Err (fault, place)) is
live_told area bytes (Err OutOfMemory) is = tt
