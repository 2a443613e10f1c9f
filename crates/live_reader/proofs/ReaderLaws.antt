-- From the text to the value on its tape.
use Rattle.std.proofs.Common.{◌≡◌, ℕ, suc, ◌+◌, ◌*◌, ◌<◌, ◌≤◌, List, [], ◌∷◌, true, false, ◌==◌, cond, length, drop, get_or, Option, Some, None, refl, sym, ap, ◌∙◌, subst, arith, length-append}
use Rattle.std.specs.Prelude.{IsSome, Result, Ok}
use Rattle.std.specs.Option.{option_and_then}
use Rattle.std.proofs.lemmas.List.{drop_more}
use Rattle.std.proofs.lemmas.Bool.{false≢true}
use Rattle.cost_base.specs.declared.refusal.Refusal.{Refusal}
use Rattle.cost_base.specs.declared.refusal.Refusal.TheVariants.{Refused, OutOfMemory}
use Rattle.json.specs.Token.{Token}
use Rattle.json.specs.Word.{is_space}
use Rattle.json.specs.Lex.{tokens}
use Rattle.json.specs.Json.{Json, value, if_last, document}
use Rattle.json.specs.Find.{BeginsWith}
use Rattle.json.specs.Tree.{json_tokens}
use Rattle.lsa_bytes.specs.declared.instances.Instance.{Instance}
use Rattle.lsa_bytes.specs.Reading.{AreSmall}
use Rattle.live_reader.specs.Places.{Stands}
use Rattle.live_reader.specs.JsonTexts.{value_of_text, is_bad, good_tokens}
use Rattle.live_reader.specs.JsonLsas.{live_lsas}
use Rattle.live_reader.specs.LiveFiles.{begins_object, TellsSaid, read_in, lacking_in}
use Rattle.live_reader.specs.declared.fault.Lack.{Lack}
use Rattle.live_reader.specs.Stops.{TellsLack}
use Rattle.live_reader.proofs.TapeLaws.{value_stands}
use Rattle.live_reader.proofs.TextLaws.{tokens_few}
use Rattle.live_reader.proofs.SizeLaws.{live_small, types_of}

-- ---- the first byte

pub blank_first : (bytes : List ℕ) (i : ℕ) → i < length bytes → is_space (get_or bytes i 0) ≡ true →
    begins_object (drop i bytes) ≡ begins_object (drop (i + 1) bytes)
blank_first bytes i within is =
    ap begins_object (drop_more bytes i 0 within) ∙ ap (λ b. cond b (begins_object (drop (i + 1) bytes)) (get_or bytes i 0 == 123)) is

pub other_first : (bytes : List ℕ) (i : ℕ) → i < length bytes → is_space (get_or bytes i 0) ≡ false → begins_object (drop i bytes) ≡ (get_or bytes i 0 == 123)
other_first bytes i within is =
    ap begins_object (drop_more bytes i 0 within) ∙ ap (λ b. cond b (begins_object (drop (i + 1) bytes)) (get_or bytes i 0 == 123)) is

-- ---- tokens

pub good_more : (old new : List Token) (t : Token) → old ≡ t ∷ new → is_bad t ≡ false → good_tokens old ≡ suc (good_tokens new)
good_more old new t is good = ap good_tokens is ∙ ap (λ b. cond b 0 (suc (good_tokens new))) good

pub good_ends : (old new : List Token) (t : Token) → old ≡ t ∷ new → is_bad t ≡ true → good_tokens old ≡ 0
good_ends old new t is bad = ap good_tokens is ∙ ap (λ b. cond b 0 (suc (good_tokens new))) bad

-- ---- the value

abbrev IsThere : {X : Type 0} → Option X → Type 0
IsThere None = ⊥
IsThere (Some x) = Unit {0}

abbrev or_else : Json → Option Json → Json
or_else d None = d
or_else d (Some j) = j

whole : (o : Option (Json × List Token)) (j : Json) → option_and_then (λ read. if_last read.0 read.1) o ≡ Some j → o ≡ Some (j, [])
whole None j e = absurd (subst IsThere (sym e) tt)
whole (Some (i, [])) j e = ap (λ x. Some (x, [])) (ap (or_else i) e)
whole (Some (i, t ∷ ts)) j e = absurd (subst IsThere (sym e) tt)

-- the value of a text stands at the front of its tape
pub text_stands : (text : List ℕ) (tape : List Token) (j : Json) → tape ≡ tokens text → value_of_text text ≡ Some j → Stands tape 0 j
text_stands text tape j same e =
    subst (λ ts. Stands ts 0 j) (sym same) (value_stands 64 (tokens text) [] j (whole (value 64 (tokens text)) j e))

begun_stands : (tape : List Token) (j : Json) → BeginsWith tape j → Stands tape 0 j
begun_stands tape j begun = value_stands begun.0 tape begun.1 j begun.2

small_value : (tape : List Token) (area : ℕ) (lsas : List Instance) (most : ℕ) (o : Option Json) → IsSome o → ((j : Json) → o ≡ Some j → BeginsWith tape j) →
    ((j : Json) → Stands tape 0 j → live_lsas area j ≡ Ok lsas) → 4 * length tape ≤ most → AreSmall lsas most
small_value tape area lsas most None some begun says few = absurd (false≢true some)
small_value tape area lsas most (Some j) some begun says few =
    let stands = begun_stands tape j (begun j refl) in
    let small = live_small area j lsas (says j stands) in
    let size : length tape ≡ length (json_tokens j) + length stands.0 = ap length stands.1 ∙ length-append (json_tokens j) stands.0 in
    record { types = types_of _ lsas small; sizes = omega (arith, small.sizes, size, few) }

-- of the LSAs of a text of at most 64 MiB a database may be made
pub text_small : (text : List ℕ) (tape : List Token) (area : ℕ) (lsas : List Instance) → length text ≤ 67108864 → tape ≡ tokens text → IsSome (document text) →
    ((j : Json) → document text ≡ Some j → BeginsWith tape j) → ((j : Json) → Stands tape 0 j → live_lsas area j ≡ Ok lsas) → AreSmall lsas 4294967294
text_small text tape area lsas short same some begun says =
    small_value tape area lsas 4294967294 (document text) some begun says (omega (arith, ap length same, tokens_few text, short))

-- what a stop tells of LSAs it tells of the text
pub lack_tells : (text : List ℕ) (said : Result (List Instance) ℕ) (stop : Refusal Lack ℕ) → TellsLack said stop →
    TellsSaid (read_in text said) (lacking_in text stop)
lack_tells text said (Refused lack place) tells = ap (read_in text) tells
lack_tells text said OutOfMemory tells = tt
