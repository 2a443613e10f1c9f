-- What a live file says.
use Rattle.std.specs.Prelude.{◌≡◌, ◌⊎◌, ℕ, ◌==◌, List, [], ◌∷◌, Bool, true, false, Option, Some, None, Result, Ok, Err, IsUtf8, if◌then◌else◌}
use Rattle.std.specs.Str.Lossy.{utf8_valid_len}
use Rattle.cost_base.specs.declared.refusal.Refusal.{Refusal}
use Rattle.cost_base.specs.declared.refusal.Refusal.TheVariants.{Refused, OutOfMemory}
use Rattle.json.specs.Json.{Json}
use Rattle.json.specs.Word.{is_space}
use Rattle.lsa_bytes.specs.declared.Lsa.{Lsa}
use Rattle.lsa_bytes.specs.declared.fault.LsaFault.{LsaFault}
use Rattle.lsa_bytes.specs.declared.instances.Instance.{Instance}
use Rattle.lsa_bytes.specs.Files as files
use Rattle.live_reader.specs.declared.fault.LiveFault.{LiveFault}
use Rattle.live_reader.specs.declared.fault.LiveFault.TheVariants.{BadJson, BadLive, Lsas}
use Rattle.live_reader.specs.declared.fault.Lack.{Lack}
use Rattle.live_reader.specs.Texts.{line_of_offset, token_line}
use Rattle.live_reader.specs.JsonTexts.{value_of_text, stop_line}
use Rattle.live_reader.specs.JsonLsas.{live_lsas}

-- the first byte other than blanks of JSON (a space, a tab, LF or CR) is a brace
abbrev pub begins_object : List ℕ → Bool
begins_object [] = false
begins_object (c ∷ cs) = if is_space c then begins_object cs else c == 123

-- what instances of a JSON text come to: the LSAs that count, or a fault on the line of its object
abbrev pub decided_in : List ℕ → Result (List Lsa) (LsaFault × ℕ) → Result (List Lsa) (LiveFault × ℕ)
decided_in text (Ok lsas) = Ok lsas
decided_in text (Err fault) = Err (Lsas fault.0, token_line text fault.1)

-- what instances that were read come to; or a fault on the line of the object that lacks something
abbrev pub read_in : List ℕ → Result (List Instance) ℕ → Result (List Lsa) (LiveFault × ℕ)
read_in text (Ok instances) = decided_in text (files.decided instances None)
read_in text (Err place) = Err (BadLive, token_line text place)

-- what a text comes to that is this value, or no JSON
abbrev pub said_in : ℕ → List ℕ → Option Json → Result (List Lsa) (LiveFault × ℕ)
said_in area text None = Err (BadJson, stop_line text)
said_in area text (Some value) = read_in text (live_lsas area value)

-- what a JSON text comes to: the router-LSAs of an area that count, or the first fault and its line
abbrev pub said_by_json : ℕ → List ℕ → Result (List Lsa) (LiveFault × ℕ)
said_by_json area text = said_in area text (value_of_text text)

-- what bytes come to as a JSON text; where they are no UTF-8, they are no JSON on the line where they cease to be UTF-8
abbrev pub JsonComesTo : ℕ → List ℕ → Result (List Lsa) (LiveFault × ℕ) → Type 0
JsonComesTo area bytes outcome =
    (IsUtf8 bytes × (outcome ≡ said_by_json area bytes))
    ⊎ ((IsUtf8 bytes → ⊥) × (outcome ≡ Err (BadJson, line_of_offset bytes (utf8_valid_len bytes))))

-- what LSA bytes come to, as a live file's outcome
abbrev pub as_live : Result (List Lsa) (LsaFault × ℕ) → Result (List Lsa) (LiveFault × ℕ)
as_live (Ok lsas) = Ok lsas
as_live (Err fault) = Err (Lsas fault.0, fault.1)

-- what LSA bytes come to, with a fault as one of a live file
pub record BytesComeTo (bytes : List ℕ) (outcome : Result (List Lsa) (LiveFault × ℕ)) : Type 0 where
  pub lsas : Result (List Lsa) (LsaFault × ℕ)
  pub come : files.ComesTo bytes lsas
  pub is : outcome ≡ as_live lsas

-- what a live file comes to as JSON, or as LSA bytes
abbrev pub ComesToAs : Bool → ℕ → List ℕ → Result (List Lsa) (LiveFault × ℕ) → Type 0
ComesToAs true area bytes outcome = JsonComesTo area bytes outcome
ComesToAs false area bytes outcome = BytesComeTo bytes outcome

-- what a live file comes to for an area: LSAs that count, or the first fault and its place
abbrev pub LiveComesTo : ℕ → List ℕ → Result (List Lsa) (LiveFault × ℕ) → Type 0
LiveComesTo area bytes outcome = ComesToAs (begins_object bytes) area bytes outcome

-- the refusal tells the fault that a live file comes to; want of memory says nothing
abbrev pub RefusesLive : ℕ → List ℕ → Refusal LiveFault ℕ → Type 0
RefusesLive area bytes (Refused fault place) = LiveComesTo area bytes (Err (fault, place))
RefusesLive area bytes OutOfMemory = Unit {0}

-- the refusal tells the fault that a JSON text comes to; want of memory says nothing
abbrev pub TellsSaid : Result (List Lsa) (LiveFault × ℕ) → Refusal LiveFault ℕ → Type 0
TellsSaid said (Refused fault place) = said ≡ Err (fault, place)
TellsSaid said OutOfMemory = Unit {0}

-- the refusal tells the fault that bytes come to as JSON; want of memory says nothing
abbrev pub RefusesJson : ℕ → List ℕ → Refusal LiveFault ℕ → Type 0
RefusesJson area bytes (Refused fault place) = JsonComesTo area bytes (Err (fault, place))
RefusesJson area bytes OutOfMemory = Unit {0}

-- the refusal tells the fault that bytes come to as LSAs; want of memory says nothing
abbrev pub RefusesBytes : List ℕ → Refusal LiveFault ℕ → Type 0
RefusesBytes bytes (Refused fault place) = BytesComeTo bytes (Err (fault, place))
RefusesBytes bytes OutOfMemory = Unit {0}

-- the refusal of a text at the line of an object that lacks something
abbrev pub lacking_in : List ℕ → Refusal Lack ℕ → Refusal LiveFault ℕ
lacking_in text (Refused lack place) = Refused BadLive (token_line text place)
lacking_in text OutOfMemory = OutOfMemory
