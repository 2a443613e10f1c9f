-- What a file says that was parsed, and how its refusal stops the reading.
use Rattle.std.proofs.Common.{◌≡◌, ℕ, refl, sym, subst, List, [], Option, None, Result, Ok, Err}
use Rattle.std.specs.Prelude.{Vec, IfOk, IfErr, MatchResult}
use Rattle.std.specs.Borrow.{Bor}
use Rattle.std.specs.declared.alloc.Global.{Global}
use Rattle.cost_base.specs.declared.refusal.Refusal.{Refusal}
use Rattle.cost_base.specs.declared.refusal.Refusal.TheVariants.{Refused, OutOfMemory}
use Rattle.cost_base.specs.Histories.{Taken}
use Rattle.text_lines.specs.LineFaults.{FaultyLine, TellsFault, fault_at}
use Rattle.input_files.specs.declared.stop.Stop.{Stop}
use Rattle.input_files.specs.declared.stop.Stop.TheVariants as stops
use Rattle.input_files.specs.Readings.{Reading, ◌>>=◌, unless_refused, or_refused, line_refused, place_refused, Says, EndsAs, Gave}
use Rattle.input_files.specs.Outcomes.{file_read}
use Rattle.input_files.specs.Stops.{StopsAs, IsReadAndMade, IsReadAs, said_or_stop}
use Rattle.input_files.proofs.Readings.{says_unless}
use Rattle.input_files.proofs.Stops.{fault_stops, gave_made}

-- a file was read, and then what it says was parsed or refused
pub gave_parsed : {A T F : Type 0} (Given : List Taken → Type 0) (most : ℕ) (file : Bor (List ℕ)) (next : List ℕ → Reading A)
    (numbered : F → ℕ) (Fits : T → A → Type 0) (bytes : Vec ℕ Global) (parsed : Result T (Refusal F ℕ)) (result : Result T Stop) →
    Gave Given (λ came. IsReadAndMade (file_read most file.now) came (λ (b : Vec ℕ Global) read. b.items ≡ read) bytes) →
    result ≡ said_or_stop numbered parsed file →
    ((read : List ℕ) → bytes.items ≡ read → IsReadAs (next read) [] Fits (said_or_stop numbered parsed file)) →
    Gave Given (λ came. IsReadAs (file_read most file.now >>= next) came Fits result)
gave_parsed {A} {T} Given most file next numbered Fits bytes parsed result read is said =
    subst (λ (r : Result T Stop). Gave Given (λ came. IsReadAs (file_read most file.now >>= next) came Fits r)) (sym is)
    (gave_made Given (file_read most file.now) next (λ (b : Vec ℕ Global) read. b.items ≡ read) Fits bytes
    (said_or_stop numbered parsed file) read said)

-- lines were parsed: they have no fault, or the refusal tells the first one
pub lines_parsed : {A T F : Type 0} (numbered : F → ℕ) (file : Bor (List ℕ)) (said : A) (found : Option (FaultyLine F))
    (Fits : T → A → Type 0) (parsed : Result T (Refusal F ℕ)) →
    IfOk parsed (λ made. (found ≡ None) × Fits made said) → IfErr parsed (TellsFault found) →
    IsReadAs (unless_refused (line_refused numbered file.now) said found) [] Fits (said_or_stop numbered parsed file)
lines_parsed numbered file said found Fits (Ok made) is tells =
    record { said = said; ends = says_unless (line_refused numbered file.now) said found is.0; fits = is.1 }
lines_parsed numbered file said found Fits (Err (Refused fault line)) is tells =
    fault_stops (line_refused numbered file.now) said found (fault_at line fault) (stops.Refused (numbered fault) file line) tells refl
lines_parsed numbered file said found Fits (Err OutOfMemory) is tells = tt

-- a refusal tells the fault and its place; want of memory says nothing
abbrev pub TellsPlace : {A F : Type 0} → Result A (F × ℕ) → Refusal F ℕ → Type 0
TellsPlace said (Refused fault place) = said ≡ Err (fault, place)
TellsPlace said OutOfMemory = Unit {0}

-- bytes were parsed: they say what was made, or the refusal tells the fault and its place
pub places_parsed : {A F : Type 0} (numbered : F → ℕ) (file : Bor (List ℕ)) (said : Result A (F × ℕ)) (parsed : Result A (Refusal F ℕ)) →
    MatchResult parsed (λ made. said ≡ Ok made) (TellsPlace said) →
    IsReadAs (or_refused (place_refused numbered file.now) said) [] (λ made x. made ≡ x) (said_or_stop numbered parsed file)
places_parsed {A} {F} numbered file said (Ok made) is =
    record {
      said = made;
      ends = subst (λ (r : Result A (F × ℕ)). EndsAs (or_refused (place_refused numbered file.now) r) [] (Says made)) (sym is) refl;
      fits = refl;
    }
places_parsed {A} {F} numbered file said (Err (Refused fault place)) is =
    subst (λ (r : Result A (F × ℕ)). StopsAs (or_refused (place_refused numbered file.now) r) [] (stops.Refused (numbered fault) file place)) (sym is) refl
places_parsed numbered file said (Err OutOfMemory) is = tt
