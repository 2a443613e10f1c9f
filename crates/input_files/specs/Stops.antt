-- What ends the reading of files, and when.
use Rattle.std.specs.Prelude.{◌≡◌, ℕ, List, Result, Ok, Err}
use Rattle.std.specs.Borrow.{Bor}
use Rattle.cost_base.specs.declared.ShelfStop.{ShelfStop}
use Rattle.cost_base.specs.declared.ShelfStop.TheVariants.{Failed as NotRead, TooLong, OutOfMemory as NoMemory}
use Rattle.cost_base.specs.declared.refusal.Refusal.{Refusal}
use Rattle.cost_base.specs.declared.refusal.Refusal.TheVariants.{Refused as FaultAt, OutOfMemory as NoMemoryLeft}
use Rattle.cost_base.specs.Histories.{Taken}
use Rattle.input_files.specs.declared.stop.FileFault.TheVariants.{TooLong as FileTooLong}
use Rattle.input_files.specs.FaultNumbers.{file_fault_number}
use Rattle.text_lines.specs.Arguments.{texts}
use Rattle.input_files.specs.declared.stop.Stop.{Stop}
use Rattle.input_files.specs.declared.stop.Stop.TheVariants.{Refused, ReadFault, OutOfMemory}
use Rattle.input_files.specs.declared.reading.FileWords.{FileWords}
use Rattle.input_files.specs.Inputs.{InputFiles}
use Rattle.input_files.specs.Readings.{InputRefusal, Reading, Says, Faulty, Failed, EndsAs, Begins}

-- the files that words name
abbrev pub files_named : FileWords → InputFiles
files_named words = record { request = words.request.now; configs = texts words.configs.now }

-- a refusal by its number, its file and its line
abbrev pub refusal_in : ℕ → Bor (List ℕ) → ℕ → InputRefusal
refusal_in number file line = record { number = number; file = file.now; line = line }

-- a stop tells how a reading ends that it stopped; where memory was wanting, what came begins the reading
abbrev pub StopsAs : {A : Type 0} → Reading A → List Taken → Stop → Type 0
StopsAs reading came (Refused number file line) = EndsAs reading came (Faulty (refusal_in number file line))
StopsAs reading came (ReadFault file) = EndsAs reading came (Failed file.now)
StopsAs reading came OutOfMemory = Begins reading came

-- what came of the files says this, of which the code made a result that Fits it
pub record IsReadAndMade {A T : Type 0} (reading : Reading A) (came : List Taken) (Fits : T → A → Type 0) (made : T) : Type 0 where
  pub said : A
  pub ends : EndsAs reading came (Says said)
  pub fits : Fits made said

-- what was read, or what stopped it, is as what came of the files says
abbrev pub IsReadAs : {A T : Type 0} → Reading A → List Taken → (T → A → Type 0) → Result T Stop → Type 0
IsReadAs reading came Fits (Ok made) = IsReadAndMade reading came Fits made
IsReadAs reading came Fits (Err stop) = StopsAs reading came stop

-- the stop of a file that is refused by itself, where its faults have these numbers
abbrev pub refusal_stop : {F : Type 0} → (F → ℕ) → Refusal F ℕ → Bor (List ℕ) → Stop
refusal_stop numbered (FaultAt fault line) file = Refused (numbered fault) file line
refusal_stop numbered NoMemoryLeft file = OutOfMemory

-- the stop of a file that wasn't read
abbrev pub file_stop : ShelfStop → Bor (List ℕ) → Stop
file_stop NotRead file = ReadFault file
file_stop TooLong file = refusal_stop file_fault_number (FaultAt FileTooLong 0) file
file_stop NoMemory file = OutOfMemory

-- a stop that is a refusal of these parts
abbrev pub IsRefusal : InputRefusal → Stop → Type 0
IsRefusal r (Refused number file line) = r ≡ refusal_in number file line
IsRefusal r (ReadFault file) = ⊥
IsRefusal r OutOfMemory = ⊥

-- the stop of what is refused, where its fault is refused so in one of several files
abbrev pub IsStopOf : {F P : Type 0} → (F → P → InputRefusal) → Refusal F P → Stop → Type 0
IsStopOf refused (FaultAt fault place) stop = IsRefusal (refused fault place) stop
IsStopOf refused NoMemoryLeft stop = stop ≡ OutOfMemory

-- what a file says, or the stop of its refusal
abbrev pub said_or_stop : {T F : Type 0} → (F → ℕ) → Result T (Refusal F ℕ) → Bor (List ℕ) → Result T Stop
said_or_stop numbered (Ok said) file = Ok said
said_or_stop numbered (Err refusal) file = Err (refusal_stop numbered refusal file)
