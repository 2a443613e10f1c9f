-- What a file of sets says of the wanted paths of an input, read after it.
use Rattle.std.specs.Prelude.{ℕ, List}
use Rattle.set_reader.specs.FaultNumbers.{set_fault_number}
use Rattle.set_reader.specs.Reading.{AreSaid, set_fault}
use Rattle.set_reader.specs.SpreadSets.{AreSetsOf}
use Rattle.input_files.specs.declared.problem.View.TheVariants.{AsRequested}
use Rattle.input_files.specs.Inputs.{InputFiles}
use Rattle.input_files.specs.Readings.{Reading, ◌>>=◌, unless_refused, line_refused}
use Rattle.input_files.specs.Outcomes.{Input, outcome, file_read}

-- the greatest size of a file of sets: 4 MiB
abbrev pub longest_sets : ℕ
longest_sets = 4194304

-- what the files of a network say, and the bytes of a file of sets of its wanted paths in which no line has a fault
pub record Sharing : Type 0 where
  pub input : Input
  pub bytes : List ℕ

-- these are the sets that the file of sets says, and they are sets of the input's wanted paths
pub record AreSetsIn (sets : List (List ℕ)) (sharing : Sharing) : Type 0 where
  pub said : AreSaid sharing.bytes sets
  pub lawful : AreSetsOf sharing.input.problem sets

-- what the bytes of a file of sets say, or its first faulty line
abbrev pub sets_said : List ℕ → Input → List ℕ → Reading Sharing
sets_said file d bytes =
    unless_refused (line_refused set_fault_number file) (record { input = d; bytes = bytes }) (set_fault d.problem bytes)

-- what is read of a file of sets after the other files: its size is looked at first, and then its lines
abbrev pub sets_read : List ℕ → Input → Reading Sharing
sets_read file d = file_read longest_sets file >>= λ bytes. sets_said file d bytes

-- what the files of `spread` say, in their order: those of a network and its requests, and then the file of sets
abbrev pub spread_read : InputFiles → List ℕ → Reading Sharing
spread_read names file = outcome AsRequested names >>= λ d. sets_read file d
