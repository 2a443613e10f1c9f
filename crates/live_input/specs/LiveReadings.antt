-- What a live file says of an area, read after its size.
use Rattle.std.specs.Prelude.{ℕ, List, Result, Err, if◌then◌else◌}
use Rattle.std.specs.Str.{is_utf8}
use Rattle.std.specs.Str.Lossy.{utf8_valid_len}
use Rattle.lsa_bytes.specs.declared.Lsa.{Lsa}
use Rattle.live_reader.specs.declared.fault.LiveFault.{LiveFault}
use Rattle.live_reader.specs.declared.fault.LiveFault.TheVariants.{BadJson}
use Rattle.live_reader.specs.FaultNumbers.{live_fault_number}
use Rattle.live_reader.specs.LiveFiles.{begins_object, said_by_json, as_live}
use Rattle.live_reader.specs.Texts.{line_of_offset}
use Rattle.input_files.specs.Readings.{Reading, ◌>>=◌, or_refused, place_refused}
use Rattle.input_files.specs.Outcomes.{file_read}
use Rattle.live_input.specs.LsaFiles.{longest_database, lsas_in}

-- what bytes come to as JSON; bytes that aren't UTF-8 are no JSON, on the line where they cease to be so
abbrev pub json_in : ℕ → List ℕ → Result (List Lsa) (LiveFault × ℕ)
json_in area bytes = if is_utf8 bytes then said_by_json area bytes else Err (BadJson, line_of_offset bytes (utf8_valid_len bytes))

-- what a live file comes to for an area, as JSON or as LSA bytes: the LSAs that count, or the first fault and its place
abbrev pub live_in : ℕ → List ℕ → Result (List Lsa) (LiveFault × ℕ)
live_in area bytes = if begins_object bytes then json_in area bytes else as_live (lsas_in bytes)

-- a live file: its size, and then the LSAs of an area up to the first fault, whose place is a line of JSON or an offset
-- in LSA bytes
abbrev pub live_read : List ℕ → ℕ → Reading (List Lsa)
live_read file area = file_read longest_database file >>= λ bytes. or_refused (place_refused live_fault_number file) (live_in area bytes)
