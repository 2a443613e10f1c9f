-- How a reading ends on texts that stand for files.
use Rattle.std.specs.Prelude.{ℕ, List, length, nat_le, if◌then◌else◌}
use Rattle.cost_base.specs.Files.{first_file, or_empty}
use Rattle.input_files.specs.Readings.{Reading, Take, Refused, Ready, End, Says, Faulty, too_long}

-- the text of a name: the first of that name, or an empty one where there is none
abbrev pub text_named : List (List ℕ × List ℕ) → List ℕ → List ℕ
text_named texts name = or_empty (first_file texts name)

-- the end of a reading to which each file is the text of its name
abbrev pub end_of_reading : {A : Type 0} → List (List ℕ × List ℕ) → Reading A → End A
end_of_reading texts (Ready x) = Says x
end_of_reading texts (Refused r) = Faulty r
end_of_reading texts (Take name most next) =
    if nat_le (length (text_named texts name)) most then end_of_reading texts (next (text_named texts name)) else Faulty (too_long name)
