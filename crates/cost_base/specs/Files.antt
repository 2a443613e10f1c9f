-- Files as pairs of a name and bytes, and lists of names.
use Rattle.std.specs.Prelude.{ℕ, List, [], ◌∷◌, Option, Some, None, if◌then◌else◌, bytes_eq}
use Rattle.std.specs.List.{count_by}

-- the bytes of the first file of a name
abbrev pub first_file : List (List ℕ × List ℕ) → List ℕ → Option (List ℕ)
first_file [] name = None
first_file (file ∷ files) name = if bytes_eq file.0 name then Some file.1 else first_file files name

-- the bytes, where there are some, else the empty list
abbrev pub or_empty : Option (List ℕ) → List ℕ
or_empty None = []
or_empty (Some bytes) = bytes

-- the file of a shelf on which a missing name is an empty file
abbrev pub sure_file : List (List ℕ × List ℕ) → List ℕ → Option (List ℕ)
sure_file files name = Some (or_empty (first_file files name))

-- how often a name stands in a list of names
abbrev pub count_of_name : List (List ℕ) → List ℕ → ℕ
count_of_name names name = count_by (λ other. bytes_eq other name) names
