-- What a statement of a file of sets says by itself.
use Rattle.std.specs.Prelude.{ℕ, List, [], ◌∷◌, if◌then◌else◌, Option, Some, None, codes}
use Rattle.cost_base.specs.Lists.{same_bytes}
use Rattle.text_lines.specs.Numbers.{number}
use Rattle.text_lines.specs.WordLists.{all_said}
use Rattle.set_reader.specs.declared.reading.statement.Statement.{Statement}
use Rattle.set_reader.specs.declared.reading.statement.Statement.TheVariants.{Numbers, Off}

-- words that are all numbers, of at most ten digits each
abbrev pub numbers_by_words : List (List ℕ) → Option (List ℕ)
numbers_by_words words = all_said (λ word. number word 9999999999) words

-- a set of at least two numbers; fewer are off the table
abbrev pub several : Option (List ℕ) → Statement
several (Some (i ∷ j ∷ more)) = Numbers (i ∷ j ∷ more)
several _ = Off

-- a `set I J ..` line, by the words behind the first
abbrev pub set_line : List (List ℕ) → Statement
set_line words = several (numbers_by_words words)

-- what a line of a file of sets says, by its first word and those behind it
abbrev pub set_statement_by : List ℕ → List (List ℕ) → Statement
set_statement_by word words = if same_bytes word (codes "set") then set_line words else Off

-- what a line of a file of sets says, by its words
abbrev pub set_statement_of : List (List ℕ) → Statement
set_statement_of [] = Off
set_statement_of (word ∷ words) = set_statement_by word words

-- the numbers of a `set` line
abbrev pub numbers_of_set : Statement → Option (List ℕ)
numbers_of_set (Numbers ns) = Some ns
numbers_of_set _ = None
