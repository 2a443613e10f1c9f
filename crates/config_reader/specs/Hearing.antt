-- What a reader keeps of the lines that it went over, and what one more line adds.
use Rattle.std.specs.Prelude.{ℕ, ◌+◌, List, [], ◌∷◌, ◌++◌, if◌then◌else◌, Bool, true, false, Option, Some, None, length, codes, filter, slice_index_or}
use Rattle.std.specs.List.{filter_map, cons_option}
use Rattle.std.specs.Option.{option_or}
use Rattle.cost_base.specs.Lists.{first_of, numbers_from}
use Rattle.text_lines.specs.Lines.{words, kind_of}
use Rattle.text_lines.specs.declared.LineKind.{LineKind}
use Rattle.text_lines.specs.declared.LineKind.TheVariants.{Head, Indented}
use Rattle.config_reader.specs.declared.fault.ConfigFault.{ConfigFault}
use Rattle.config_reader.specs.Statements.{Statement, Refused, Unread, Block, OfOther, block_of, statement_in, head_statement, begin_with, word_at}
use Rattle.config_reader.specs.Settings.{Said, said, said_at_place}
use Rattle.config_reader.specs.Configs.{opened_at, name_with_line, name_opened}
use Rattle.config_reader.specs.RouterNames.{last_hostname}
use Rattle.config_reader.specs.FaultList.{Fault, at_line, long_line, refused, read_lines}
use Rattle.config_reader.specs.Reading.{open_block}

-- the settings that were said, the heads of interfaces, the last `hostname` head, the first faulty line by itself and
-- the open block
pub record Heard : Type 0 where
  pub said : List Said
  pub heads : List (List ℕ × ℕ)
  pub hostname : Option (List ℕ × ℕ)
  pub fault : Option Fault
  pub block : Block

-- a statement that sets something
abbrev pub sets : Statement → Bool
sets (Refused fault) = false
sets Unread = false
sets _ = true

-- one more fault was met, of which only the first is kept
abbrev pub with_fault : Heard → ℕ → ConfigFault → Heard
with_fault h n fault = record h { fault = option_or h.fault (Some (record { line = n; fault = fault })) }

-- what is kept after a line that makes this statement in this block
abbrev pub hear_statement : Heard → ℕ → Block → Statement → Heard
hear_statement h n block (Refused fault) = with_fault h n fault
hear_statement h n block Unread = h
hear_statement h n block statement =
    record h { said = h.said ++ record { number = n; block = block; statement = statement } ∷ [] }

-- what is kept after a head with these words, which opens a block
abbrev pub hear_head : Heard → ℕ → List (List ℕ) → Heard
hear_head h n ws =
    hear_statement (record h {
      heads = h.heads ++ cons_option (name_with_line n (name_opened (block_of ws))) [];
      hostname = (if begin_with (codes "hostname" ∷ []) ws then Some (word_at ws 1, n) else h.hostname);
      block = block_of ws;
    }) n OfOther (head_statement ws)

-- what is kept after a line of this kind with these words
abbrev pub hear_kind : LineKind → Heard → ℕ → List (List ℕ) → Heard
hear_kind Head h n ws = hear_head h n ws
hear_kind Indented h n ws = hear_statement h n h.block (statement_in h.block ws)
hear_kind _ h n ws = h

-- what is kept after a line of this number that isn't too long
abbrev pub hear : Heard → ℕ → List ℕ → Heard
hear h n line = hear_kind (kind_of line) h n (words line)

-- the name of the `hostname` head at a place, with its line number
abbrev pub named_by : List (List ℕ) → Option ℕ → Option (List ℕ × ℕ)
named_by file None = None
named_by file (Some i) = Some (word_at (words (slice_index_or file i [])) 1, i + 1)

-- the fault of a line by itself
abbrev pub own_fault : List (List ℕ) → ℕ → Option Fault
own_fault file i =
    at_line (i + 1) (option_or (long_line (slice_index_or file i [])) (refused (said_at_place (read_lines file) i).statement))

-- what is kept of a whole file
abbrev pub heard : List (List ℕ) → Heard
heard file = record {
  said = filter (λ s. sets s.statement) (said (read_lines file));
  heads = filter_map (opened_at (read_lines file)) (numbers_from 0 (length (read_lines file)));
  hostname = named_by (read_lines file) (last_hostname (read_lines file));
  fault = first_of (filter_map (own_fault file) (numbers_from 0 (length file)));
  block = open_block (read_lines file);
}
