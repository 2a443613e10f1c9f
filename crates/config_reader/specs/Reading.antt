-- What the lines of a configuration that were read so far say.
use Rattle.std.specs.Prelude.{ℕ, List, filter}
use Rattle.cost_base.specs.Lists.{last_of}
use Rattle.text_lines.specs.Lines.{is_head}
use Rattle.config_reader.specs.Statements.{Block}
use Rattle.config_reader.specs.Settings.{block_by_head}

-- the block that a next line stands in
abbrev pub open_block : List (List ℕ) → Block
open_block file = block_by_head (last_of (filter is_head file))
