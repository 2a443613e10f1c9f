-- What the code keeps while it writes, and what one more line adds. No public clause cites it.
use Rattle.std.specs.Prelude.{◌≡◌, ℕ, List, [], ◌∷◌, ◌++◌, ◌&&◌, if◌then◌else◌, Bool, true, false, Option, Some, None, is_some}
use Rattle.std.specs.List.{list_any}
use Rattle.cost_base.specs.Lists.{same_bytes}
use Rattle.text_lines.specs.Lines.{words, kind_of}
use Rattle.text_lines.specs.Reading.{line_end}
use Rattle.text_lines.specs.declared.LineKind.{LineKind}
use Rattle.text_lines.specs.declared.LineKind.TheVariants.{Head}
use Rattle.config_reader.specs.Statements.{Block, OfInterface, OfRouter, OfOther, block_of}
use Rattle.config_reader.specs.Sections.{section_cost_line}
use Rattle.config_writer.specs.Rewriting.{is_cost_line}
use Rattle.config_writer.specs.declared.writer.Writer.{Writer}

-- the value of the first entry that has a name
abbrev pub look_up : List ℕ → List (List ℕ × ℕ) → Option ℕ
look_up name [] = None
look_up name (entry ∷ entries) = if same_bytes name entry.0 then Some entry.1 else look_up name entries

-- the new cost of the interface of a block, where it has one
abbrev pub block_cost : List (List ℕ × ℕ) → Block → Option ℕ
block_cost costs (OfInterface name) = look_up name costs
block_cost costs OfRouter = None
block_cost costs OfOther = None

-- the new cost of the interface of a block, where no block before it is of that interface
abbrev pub first_cost : List (List ℕ × ℕ) → List (List ℕ) → Block → Option ℕ
first_cost costs heads (OfInterface name) = if list_any (same_bytes name) heads then None else look_up name costs
first_cost costs heads OfRouter = None
first_cost costs heads OfOther = None

-- the interfaces that have heads, with that of one more block
abbrev pub heads_with : List (List ℕ) → Block → List (List ℕ)
heads_with heads (OfInterface name) = if list_any (same_bytes name) heads then heads else heads ++ name ∷ []
heads_with heads OfRouter = heads
heads_with heads OfOther = heads

-- the new cost that is put behind a line, where it is the first head of an interface that has one
abbrev pub cost_after_line : LineKind → List (List ℕ × ℕ) → List (List ℕ) → Block → Option ℕ
cost_after_line Head costs heads block = first_cost costs heads block
cost_after_line _ costs heads block = None

-- the interfaces that have heads behind a line
abbrev pub heads_after_line : LineKind → List (List ℕ) → Block → List (List ℕ)
heads_after_line Head heads block = heads_with heads block
heads_after_line _ heads block = heads

-- whether the block behind a line is of an interface with a new cost
abbrev pub named_after_line : LineKind → List (List ℕ × ℕ) → Bool → Block → Bool
named_after_line Head costs named block = is_some (block_cost costs block)
named_after_line _ costs named block = named

-- what is put for a line, which ended with an LF or not
abbrev pub put_for : Bool → Option ℕ → List ℕ → Bool → List ℕ
put_for true behind line end = []
put_for false None line end = line ++ line_end end
put_for false (Some n) line end = (line ++ 10 ∷ []) ++ (section_cost_line n ++ 10 ∷ [])

-- a line was opened as a head
pub record OpensHead (old new : Writer) (block : Block) (behind : Option ℕ) : Type 0 where
  pub behind_is : behind ≡ first_cost old.costs old.heads block
  pub heads : new.heads ≡ heads_with old.heads block
  pub named : new.in_named_block ≡ is_some (block_cost old.costs block)
  pub costs : new.costs ≡ old.costs
  pub out : new.out.items ≡ old.out.items

-- a line was gone over
pub record GoesOverLine (old new : Writer) (line : List ℕ) (end : Bool) : Type 0 where
  pub out : new.out.items ≡ old.out.items ++ put_for (old.in_named_block && is_cost_line line)
      (cost_after_line (kind_of line) old.costs old.heads (block_of (words line))) line end
  pub heads : new.heads ≡ heads_after_line (kind_of line) old.heads (block_of (words line))
  pub named : new.in_named_block ≡ named_after_line (kind_of line) old.costs old.in_named_block (block_of (words line))
  pub costs : new.costs ≡ old.costs
