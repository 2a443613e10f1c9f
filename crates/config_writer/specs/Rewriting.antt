-- A configuration with new costs: which lines are taken out, and where the new lines stand.
use Rattle.std.specs.Prelude.{◌≡◌, ◌≢◌, ◌≤◌, ℕ, List, [], ◌∷◌, ◌++◌, ◌==◌, ◌&&◌, not, if◌then◌else◌, Bool, true, false, Option, Some, None, length, map, take, position, is_some, slice_index_or, codes, All, AllPairs}
use Rattle.std.specs.List.{concat, list_any}
use Rattle.cost_base.specs.Lists.{numbers_from, same_bytes}
use Rattle.text_lines.specs.Lines.{lines, words, grow, kind_of, is_head, ended}
use Rattle.text_lines.specs.declared.LineKind.{LineKind}
use Rattle.text_lines.specs.declared.LineKind.TheVariants.{Indented}
use Rattle.config_reader.specs.Statements.{Block, OfInterface, OfRouter, OfOther, block_of, begin_with, ip_ospf}
use Rattle.config_reader.specs.Reading.{open_block}
use Rattle.config_reader.specs.Configs.{first_heads, config_of}
use Rattle.config_reader.specs.Sections.{cost_after, with_costs, section_cost_line}
use Rattle.config_reader.specs.FaultList.{config_fault}
use Rattle.interface_model.specs.declared.Interface.{Interface}
use Rattle.interface_model.specs.Records.{Router}
use Rattle.design_problem.specs.declared.answer.CostLine.{CostLine}
use Rattle.config_writer.specs.declared.RewriteStop.{RewriteStop}
use Rattle.config_writer.specs.declared.RewriteStop.TheVariants.{NoInterface, OutOfMemory}

-- the interfaces of some cost lines with their new costs
abbrev pub costs_of : List CostLine → List (List ℕ × ℕ)
costs_of costs = map (λ line. (line.interface, line.cost)) costs

-- new costs of interfaces of a router, from 1 on, and of none of them twice
pub record AreNewCosts (router : List ℕ) (costs : List CostLine) : Type 0 where
  pub own : All (λ line. line.router ≡ router) costs
  pub from : All (λ line. 1 ≤ line.cost) costs
  pub apart : AllPairs (λ a b. a.interface ≢ b.interface) costs

-- the new cost of the interface of a block
abbrev pub new_cost : List (List ℕ × ℕ) → Block → Option ℕ
new_cost costs (OfInterface name) = cost_after costs name None
new_cost costs OfRouter = None
new_cost costs OfOther = None

-- the interfaces that some lines open, in the order of their first heads
abbrev pub headed : List (List ℕ) → List (List ℕ)
headed file = map (λ head. head.0) (first_heads file)

-- whether a kind of line is that of an indented line
abbrev pub is_indented_kind : LineKind → Bool
is_indented_kind Indented = true
is_indented_kind _ = false

-- an indented line that begins with `ip ospf cost`
abbrev pub is_cost_line : List ℕ → Bool
is_cost_line line = is_indented_kind (kind_of line) && begin_with (ip_ospf (codes "cost")) (words line)

-- whether a line is taken out: a cost line in a block of an interface with a new cost; the lines before it stand first
abbrev pub is_replaced : List (List ℕ × ℕ) → List (List ℕ) → List ℕ → Bool
is_replaced costs before line = is_some (new_cost costs (open_block before)) && is_cost_line line

-- whether a block is of an interface that no line before it opens
abbrev pub is_first_block : List (List ℕ) → Block → Bool
is_first_block before (OfInterface name) = not (list_any (same_bytes name) (headed before))
is_first_block before OfRouter = false
is_first_block before OfOther = false

-- the new cost that a line is followed by: it is the first head of its interface
abbrev pub cost_behind : List (List ℕ × ℕ) → List (List ℕ) → List ℕ → Option ℕ
cost_behind costs before line =
    if is_head line && is_first_block before (block_of (words line)) then new_cost costs (block_of (words line)) else None

-- the lines of a text, each with its LF, which only the last may lack
abbrev pub whole_lines : List ℕ → List (List ℕ)
whole_lines [] = []
whole_lines (c ∷ cs) = if c == 10 then (10 ∷ []) ∷ whole_lines cs else grow c (whole_lines cs)

-- what is written for a line: nothing where it is taken out; else the line with its LF, and the new cost line where it
-- is followed by one
abbrev pub written_for : Bool → Option ℕ → List ℕ → List ℕ
written_for true behind whole = []
written_for false None whole = whole
written_for false (Some n) whole = ended whole ++ (section_cost_line n ++ 10 ∷ [])

-- what is written for the line at a place, from 0
abbrev pub written_at : List (List ℕ × ℕ) → List ℕ → ℕ → List ℕ
written_at costs bytes i =
    let file = lines bytes in
    let line = slice_index_or file i [] in
    written_for (is_replaced costs (take i file) line) (cost_behind costs (take i file) line) (slice_index_or (whole_lines bytes) i [])

-- the configuration with the new costs
abbrev pub rewritten : List (List ℕ × ℕ) → List ℕ → List ℕ
rewritten costs bytes = concat (map (written_at costs bytes) (numbers_from 0 (length (lines bytes))))

-- the number of the first cost whose interface has no head
abbrev pub first_missing : List (List ℕ × ℕ) → List ℕ → Option ℕ
first_missing costs bytes = position (λ cost. not (list_any (same_bytes cost.0) (headed (lines bytes)))) costs

-- a stop of a rewrite tells the first cost whose interface has no head; want of memory tells nothing
abbrev pub TellsMissing : Option ℕ → RewriteStop → Type 0
TellsMissing missing (NoInterface i) = missing ≡ Some i
TellsMissing missing OutOfMemory = Unit {0}

-- an interface, line number aside
abbrev pub unnumbered : Interface → Interface
unnumbered i = record i { line = 0 }

-- the records of a router, line numbers aside
abbrev pub without_numbers : Router → Router
without_numbers r = record r { interfaces = map unnumbered r.interfaces }

-- a text without a fault that has the records of a configuration with the new costs, line numbers aside
pub record ReadsBack (file_name : List ℕ) (costs : List (List ℕ × ℕ)) (bytes text : List ℕ) : Type 0 where
  pub accepted : config_fault file_name text ≡ None
  pub records : without_numbers (config_of file_name text) ≡ without_numbers (with_costs costs (config_of file_name bytes))
