-- Printed costs are read back.
use Rattle.std.specs.Prelude.{◌≡◌, ℕ, List, Bool, All, map}
use Rattle.cost_base.specs.Histories.{Taken}
use Rattle.text_lines.specs.Lines.{lines}
use Rattle.config_reader.specs.Sections.{config_section_lines}
use Rattle.lsdb_build.specs.declared.Linked.{Linked}
use Rattle.printed_rows.specs.PrintedCosts.{named_cost}
use Rattle.input_files.specs.declared.problem.View.{View}
use Rattle.input_files.specs.declared.problem.View.TheVariants.{AsRequested, BesidePresent}
use Rattle.input_files.specs.Inputs.{InputFiles}
use Rattle.input_files.specs.Readings.{Says, EndsAs}
use Rattle.input_files.specs.Outcomes.{Input, outcome}
use Rattle.read_back_laws.specs.ReadBack.{IsPrintable, IsReadBackFor, StandElse, names_in, pairs_of, section}

-- each router's section of the text has the lines of its chosen interfaces, in their order, each at the cost of its
-- variable
abbrev pub HasSections : (ℕ → Linked → Bool) → Input → List ℕ → List ℕ → Type 0
HasSections chosen d text w =
    (router : List ℕ) → section router (lines text) ≡ config_section_lines (pairs_of router (map (named_cost w) (names_in chosen d)))

-- A text with the lines of some free interfaces of what the files say, all others having the costs of their variables
-- at present: read behind the configurations it is the network at these costs.
abbrev pub SectionsReadBack : View → Type 0
SectionsReadBack view =
    (chosen : ℕ → Linked → Bool) (names : InputFiles) (d : Input) (came : List Taken) (text w : List ℕ) →
    EndsAs (outcome view names) came (Says d) → HasSections chosen d text w → StandElse chosen d.asked d.database w →
    All (IsPrintable w) (names_in chosen d) → IsReadBackFor d (names_in chosen d) text w

-- printed sections are read back in problems as requested, and in those that are beside the present costs
abbrev pub CostsReadBack : Type 0
CostsReadBack = SectionsReadBack AsRequested × SectionsReadBack BesidePresent
