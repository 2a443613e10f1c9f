-- The commands, their options, and the jobs that words ask for.
use Rattle.std.specs.Prelude.{ℕ, ◌-◌, ◌^◌, List, [], ◌∷◌, map, fold, find, Bool, true, false, if◌then◌else◌, nat_le, Option, Some, None, codes}
use Rattle.std.specs.Prelude.{option_and_then, option_map}
use Rattle.cost_base.specs.Lists.{same_bytes}
use Rattle.text_lines.specs.Numbers.{number, quad}
use Rattle.clap.specs.Lexer.{usize_max}
use Rattle.clap.specs.Walk.{Row, Rule, first_of, all_of, is_empty}
use Rattle.clap.specs.Simple.{App, new_app, new_rule, with_rule, matches_of}
use Rattle.clap.specs.Faults.{fault_of}
use Rattle.command_words.specs.Jobs.{Text, SearchRead, JobRead, Design, Check, Audit, Rewrite, Trial, Conflict, Spread, Total, Change, Steps, Compare, Lsas, Route, Help, Version}
use Rattle.wide_fraction.specs.SearchLimits.{SearchLimits}
use Rattle.command_words.specs.declared.job.CommandName.{CommandName}
use Rattle.command_words.specs.declared.job.CommandName.TheVariants as name
use Rattle.command_words.specs.declared.job.StepUnit.{StepUnit}
use Rattle.command_words.specs.declared.job.StepUnit.TheVariants.{Line, Router}

-- ---- the commands

-- the word that names a command
abbrev pub word_of : CommandName → Text
word_of name.Design = codes "design"
word_of name.Check = codes "check"
word_of name.Audit = codes "audit"
word_of name.Rewrite = codes "rewrite"
word_of name.Trial = codes "trial"
word_of name.Conflict = codes "conflict"
word_of name.Spread = codes "spread"
word_of name.Total = codes "total"
word_of name.Change = codes "change"
word_of name.Steps = codes "steps"
word_of name.Compare = codes "compare"
word_of name.Lsas = codes "lsas"
word_of name.Route = codes "route"
word_of name.Help = codes "help"
word_of name.Version = codes "version"

-- all commands
unfoldable pub commands : List CommandName
commands =
    name.Design
    ∷ name.Check
    ∷ name.Audit
    ∷ name.Rewrite
    ∷ name.Trial
    ∷ name.Conflict
    ∷ name.Spread
    ∷ name.Total
    ∷ name.Change
    ∷ name.Steps
    ∷ name.Compare
    ∷ name.Lsas
    ∷ name.Route
    ∷ name.Help
    ∷ name.Version
    ∷ []

-- the command that a word names
unfoldable pub command_named : Text → Option CommandName
command_named word = find (λ n. same_bytes (word_of n) word) commands

-- ---- the simple command of a row

-- the words that a command takes beside its options: none, one CONFIG, one or more, or a COMMAND that may be left out
pub data Operands : Type 0 where
  none : Operands
  config : Operands
  configs : Operands
  topic : Operands

-- an option `--NAME VALUE`, which must be given or may be
abbrev pub option : Bool → Text → Rule
option must name = record (new_rule name) { long = Some name; required = must }

-- the CONFIG word, which must be given
abbrev pub config_word : Rule
config_word = record (new_rule (codes "CONFIG")) { required = true }

-- one or more CONFIG words
abbrev pub config_words : Rule
config_words = record config_word { range = Some (record { start_inclusive = 1; end_inclusive = usize_max }) }

-- the COMMAND word, which may be left out
abbrev pub topic_word : Rule
topic_word = new_rule (codes "COMMAND")

-- the rules for the operands of a command
abbrev pub operand_rules : Operands → List Rule
operand_rules none = []
operand_rules config = config_word ∷ []
operand_rules configs = config_words ∷ []
operand_rules topic = topic_word ∷ []

-- the command with these rules, in their order
abbrev pub with_rules : App → List Rule → App
with_rules app rules = fold with_rule app rules

-- the command of this name with the options that must be given, those that may be, and its operands
abbrev pub command_of : Text → List Text → List Text → Operands → App
command_of name must may operands =
    with_rules (with_rules (with_rules (new_app name) (map (option true) must)) (map (option false) may)) (operand_rules operands)

-- ---- what the words give

-- what the simple command finds in the words
abbrev pub Found : Type 0
Found = List Row

-- the value of an option, or the one CONFIG word
abbrev pub option_value : Text → Found → Option Text
option_value name found = first_of name found

-- the CONFIG words in their order
abbrev pub configs_found : Found → Option (List Text)
configs_found found = all_of (codes "CONFIG") found

-- the number, where it is no less than `low`
abbrev pub from_low : ℕ → Option ℕ → Option ℕ
from_low low None = None
from_low low (Some n) = if nat_le low n then Some n else None

-- a number of 1 to 10 decimal digits, from `low` to `high`
abbrev pub number_between : ℕ → ℕ → Text → Option ℕ
number_between low high text = from_low low (number text high)

-- the number of an option that may be given, and what stands for it where it isn't
abbrev pub number_or : ℕ → ℕ → ℕ → Option Text → Option ℕ
number_or default low high None = Some default
number_or default low high (Some text) = number_between low high text

-- the whole of two parts, where each is there
abbrev pub of_two : {A B C : Type 0} → (A → B → C) → Option A → Option B → Option C
of_two whole (Some a) (Some b) = Some (whole a b)
of_two whole _ _ = None

-- the whole of three parts, where each is there
abbrev pub of_three : {A B C D : Type 0} → (A → B → C → D) → Option A → Option B → Option C → Option D
of_three whole (Some a) (Some b) (Some c) = Some (whole a b c)
of_three whole _ _ _ = None

-- the whole of five parts, where each is there
abbrev pub of_five : {A B C D E F : Type 0} → (A → B → C → D → E → F) →
    Option A → Option B → Option C → Option D → Option E → Option F
of_five whole (Some a) (Some b) (Some c) (Some d) (Some e) = Some (whole a b c d e)
of_five whole _ _ _ _ _ = None

-- the budget: `--nodes N` of 1 to 10,000,000, else 100,000
abbrev pub nodes_found : Found → Option ℕ
nodes_found found = number_or 100000 1 10000000 (option_value (codes "nodes") found)

-- the limits of a search: the budget; `--bits B` of 28 to 127, else 127
abbrev pub limits : Found → Option SearchLimits
limits found = of_two (λ nodes bits. record { nodes = nodes; top = 2 ^ bits - 1 })
    (nodes_found found) (number_or 127 28 127 (option_value (codes "bits") found))

-- the unit of steps that a word names: a cost line, or the cost lines of a router
abbrev pub unit_named : Text → Option StepUnit
unit_named word =
    if same_bytes word (codes "line") then Some Line
    else if same_bytes word (codes "router") then Some Router
    else None

-- what a step is: `--by line` or `--by router`, else a cost line
abbrev pub step_unit : Option Text → Option StepUnit
step_unit None = Some Line
step_unit (Some word) = unit_named word

-- what help is asked about: all commands, or the one that the word names
abbrev pub topic_of : Option Text → Option (Option CommandName)
topic_of None = Some None
topic_of (Some word) = option_map Some (command_named word)

-- a request file, the limits and the configurations
abbrev pub search_of : Found → Option SearchRead
search_of found = of_three (λ request limits configs. record { request = request; limits = limits; configs = configs })
    (option_value (codes "request") found) (limits found) (configs_found found)

-- `design`: a request file, limits and configurations
abbrev pub design_job : Found → Option JobRead
design_job found = option_map Design (search_of found)

-- `check`: a request file, an answer and configurations
abbrev pub check_job : Found → Option JobRead
check_job found = of_three Check (option_value (codes "request") found) (option_value (codes "answer") found) (configs_found found)

-- `audit`: a request file, the database of the running area where it's given, and configurations
abbrev pub audit_job : Found → Option JobRead
audit_job found = of_two (λ request configs. Audit request (option_value (codes "live") found) configs)
    (option_value (codes "request") found) (configs_found found)

-- `rewrite`: an answer and one configuration
abbrev pub rewrite_job : Found → Option JobRead
rewrite_job found = of_two Rewrite (option_value (codes "answer") found) (option_value (codes "CONFIG") found)

-- `trial`: `--blocks T` of 1 to 125, and `--start S` of 0 to 2147483647, or 1
abbrev pub trial_job : Found → Option JobRead
trial_job found = of_two Trial
    (option_and_then (number_between 1 125) (option_value (codes "blocks") found))
    (number_or 1 0 2147483647 (option_value (codes "start") found))

-- `conflict`: a request file, limits and configurations
abbrev pub conflict_job : Found → Option JobRead
conflict_job found = option_map Conflict (search_of found)

-- `spread`: a request file, a file of sets, limits and configurations
abbrev pub spread_job : Found → Option JobRead
spread_job found = of_two Spread (search_of found) (option_value (codes "sets") found)

-- `total`: a request file, limits and configurations
abbrev pub total_job : Found → Option JobRead
total_job found = option_map Total (search_of found)

-- `change`: a request file, limits and configurations
abbrev pub change_job : Found → Option JobRead
change_job found = option_map Change (search_of found)

-- `steps`: a request file, an answer, the budget, what a step is, and configurations
abbrev pub steps_job : Found → Option JobRead
steps_job found = of_five Steps (option_value (codes "request") found) (option_value (codes "answer") found)
    (nodes_found found) (step_unit (option_value (codes "by") found)) (configs_found found)

-- `compare`: the database of the running area, a request file and configurations
abbrev pub compare_job : Found → Option JobRead
compare_job found = of_three Compare (option_value (codes "live") found) (option_value (codes "request") found) (configs_found found)

-- `lsas`: a request file and configurations
abbrev pub lsas_job : Found → Option JobRead
lsas_job found = of_two Lsas (option_value (codes "request") found) (configs_found found)

-- `route`: a file of LSAs, and the router IDs of the two ends
abbrev pub route_job : Found → Option JobRead
route_job found = of_three Route (option_value (codes "lsas") found)
    (option_and_then quad (option_value (codes "from") found)) (option_and_then quad (option_value (codes "to") found))

-- `help`: about all commands, or one of them
abbrev pub help_job : Found → Option JobRead
help_job found = option_map Help (topic_of (option_value (codes "COMMAND") found))

-- ---- the table of commands

-- a row: a command, the options that must be given, those that may be, its operands, and its job
pub record CommandRow : Type 0 where
  pub name : CommandName
  pub must : List Text
  pub may : List Text
  pub operands : Operands
  pub job : Found → Option JobRead

-- a row of the command table
abbrev pub row : CommandName → List Text → List Text → Operands → (Found → Option JobRead) → CommandRow
row name must may operands job = record { name = name; must = must; may = may; operands = operands; job = job }

-- The table of commands, a row for each:
-- `design --request FILE [--nodes N] [--bits B] CONFIG..`
-- `check --request FILE --answer FILE CONFIG..`
-- `audit --request FILE [--live FILE] CONFIG..`
-- `rewrite --answer FILE CONFIG`
-- `trial --blocks T [--start S]`
-- `conflict --request FILE [--nodes N] [--bits B] CONFIG..`
-- `spread --request FILE --sets FILE [--nodes N] [--bits B] CONFIG..`
-- `total --request FILE [--nodes N] [--bits B] CONFIG..`
-- `change --request FILE [--nodes N] [--bits B] CONFIG..`
-- `steps --request FILE --answer FILE [--nodes N] [--by UNIT] CONFIG..`
-- `compare --live FILE --request FILE CONFIG..`
-- `lsas --request FILE CONFIG..`
-- `route --lsas FILE --from ID --to ID`
-- `help [COMMAND]`
-- `version`
abbrev pub row_of : CommandName → CommandRow
row_of name.Design = row name.Design (codes "request" ∷ []) (codes "nodes" ∷ codes "bits" ∷ []) configs design_job
row_of name.Check = row name.Check (codes "request" ∷ codes "answer" ∷ []) [] configs check_job
row_of name.Audit = row name.Audit (codes "request" ∷ []) (codes "live" ∷ []) configs audit_job
row_of name.Rewrite = row name.Rewrite (codes "answer" ∷ []) [] config rewrite_job
row_of name.Trial = row name.Trial (codes "blocks" ∷ []) (codes "start" ∷ []) none trial_job
row_of name.Conflict = row name.Conflict (codes "request" ∷ []) (codes "nodes" ∷ codes "bits" ∷ []) configs conflict_job
row_of name.Spread = row name.Spread (codes "request" ∷ codes "sets" ∷ []) (codes "nodes" ∷ codes "bits" ∷ []) configs spread_job
row_of name.Total = row name.Total (codes "request" ∷ []) (codes "nodes" ∷ codes "bits" ∷ []) configs total_job
row_of name.Change = row name.Change (codes "request" ∷ []) (codes "nodes" ∷ codes "bits" ∷ []) configs change_job
row_of name.Steps = row name.Steps (codes "request" ∷ codes "answer" ∷ []) (codes "nodes" ∷ codes "by" ∷ []) configs steps_job
row_of name.Compare = row name.Compare (codes "live" ∷ codes "request" ∷ []) [] configs compare_job
row_of name.Lsas = row name.Lsas (codes "request" ∷ []) [] configs lsas_job
row_of name.Route = row name.Route (codes "lsas" ∷ codes "from" ∷ codes "to" ∷ []) [] none route_job
row_of name.Help = row name.Help [] [] topic help_job
row_of name.Version = row name.Version [] [] none (λ _. Some Version)

-- ---- words

-- the simple command of a row, as `clap` reads it
abbrev pub app_of_row : CommandRow → App
app_of_row form = command_of (word_of form.name) form.must form.may form.operands

-- The simple command of a row takes the words behind the first, which `clap` passes over: no step of its reading
-- fails.
abbrev pub takes_words : CommandRow → List Text → Bool
takes_words form words = is_empty (fault_of (app_of_row form) words)

-- what the simple command of a row finds in the words behind the first
abbrev pub found_in : CommandRow → List Text → Found
found_in form words = matches_of (app_of_row form) words

-- the job of words whose first is the row's name
unfoldable pub job_of_row : CommandRow → List Text → Option JobRead
job_of_row form words = if takes_words form words then form.job (found_in form words) else None

-- the job that words ask for; None where they're off the table
unfoldable pub job_of : List Text → Option JobRead
job_of [] = None
job_of (command ∷ others) = option_and_then (λ n. job_of_row (row_of n) (command ∷ others)) (command_named command)
