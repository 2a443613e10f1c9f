-- What a request file asks for, and its faults.
use Rattle.std.specs.Prelude.{ℕ, ◌+◌, List, [], ◌∷◌, ◌++◌, ◌&&◌, nat_le, if◌then◌else◌, Option, Some, None, length, codes, count_by, is_some, unwrap_or}
use Rattle.std.specs.List.{filter_map}
use Rattle.cost_base.specs.Lists.{first_of}
use Rattle.text_lines.specs.Lines.{lines}
use Rattle.text_lines.specs.LineFaults.{FaultyLine, fault_at}
use Rattle.text_lines.specs.Statements.{SaidLine, TextRules, statements, text_faults}
use Rattle.request_reader.specs.declared.DirectiveLine.{DirectiveLine}
use Rattle.request_reader.specs.declared.fault.RequestFault.{RequestFault}
use Rattle.request_reader.specs.declared.fault.RequestFault.TheVariants.{BadRequestLine, TooManyPaths}
use Rattle.request_reader.specs.declared.reading.statement.Statement.{Statement}
use Rattle.request_reader.specs.declared.reading.statement.Statement.TheVariants.{Area, DefaultCost, Ask, Refused}
use Rattle.request_reader.specs.Asked.{Asked, is_path, is_path_directive}
use Rattle.request_reader.specs.ReadingLines.{request_statement_of}

-- the area of an `area` line
abbrev pub area_in : Statement → Option ℕ
area_in (Area a) = Some a
area_in _ = None

-- the cost of a `default-cost` line
abbrev pub default_cost_in : Statement → Option ℕ
default_cost_in (DefaultCost n) = Some n
default_cost_in _ = None

-- what the line of number n asks for, if it is neither an area nor a default cost
abbrev pub line_in : ℕ → Statement → Option DirectiveLine
line_in n (Ask directive) = Some (record { line = n; what = directive })
line_in n _ = None

-- what some statements say together: the first area, the first default cost, and what they ask for
pub record Told : Type 0 where
  pub area : Option ℕ
  pub default_cost : Option ℕ
  pub items : List DirectiveLine

-- what these statements say together
abbrev pub told_by : List SaidLine → Told
told_by before = record {
  area = first_of (filter_map (λ s. area_in (request_statement_of s.words)) before);
  default_cost = first_of (filter_map (λ s. default_cost_in (request_statement_of s.words)) before);
  items = filter_map (λ s. line_in s.line (request_statement_of s.words)) before;
}

-- the fault of a statement behind those that say these things: a second area or default cost, a path too many, or its
-- own
abbrev pub fault_said : Told → Statement → Option RequestFault
fault_said told (Area a) = if is_some told.area then Some BadRequestLine else None
fault_said told (DefaultCost n) = if is_some told.default_cost then Some BadRequestLine else None
fault_said told (Ask directive) = if is_path_directive directive && nat_le 10000 (count_by is_path told.items) then Some TooManyPaths else None
fault_said told (Refused fault) = Some fault

-- what a request file goes by: its header is `ospfcost request 1`
abbrev pub request_rules : TextRules RequestFault
request_rules = record {
  kind = codes "request";
  bad_line = BadRequestLine;
  fault_of = λ before words. fault_said (told_by before) (request_statement_of words);
}

-- the fault of a text that says no area, as of one that has no header: it stands behind the last line
abbrev pub area_faults : List (List ℕ) → List (FaultyLine RequestFault)
area_faults file = if is_some (told_by (statements file)).area then [] else fault_at (length file + 1) BadRequestLine ∷ []

-- the faults of a request file, in the order of its lines
abbrev pub request_faults : List (List ℕ) → List (FaultyLine RequestFault)
request_faults file = text_faults request_rules file ++ area_faults file

-- the fault for which a request file is refused
abbrev pub request_fault : List ℕ → Option (FaultyLine RequestFault)
request_fault bytes = first_of (request_faults (lines bytes))

-- what statements ask for that say these things; without an area line the area is 0
abbrev pub asked_of : Told → Asked
asked_of told = record { area = unwrap_or told.area 0; default_cost = told.default_cost; items = told.items }

-- what a request file without a fault asks for
abbrev pub asked_by : List ℕ → Asked
asked_by bytes = asked_of (told_by (statements (lines bytes)))
