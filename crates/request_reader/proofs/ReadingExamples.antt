-- Request files, read and refused.
use Rattle.std.proofs.Common.{◌≡◌, ℕ, refl, List, [], ◌∷◌}
use Rattle.std.specs.Prelude.{Option, Some, None, codes}
use Rattle.text_lines.specs.Lines.{with_ends, words}
use Rattle.text_lines.specs.Statements.{said_words}
use Rattle.text_lines.specs.LineFaults.{FaultyLine}
use Rattle.request_reader.specs.declared.Excluded.TheVariants.{Router, Interface}
use Rattle.request_reader.specs.declared.Directive.TheVariants.{FreeAll, Free, Fix, Path, SymmetricAll, Symmetric}
use Rattle.request_reader.specs.declared.fault.RequestFault.{RequestFault}
use Rattle.request_reader.specs.declared.fault.RequestFault.TheVariants.{BadRequestLine, BadBounds}
use Rattle.request_reader.specs.declared.reading.statement.Statement.{Statement}
use Rattle.request_reader.specs.declared.reading.statement.Statement.TheVariants.{Ask, Refused}
use Rattle.request_reader.specs.ReadingLines.{request_statement_of}
use Rattle.request_reader.specs.Reading.{asked_by, request_fault}

abbrev with_head : List (List ℕ) → List ℕ
with_head ls = with_ends (codes "ospfcost request 1" ∷ codes "area 0" ∷ ls)

abbrev refused : RequestFault → ℕ → Option (FaultyLine RequestFault)
refused fault line = Some (record { fault = fault; line = line })

-- what a line says as a statement
abbrev said : List ℕ → Statement
said line = request_statement_of (words line)

-- one line of each kind
abbrev each_kind : List ℕ
each_kind = with_ends (
    codes "# costs" ∷ [] ∷ codes "ospfcost request 1" ∷ codes " default-cost 010" ∷ codes "area 0.0.0.7" ∷ codes "free all 1 9"
    ∷ codes "free R eth0:1 2 3" ∷ codes "fix R eth1" ∷ codes "! both ends" ∷ codes "symmetric all" ∷ codes "symmetric R eth0"
    ∷ codes "path R:eth0:1 S" ∷ codes "path R without S T:eth0" ∷ [])

each_kind_asks : asked_by each_kind ≡ record {
  area = 7;
  default_cost = Some 10;
  items = record { line = 6; what = FreeAll 1 9 }
      ∷ record { line = 7; what = Free (codes "R") (codes "eth0:1") 2 3 }
      ∷ record { line = 8; what = Fix (codes "R") (codes "eth1") }
      ∷ record { line = 10; what = SymmetricAll }
      ∷ record { line = 11; what = Symmetric (codes "R") (codes "eth0") }
      ∷ record { line = 12; what = Path (record { hops = (codes "R", codes "eth0:1") ∷ []; last = codes "S" }) [] }
      ∷ record { line = 13; what = Path (record { hops = []; last = codes "R" }) (Router (codes "S") ∷ Interface (codes "T") (codes "eth0") ∷ []) } ∷ [];
}
each_kind_asks = refl

each_kind_lawful : request_fault each_kind ≡ None
each_kind_lawful = refl

-- a missing header or area
empty_refused : request_fault [] ≡ refused BadRequestLine 1
empty_refused = refl

header_alone : request_fault (with_ends (codes "ospfcost request 1" ∷ [])) ≡ refused BadRequestLine 2
header_alone = refl

other_header : request_fault (with_ends (codes "" ∷ codes "area 0" ∷ [])) ≡ refused BadRequestLine 2
other_header = refl

-- a second area, and a second header
second_area : request_fault (with_head (codes "area 0" ∷ [])) ≡ refused BadRequestLine 3
second_area = refl

second_header : request_fault (with_head (codes "ospfcost request 1" ∷ [])) ≡ refused BadRequestLine 3
second_header = refl

-- the first of two faults
first_of_two : request_fault (with_head (codes "free all 0 5" ∷ codes "free all" ∷ [])) ≡ refused BadBounds 3
first_of_two = refl

-- bounds
too_high : said (codes "free all 1 65536") ≡ Refused BadBounds
too_high = refl

crossed : said (codes "free R eth0 3 2") ≡ Refused BadBounds
crossed = refl

ten_digits : said (codes "free all 1 0000000009") ≡ Refused BadRequestLine
ten_digits = refl

router_all : said (codes "free all 1 2 3") ≡ Ask (Free (codes "all") (codes "1") 2 3)
router_all = refl

wrong_word_first : said (codes "free R:eth0 eth0 0 5") ≡ Refused BadRequestLine
wrong_word_first = refl

-- words behind `without`
without_nothing : said (codes "path A:eth0 B without") ≡ Refused BadRequestLine
without_nothing = refl

router_without : said (codes "path without") ≡ Ask (Path (record { hops = []; last = codes "without" }) [])
router_without = refl

ends_at_without : said (codes "path A:eth0 without") ≡ Refused BadRequestLine
ends_at_without = refl

empty_part : said (codes "path A without :eth0") ≡ Refused BadRequestLine
empty_part = refl

comment_passed : said_words (words (codes "  #area 0")) ≡ []
comment_passed = refl
