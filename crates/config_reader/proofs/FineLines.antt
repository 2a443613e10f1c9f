-- The block and the statement of a line behind others, and lines without faults.
use Rattle.std.proofs.Common.{◌≡◌, ℕ, ◌+◌, List, [], ◌∷◌, ◌++◌, length, true, refl, sym, subst, Option, None, append-nil, append_assoc}
use Rattle.text_lines.specs.Lines.{words, kind_of}
use Rattle.text_lines.specs.declared.LineKind.{LineKind}
use Rattle.text_lines.specs.declared.LineKind.TheVariants.{Blank, Comment, Head, Indented}
use Rattle.config_reader.specs.declared.fault.ConfigFault.{ConfigFault}
use Rattle.config_reader.specs.Statements.{Statement, Unread, Network, Block, OfOther, statement_in, head_statement}
use Rattle.config_reader.specs.Settings.{said, said_by, networks_said}
use Rattle.config_reader.specs.FaultList.{is_short, refused}
use Rattle.config_reader.specs.Reading.{open_block}
use Rattle.config_reader.proofs.SaidSteps.{said_after}

-- the block and the statement of a line, by its kind and the open block
abbrev pub block_by : LineKind → Block → Block
block_by Indented block = block
block_by _ block = OfOther

abbrev pub statement_by : LineKind → Block → List (List ℕ) → Statement
statement_by Indented block ws = statement_in block ws
statement_by Head block ws = head_statement ws
statement_by _ block ws = Unread

pub after_block : (file : List (List ℕ)) (line : List ℕ) → (said_after file line).block ≡ block_by (kind_of line) (open_block file)
after_block file line = cases (kind_of line)
  where
    cases : (kind : LineKind) → (said_by kind (length file + 1) (open_block file) (words line)).block ≡ block_by kind (open_block file)
    cases Blank = refl
    cases Comment = refl
    cases Head = refl
    cases Indented = refl

pub after_statement : (file : List (List ℕ)) (line : List ℕ) → (said_after file line).statement ≡ statement_by (kind_of line) (open_block file) (words line)
after_statement file line = cases (kind_of line)
  where
    cases : (kind : LineKind) → (said_by kind (length file + 1) (open_block file) (words line)).statement ≡ statement_by kind (open_block file) (words line)
    cases Blank = refl
    cases Comment = refl
    cases Head = refl
    cases Indented = refl

module _ (second : Block → Statement → Option ConfigFault) (twice : List Network → Block → Statement → Option ConfigFault) where
  -- a line without faults behind others, by tests of second addresses and of second areas
  pub record LineFine (front : List (List ℕ)) (line : List ℕ) : Type 0 where
    pub short : is_short line ≡ true
    pub own : refused (statement_by (kind_of line) (open_block front) (words line)) ≡ None
    pub address : second (block_by (kind_of line) (open_block front)) (statement_by (kind_of line) (open_block front) (words line)) ≡ None
    pub area : twice (networks_said (said front)) (block_by (kind_of line) (open_block front)) (statement_by (kind_of line) (open_block front) (words line)) ≡
        None

  abbrev pub AllFine : List (List ℕ) → List (List ℕ) → Type 0
  AllFine front [] = Unit {0}
  AllFine front (line ∷ rest) = LineFine front line × AllFine (front ++ line ∷ []) rest

  -- one more line without faults
  pub all_push : (front rest : List (List ℕ)) (line : List ℕ) → AllFine front rest → LineFine (front ++ rest) line → AllFine front (rest ++ line ∷ [])
  all_push front [] line all fine = (subst (λ file. LineFine file line) (append-nil front) fine, tt)
  all_push front (x ∷ rest) line all fine = (
    all.0,
    all_push (front ++ x ∷ []) rest line all.1
        (subst (λ file. LineFine file line) (sym (append_assoc front (x ∷ []) rest)) fine),
  )
