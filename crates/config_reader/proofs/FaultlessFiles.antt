-- The faults of a file line by line.
use Rattle.std.proofs.Common.{◌≡◌, ℕ, ◌+◌, List, [], ◌∷◌, ◌++◌, length, take, get_or, Bool, cond, true, false, not, refl, sym, ap, ◌∙◌, arith, Option, Some, None, All, append-nil, append_assoc, length-append}
use Rattle.std.specs.Prelude.{◌==◌, nat_lt}
use Rattle.std.specs.List.{filter_map, flat_map}
use Rattle.std.proofs.lemmas.Bool.{and_right}
use Rattle.std.proofs.lemmas.List.{get_or_at, take_at}
use Rattle.std.proofs.lemmas.List.Elements.{All-nil, All-cons, All-head, All-tail}
use Rattle.cost_base.specs.Lists.{numbers_from, first_of}
use Rattle.cost_base.proofs.ListLemmas.{append-none, none_first}
use Rattle.text_lines.specs.Lines.{words, kind_of}
use Rattle.config_reader.specs.declared.fault.ConfigFault.{ConfigFault}
use Rattle.config_reader.specs.declared.fault.ConfigFault.TheVariants.{LongLine, BadName}
use Rattle.config_reader.specs.Statements.{Statement, Block, Network}
use Rattle.config_reader.specs.Settings.{Said, said, said_at_place, networks_said}
use Rattle.config_reader.specs.Configs.{first_heads}
use Rattle.config_reader.specs.RouterNames.{router_name_said, is_router_name}
use Rattle.config_reader.specs.FaultList.{Fault, at_line, long_line, is_short, read_line, read_lines, refused, second_address, area_twice, bad_name, faults_of_place, faults}
use Rattle.config_reader.specs.Reading.{open_block}
use Rattle.config_reader.specs.Drafting.{earliest, name_fault, name_from}
use Rattle.config_reader.specs.Hearing.{heard}
use Rattle.config_reader.proofs.SaidSteps.{said_after, said-push, said_at-append, last_said}
use Rattle.config_reader.proofs.WholeFaults.{faults_law, named_law, length-said}
use Rattle.config_reader.proofs.FineLines.{block_by, statement_by, after_block, after_statement, AllFine}

pub one_more : (xs : List (List ℕ)) (x : List ℕ) → length (xs ++ x ∷ []) ≡ length xs + 1
one_more xs x = length-append xs (x ∷ [])

-- five faults of a line, none of which comes
five_none : (n : ℕ) (o p q r s : Option ConfigFault) → filter_map (at_line n) (o ∷ p ∷ q ∷ r ∷ s ∷ []) ≡ [] →
    (o ≡ None) × (p ≡ None) × (q ≡ None) × (r ≡ None) × (s ≡ None)
five_none n (Some x) p q r s e = absurd (cc)
five_none n None (Some x) q r s e = absurd (cc)
five_none n None None (Some x) r s e = absurd (cc)
five_none n None None None (Some x) s e = absurd (cc)
five_none n None None None None (Some x) e = absurd (cc)
five_none n None None None None None e = (refl, refl, refl, refl, refl)

none_five : (n : ℕ) (o p q r s : Option ConfigFault) → o ≡ None → p ≡ None → q ≡ None → r ≡ None → s ≡ None →
    filter_map (at_line n) (o ∷ p ∷ q ∷ r ∷ s ∷ []) ≡ []
none_five n o p q r s a b c d e =
    ap (λ x. filter_map (at_line n) (x ∷ p ∷ q ∷ r ∷ s ∷ [])) a
    ∙ ap (λ x. filter_map (at_line n) (None ∷ x ∷ q ∷ r ∷ s ∷ [])) b
    ∙ ap (λ x. filter_map (at_line n) (None ∷ None ∷ x ∷ r ∷ s ∷ [])) c
    ∙ ap (λ x. filter_map (at_line n) (None ∷ None ∷ None ∷ x ∷ s ∷ [])) d
    ∙ ap (λ x. filter_map (at_line n) (None ∷ None ∷ None ∷ None ∷ x ∷ [])) e

said_front : (more front : List (List ℕ)) → (tail : List Said) × (said (front ++ more) ≡ said front ++ tail)
said_front [] front = ([], ap said (append-nil front) ∙ sym (append-nil (said front)))
said_front (line ∷ more) front =
    let next = said_front more (front ++ line ∷ []) in (
      said_after front line ∷ next.0,
      ap said (sym (append_assoc front (line ∷ []) more))
          ∙ next.1
          ∙ ap (λ all. all ++ next.0) (said-push front line)
          ∙ append_assoc (said front) (said_after front line ∷ []) next.0,
    )

said_before : (file front more : List (List ℕ)) → file ≡ front ++ more → take (length front) (said file) ≡ said front
said_before file front more split =
    let parts = said_front more front in
    ap (λ f. take (length front) (said f)) split
    ∙ ap (take (length front)) parts.1
    ∙ take_at (said front) parts.0 (length front) (length-said front)

said_here : (file front : List (List ℕ)) (line : List ℕ) (rest : List (List ℕ)) → file ≡ front ++ line ∷ rest →
    said_at_place file (length front) ≡ said_after front line
said_here file front line rest split =
    ap (λ f. said_at_place f (length front)) (split ∙ sym (append_assoc front (line ∷ []) rest))
    ∙ said_at-append (front ++ line ∷ []) rest (length front) (omega (arith, length-append front (line ∷ [])))
    ∙ last_said front line

-- the lines as they are read, where none is too long
read_same : (file : List (List ℕ)) → All (λ line. is_short line ≡ true) file → read_lines file ≡ file
read_same [] short = refl
read_same (line ∷ rest) short =
    let here : read_line line ≡ line = ap (λ b. cond b line []) (All-head (λ l. is_short l ≡ true) line rest short) in
    let others : read_lines rest ≡ rest = read_same rest (All-tail (λ l. is_short l ≡ true) line rest short) in
    ap (λ l. l ∷ read_lines rest) here ∙ ap (λ ls. line ∷ ls) others

short_by : (b : Bool) → cond b None (Some LongLine) ≡ None → b ≡ true
short_by true e = refl
short_by false e = absurd (cc)

module _ (file_name : List ℕ) (file : List (List ℕ)) where
  -- the faults of a line, read from these lines
  abbrev line_faults : List (List ℕ) → ℕ → List ℕ → List Fault
  line_faults read i line =
      filter_map (at_line (i + 1)) (
      long_line line
      ∷ refused (said_at_place read i).statement
      ∷ second_address (said read) (said_at_place read i).block (said_at_place read i).statement
      ∷ area_twice (said read) (first_heads read) (networks_said (take i (said read))) (said_at_place read i).block (said_at_place read i).statement
      ∷ bad_name (router_name_said file_name read) (i + 1)
      ∷ []
      )

  no_long : (rest front : List (List ℕ)) → file ≡ front ++ rest →
      flat_map (faults_of_place file_name file) (numbers_from (length front) (length rest)) ≡ [] →
      All (λ line. is_short line ≡ true) rest
  no_long [] front split none = All-nil (λ l. is_short l ≡ true)
  no_long (line ∷ rest) front split none =
      let parts = append-none (faults_of_place file_name file (length front))
      (flat_map (faults_of_place file_name file) (numbers_from (length front + 1) (length rest))) none in
      let read = read_lines file in
      let i = length front in
      let here =
      five_none (i + 1) (long_line (get_or file i [])) (refused (said_at_place read i).statement)
      (second_address (said read) (said_at_place read i).block (said_at_place read i).statement)
      (area_twice (said read) (first_heads read) (networks_said (take i (said read))) (said_at_place read i).block
      (said_at_place read i).statement) (bad_name (router_name_said file_name read) (i + 1)) parts.0 in
      let is : get_or file i [] ≡ line = ap (λ f. get_or f i []) split ∙ get_or_at front line rest [] i refl in
      All-cons (λ l. is_short l ≡ true) line rest (short_by (is_short line) (ap long_line (sym is) ∙ here.0))
      (no_long rest (front ++ line ∷ []) (split ∙ sym (append_assoc front (line ∷ []) rest))
      (ap (λ n. flat_map (faults_of_place file_name file) (numbers_from n (length rest))) (one_more front line)
      ∙ parts.1))

  module _ (same : read_lines file ≡ file) where
    -- the faults of a line behind others
    here_faults : (front : List (List ℕ)) (line : List ℕ) (rest : List (List ℕ)) → file ≡ front ++ line ∷ rest →
        faults_of_place file_name file (length front)
        ≡ filter_map (at_line (length front + 1)) (
        long_line line
        ∷ refused (statement_by (kind_of line) (open_block front) (words line))
        ∷ second_address (said file) (block_by (kind_of line) (open_block front)) (statement_by (kind_of line) (open_block front) (words line))
        ∷ area_twice (said file) (first_heads file) (networks_said (said front)) (block_by (kind_of line) (open_block front))
        (statement_by (kind_of line) (open_block front) (words line))
        ∷ bad_name (router_name_said file_name file) (length front + 1)
        ∷ []
        )
    here_faults front line rest split =
        ap (λ read. line_faults read (length front) (get_or file (length front) [])) same
        ∙ ap (line_faults file (length front)) (ap (λ f. get_or f (length front) []) split ∙ get_or_at front line rest [] (length front) refl)
        ∙ ap (λ (s : Said). five (take (length front) (said file)) s.block s.statement) (said_here file front line rest split)
        ∙ ap (λ before. five before (said_after front line).block (said_after front line).statement) (said_before file front (line ∷ rest) split)
        ∙ ap (λ block. five (said front) block (said_after front line).statement) (after_block front line)
        ∙ ap (five (said front) (block_by (kind_of line) (open_block front))) (after_statement front line)
      where
        five : List Said → Block → Statement → List Fault
        five before block statement =
            filter_map (at_line (length front + 1)) (
            long_line line
            ∷ refused statement
            ∷ second_address (said file) block statement
            ∷ area_twice (said file) (first_heads file) (networks_said before) block statement
            ∷ bad_name (router_name_said file_name file) (length front + 1)
            ∷ []
            )

    -- without faults each line is fine
    fine_from : (rest front : List (List ℕ)) → file ≡ front ++ rest →
        flat_map (faults_of_place file_name file) (numbers_from (length front) (length rest)) ≡ [] →
        AllFine (second_address (said file)) (area_twice (said file) (first_heads file)) front rest
    fine_from [] front split none = tt
    fine_from (line ∷ rest) front split none =
        let parts = append-none (faults_of_place file_name file (length front))
        (flat_map (faults_of_place file_name file) (numbers_from (length front + 1) (length rest))) none in
        let here =
        five_none (length front + 1) (long_line line) (refused (statement_by (kind_of line) (open_block front) (words line)))
        (second_address (said file) (block_by (kind_of line) (open_block front)) (statement_by (kind_of line) (open_block front) (words line)))
        (area_twice (said file) (first_heads file) (networks_said (said front)) (block_by (kind_of line) (open_block front))
        (statement_by (kind_of line) (open_block front) (words line)))
        (bad_name (router_name_said file_name file) (length front + 1)) (sym (here_faults front line rest split) ∙ parts.0) in (
          record { short = short_by (is_short line) here.0; own = here.1; address = here.2; area = here.3 },
          fine_from rest (front ++ line ∷ []) (split ∙ sym (append_assoc front (line ∷ []) rest))
              (ap (λ n. flat_map (faults_of_place file_name file) (numbers_from n (length rest))) (one_more front line)
              ∙ parts.1),
        )

    good_name : is_router_name (router_name_said file_name file).0 ≡ true → (n : ℕ) → bad_name (router_name_said file_name file) n ≡ None
    good_name good n = ap (λ b. cond b (Some BadName) None)
        (and_right ((router_name_said file_name file).1 == n) (not (is_router_name (router_name_said file_name file).0))
        (ap not good))

    -- where each line is fine there are no faults
    none_from : is_router_name (router_name_said file_name file).0 ≡ true → (rest front : List (List ℕ)) → file ≡ front ++ rest →
        AllFine (second_address (said file)) (area_twice (said file) (first_heads file)) front rest →
        flat_map (faults_of_place file_name file) (numbers_from (length front) (length rest)) ≡ []
    none_from good [] front split all = refl
    none_from good (line ∷ rest) front split all =
        ap (λ found. found ++ flat_map (faults_of_place file_name file) (numbers_from (length front + 1) (length rest)))
        (here_faults front line rest split
        ∙ none_five (length front + 1) (long_line line) (refused (statement_by (kind_of line) (open_block front) (words line)))
        (second_address (said file) (block_by (kind_of line) (open_block front)) (statement_by (kind_of line) (open_block front) (words line)))
        (area_twice (said file) (first_heads file) (networks_said (said front)) (block_by (kind_of line) (open_block front))
        (statement_by (kind_of line) (open_block front) (words line)))
        (bad_name (router_name_said file_name file) (length front + 1))
        (ap (λ b. cond b None (Some LongLine)) all.0.short) all.0.own all.0.address all.0.area (good_name good (length front + 1)))
        ∙ ap (λ n. flat_map (faults_of_place file_name file) (numbers_from n (length rest))) (sym (one_more front line))
        ∙ none_from good rest (front ++ line ∷ []) (split ∙ sym (append_assoc front (line ∷ []) rest)) all.1

later_none : (a b : Option Fault) → earliest a b ≡ None → b ≡ None
later_none None b e = e
later_none (Some x) None e = refl
later_none (Some x) (Some y) e = cases (nat_lt y.line x.line) e
  where
    cases : (p : Bool) → cond p (Some y) (Some x) ≡ None → Some y ≡ None
    cases true e = e
    cases false e = absurd (cc)

name_by : (b : Bool) (x : Fault) → cond b None (Some x) ≡ None → b ≡ true
name_by true x e = refl
name_by false x e = absurd (cc)

-- what holds of a file without a fault
pub record Faultless (file_name : List ℕ) (file : List (List ℕ)) : Type 0 where
  pub fine : AllFine (second_address (said file)) (area_twice (said file) (first_heads file)) [] file
  pub name : is_router_name (router_name_said file_name file).0 ≡ true

pub faultless : (file_name : List ℕ) (file : List (List ℕ)) → first_of (faults file_name file) ≡ None → Faultless file_name file
faultless file_name file none = record { fine = fine_from file_name file same file [] refl lines; name = name }
  where
    parts : (filter_map (at_line 0) (bad_name (router_name_said file_name (read_lines file)) 0 ∷ []) ≡ [])
        × (flat_map (faults_of_place file_name file) (numbers_from 0 (length file)) ≡ [])
    parts = append-none (filter_map (at_line 0) (bad_name (router_name_said file_name (read_lines file)) 0 ∷ []))
        (flat_map (faults_of_place file_name file) (numbers_from 0 (length file))) (none_first (faults file_name file) none)

    lines : flat_map (faults_of_place file_name file) (numbers_from 0 (length file)) ≡ []
    lines = parts.1

    same : read_lines file ≡ file
    same = read_same file (no_long file_name file file [] refl lines)

    name : is_router_name (router_name_said file_name file).0 ≡ true
    name =
        ap (λ f. is_router_name (router_name_said file_name f).0) (sym same)
        ∙ ap (λ (p : List ℕ × ℕ). is_router_name p.0) (sym (named_law file_name file))
        ∙ name_by (is_router_name (name_from file_name (heard file).hostname).0) _
        (later_none _ (name_fault (name_from file_name (heard file).hostname)) (faults_law file_name file ∙ none))

pub short_all : (second : Block → Statement → Option ConfigFault) (twice : List Network → Block → Statement →
    Option ConfigFault) (rest front : List (List ℕ)) → AllFine second twice front rest →
    All (λ line. is_short line ≡ true) rest
short_all second twice [] front all = All-nil (λ l. is_short l ≡ true)
short_all second twice (line ∷ rest) front all =
    All-cons (λ l. is_short l ≡ true) line rest all.0.short (short_all second twice rest (front ++ line ∷ []) all.1)

pub no_faults : (file_name : List ℕ) (file : List (List ℕ)) → Faultless file_name file → first_of (faults file_name file) ≡ None
no_faults file_name file fine =
    ap first_of
    (ap (λ read. filter_map (at_line 0) (bad_name (router_name_said file_name read) 0 ∷ [])
    ++ flat_map (faults_of_place file_name file) (numbers_from 0 (length file))) same
    ∙ ap (λ o. filter_map (at_line 0) (o ∷ []) ++ flat_map (faults_of_place file_name file) (numbers_from 0 (length file)))
    (good_name file_name file same fine.name 0)
    ∙ none_from file_name file same fine.name file [] refl fine.fine)
  where
    same : read_lines file ≡ file
    same = read_same file (short_all (second_address (said file)) (area_twice (said file) (first_heads file)) file [] fine.fine)
