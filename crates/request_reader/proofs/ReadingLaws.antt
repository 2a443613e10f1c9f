-- The statements of a request file, one after another.
use Rattle.std.specs.Prelude.{is_some, Result, Ok, Err, OnOk, IfErr}
use Rattle.std.specs.List.{cons_option}
use Rattle.std.specs.Option.{option_or}
use Rattle.std.proofs.Common.{◌≡◌, ℕ, ◌+◌, refl, sym, ◌∙◌, ap, subst, List, [], ◌∷◌, ◌++◌, length, true, false, Option, Some, None, append-nil}
use Rattle.std.proofs.lemmas.Bool.{cond-true, cond-false}
use Rattle.std.proofs.lemmas.List.Elements.{filter_map-append}
use Rattle.std.proofs.lemmas.Result.{on_ok_weaker, MatchResult-weaker}
use Rattle.cost_base.specs.Lists.{first_of}
use Rattle.cost_base.proofs.ListLemmas.{option_or-none, first_of-filter_map-push}
use Rattle.cost_base.specs.declared.refusal.Refusal.{Refusal}
use Rattle.cost_base.specs.declared.refusal.Refusal.TheVariants.{Refused as StopRefused, OutOfMemory}
use Rattle.text_lines.specs.Lines.{lines}
use Rattle.text_lines.specs.LineFaults.{FaultyLine, TellsFault, fault_at, fault_in_line}
use Rattle.text_lines.specs.Statements.{SaidLine, statements, text_fault, text_faults}
use Rattle.request_reader.specs.declared.DirectiveLine.{DirectiveLine}
use Rattle.request_reader.specs.declared.fault.RequestFault.{RequestFault}
use Rattle.request_reader.specs.declared.fault.RequestFault.TheVariants.{BadRequestLine}
use Rattle.request_reader.specs.declared.reading.statement.Statement.{Statement}
use Rattle.request_reader.specs.declared.reading.statement.Statement.TheVariants.{Area, DefaultCost, Ask, Refused}
use Rattle.request_reader.specs.Asked.{Asked}
use Rattle.request_reader.specs.ReadingLines.{request_statement_of}
use Rattle.request_reader.specs.Reading.{Told, area_in, default_cost_in, line_in, told_by, fault_said, request_rules, area_faults, request_fault, asked_of, asked_by}
use Rattle.request_reader.specs.ReadingSteps.{told_with}

-- what some statements say together, and one more in the line of number n
abbrev told_more : Told → ℕ → Statement → Told
told_more told n said = record {
  area = option_or told.area (area_in said);
  default_cost = option_or told.default_cost (default_cost_in said);
  items = told.items ++ cons_option (line_in n said) [];
}

told_push : (before : List SaidLine) (s : SaidLine) → told_by (before ++ s ∷ []) ≡ told_more (told_by before) s.line (request_statement_of s.words)
told_push before s =
    let area = first_of-filter_map-push (λ (t : SaidLine). area_in (request_statement_of t.words)) before s in
    let cost = first_of-filter_map-push (λ (t : SaidLine). default_cost_in (request_statement_of t.words)) before s in
    let items = filter_map-append (λ t. line_in t.line (request_statement_of t.words)) before (s ∷ []) in
    cc (area, cost, items)

-- a statement without a fault adds what it says
told_is : (area cost : Option ℕ) (items : List DirectiveLine) (n : ℕ) (said : Statement) →
    fault_said (record { area = area; default_cost = cost; items = items }) said ≡ None →
    told_with (record { area = area; default_cost = cost; items = items }) n said
    ≡ told_more (record { area = area; default_cost = cost; items = items }) n said
told_is (Some b) cost items n (Area a) none = absurd (cc)
told_is None cost items n (Area a) none = cc (option_or-none cost, append-nil items)
told_is area (Some b) items n (DefaultCost d) none = absurd (cc)
told_is area None items n (DefaultCost d) none = cc (option_or-none area, append-nil items)
told_is area cost items n (Ask directive) none = cc (option_or-none area, option_or-none cost)
told_is area cost items n (Refused fault) none = absurd (cc)

-- so what the statements say with one more is what they say together with it
pub told_next : (before : List SaidLine) (s : SaidLine) → fault_said (told_by before) (request_statement_of s.words) ≡ None →
    told_with (told_by before) s.line (request_statement_of s.words) ≡ told_by (before ++ s ∷ [])
told_next before s none =
    told_is (told_by before).area (told_by before).default_cost (told_by before).items s.line (request_statement_of s.words) none
    ∙ sym (told_push before s)

-- One statement, as `take` takes it.

-- two facts of what came well
both_ok : {T E : Type 0} (A B : Type 0) (r : Result T E) → OnOk r A → OnOk r B → OnOk r (A × B)
both_ok {T} {E} A B (Ok x) one other = (one, other)
both_ok {T} {E} A B (Err e) one other = tt

said_lawful : (told : Told) (said : Statement) (words : List (List ℕ)) → said ≡ request_statement_of words → fault_said told said ≡ None →
    (before : List SaidLine) → told ≡ told_by before → request_rules.fault_of before words ≡ None
said_lawful told said words is none before same =
    subst (λ (t : Told). fault_said t (request_statement_of words) ≡ None) same
    (subst (λ (s : Statement). fault_said told s ≡ None) is none)

said_told : (told after : Told) (n : ℕ) (said : Statement) (words : List (List ℕ)) → said ≡ request_statement_of words →
    (after ≡ told_with told n said) × (fault_said told said ≡ None) → (before : List SaidLine) → told ≡ told_by before →
    after ≡ told_by (before ++ record { line = n; words = words } ∷ [])
said_told told after n said words is (after_is, none) before same =
    after_is ∙ ap (λ (s : Statement). told_with told n s) is
    ∙ ap (λ (t : Told). told_with t n (request_statement_of words)) same
    ∙ told_next before (record { line = n; words = words }) (said_lawful told said words is none before same)

said_refused : (told : Told) (n : ℕ) (said : Statement) (words : List (List ℕ)) (refusal : Refusal RequestFault ℕ) →
    said ≡ request_statement_of words → TellsFault (fault_in_line n (fault_said told said)) refusal →
    (before : List SaidLine) → told ≡ told_by before → TellsFault (fault_in_line n (request_rules.fault_of before words)) refusal
said_refused told n said words refusal is tells before same =
    subst (λ (t : Told). TellsFault (fault_in_line n (fault_said t (request_statement_of words))) refusal) same
    (subst (λ (s : Statement). TellsFault (fault_in_line n (fault_said told s)) refusal) is tells)

pub taken_lawful : {T E : Type 0} (r : Result T E) (told : Told) (said : Statement) (words : List (List ℕ)) → said ≡ request_statement_of words →
    OnOk r (fault_said told said ≡ None) →
    OnOk r ((start : Told) (before : List SaidLine) → told ≡ told_by before → request_rules.fault_of before words ≡ None)
taken_lawful {T} {E} r told said words is none = on_ok_weaker r (λ n start before same. said_lawful told said words is n before same) none

pub taken_told : {T E : Type 0} (r : Result T E) (told after : Told) (n : ℕ) (said : Statement) (words : List (List ℕ)) →
    said ≡ request_statement_of words → OnOk r (after ≡ told_with told n said) → OnOk r (fault_said told said ≡ None) →
    OnOk r ((start : Told) (before : List SaidLine) → told ≡ told_by before → after ≡ told_by (before ++ record { line = n; words = words } ∷ []))
taken_told {T} {E} r told after n said words is after_is none =
    on_ok_weaker r (λ both start before same. said_told told after n said words is both before same) (both_ok _ _ r after_is none)

pub taken_refused : {T : Type 0} (r : Result T (Refusal RequestFault ℕ)) (told : Told) (n : ℕ) (said : Statement) (words : List (List ℕ)) →
    said ≡ request_statement_of words → IfErr r (TellsFault (fault_in_line n (fault_said told said))) →
    IfErr r (λ refusal. (start : Told) (before : List SaidLine) → told ≡ told_by before →
    TellsFault (fault_in_line n (request_rules.fault_of before words)) refusal)
taken_refused {T} r told n said words is tells =
    MatchResult-weaker r tells (λ _ t. t) (λ refusal t start before same. said_refused told n said words refusal is t before same)

-- The whole file, as `read_request_file` reads it.

-- where the text has no fault, the file's first fault is a missing area
fault_left : (faults others : List (FaultyLine RequestFault)) → first_of faults ≡ None → first_of (faults ++ others) ≡ first_of others
fault_left [] others none = refl
fault_left (fault ∷ faults) others none = absurd (cc)

pub read_made : (bytes : List ℕ) (told : Told) (asked : Asked) → text_fault request_rules bytes ≡ None →
    told ≡ told_by (statements (lines bytes)) → is_some told.area ≡ true → asked ≡ asked_of told →
    (request_fault bytes ≡ None) × (asked ≡ asked_by bytes)
read_made bytes told asked none is some asked_is = (
  fault_left (text_faults request_rules (lines bytes)) (area_faults (lines bytes)) none
      ∙ ap first_of (cond-true (is_some (told_by (statements (lines bytes))).area) [] (fault_at (length (lines bytes) + 1) BadRequestLine ∷ [])
      (ap (λ (t : Told). is_some t.area) (sym is) ∙ some)),
  asked_is ∙ ap asked_of is,
)

pub read_missing : (bytes : List ℕ) (told : Told) (count : ℕ) (refusal : Refusal RequestFault ℕ) → text_fault request_rules bytes ≡ None →
    told ≡ told_by (statements (lines bytes)) → count ≡ length (lines bytes) → is_some told.area ≡ false →
    TellsFault (Some (fault_at (count + 1) BadRequestLine)) refusal → TellsFault (request_fault bytes) refusal
read_missing bytes told count refusal none is count_is missing tells =
    subst (λ (o : Option (FaultyLine RequestFault)). TellsFault o refusal)
    (sym (fault_left (text_faults request_rules (lines bytes)) (area_faults (lines bytes)) none
    ∙ ap first_of (cond-false (is_some (told_by (statements (lines bytes))).area) [] (fault_at (length (lines bytes) + 1) BadRequestLine ∷ [])
    (ap (λ (t : Told). is_some t.area) (sym is) ∙ missing))
    ∙ ap (λ (n : ℕ). Some (fault_at (n + 1) BadRequestLine)) (sym count_is)))
    tells

-- a text that is refused has that fault
pub read_refused : (bytes : List ℕ) (refusal : Refusal RequestFault ℕ) → TellsFault (text_fault request_rules bytes) refusal →
    TellsFault (request_fault bytes) refusal
read_refused bytes refusal tells = first_stays (text_faults request_rules (lines bytes)) (area_faults (lines bytes)) refusal tells
  where
    first_stays : (faults others : List (FaultyLine RequestFault)) (refusal : Refusal RequestFault ℕ) → TellsFault (first_of faults) refusal →
        TellsFault (first_of (faults ++ others)) refusal
    first_stays (fault ∷ faults) others refusal tells = tells
    first_stays [] others OutOfMemory tells = tt
    first_stays [] others (StopRefused fault line) tells = absurd (cc)
