-- The statements of a file of sets, one after another.
use Rattle.std.specs.Prelude.{Result, OnOk, IfErr}
use Rattle.std.specs.List.{cons_option, AllZip}
use Rattle.std.proofs.Common.{◌≡◌, ℕ, refl, sym, ◌∙◌, ap, subst, List, [], ◌∷◌, ◌++◌, Bool, Option, Some, None, append-nil}
use Rattle.std.proofs.lemmas.List.Elements.{filter_map-append, AllZip-push}
use Rattle.std.proofs.lemmas.Result.{on_ok_weaker, MatchResult-weaker}
use Rattle.cost_base.specs.declared.refusal.Refusal.{Refusal}
use Rattle.text_lines.specs.Lines.{lines}
use Rattle.text_lines.specs.LineFaults.{FaultyLine, TellsFault, fault_in_line}
use Rattle.text_lines.specs.Statements.{SaidLine, statements, text_fault}
use Rattle.design_problem.specs.declared.problem.Request.{Request}
use Rattle.design_problem.specs.Problems.{DesignProblem}
use Rattle.set_reader.specs.declared.fault.SetFault.{SetFault}
use Rattle.set_reader.specs.declared.reading.statement.Statement.{Statement}
use Rattle.set_reader.specs.declared.reading.statement.Statement.TheVariants.{Numbers, Off}
use Rattle.set_reader.specs.SetLines.{numbers_of_set, set_statement_of}
use Rattle.set_reader.specs.SpreadSets.{AreSetsOf}
use Rattle.set_reader.specs.Reading.{IsInOrder, AreSaid, sets_told_by, wrong_if, set_fault_said, set_rules, set_fault}
use Rattle.set_reader.specs.ReadingSteps.{SoFar, AddsSet, TakesStatement, HasTaken}
use Rattle.set_reader.proofs.SetLaws.{wrong_alike}

-- the sets of the statements and of one more, each in rising order
orders_push : (numbers : Option (List ℕ)) (said sets after : List (List ℕ)) → AllZip IsInOrder said sets →
    AddsSet numbers sets after → AllZip IsInOrder (said ++ cons_option numbers []) after
orders_push None said sets after orders adds = rw (adds, append-nil said) orders
orders_push (Some numbers) said sets after orders adds = rw adds.2 (AllZip-push IsInOrder said sets numbers adds.0 orders adds.1)

-- sets in rising order make the same faults
faults_alike : (requests : List Request) (said sets : List (List ℕ)) (statement : Statement) → AllZip IsInOrder said sets →
    set_fault_said requests said statement ≡ set_fault_said requests sets statement
faults_alike requests said sets Off orders = refl
faults_alike requests said sets (Numbers numbers) orders = ap (λ (b : Bool). wrong_if b) (wrong_alike requests said sets numbers orders)

-- One statement, as `take` takes it.

-- what the reader finds at a statement is what those before it say of it
fault_found : (start so_far : SoFar) (said : Statement) (words : List (List ℕ)) → said ≡ set_statement_of words → (before : List SaidLine) →
    HasTaken start so_far before →
    (set_rules start.problem.requests).fault_of before words ≡ set_fault_said so_far.problem.requests so_far.sets said
fault_found start so_far said words is before has =
    faults_alike start.problem.requests (sets_told_by before) so_far.sets (set_statement_of words) has.sets
    ∙ ap (λ (s : Statement). set_fault_said start.problem.requests so_far.sets s) (sym is)
    ∙ ap (λ (p : DesignProblem). set_fault_said p.requests so_far.sets said) (sym has.problem)

said_lawful : (so_far : SoFar) (said : Statement) (words : List (List ℕ)) → said ≡ set_statement_of words →
    set_fault_said so_far.problem.requests so_far.sets said ≡ None → (start : SoFar) (before : List SaidLine) → HasTaken start so_far before →
    (set_rules start.problem.requests).fault_of before words ≡ None
said_lawful so_far said words is none start before has = fault_found start so_far said words is before has ∙ none

said_told : (so_far after : SoFar) (n : ℕ) (said : Statement) (words : List (List ℕ)) → said ≡ set_statement_of words →
    TakesStatement so_far said after → (start : SoFar) (before : List SaidLine) → HasTaken start so_far before →
    HasTaken start after (before ++ record { line = n; words = words } ∷ [])
said_told so_far after n said words is takes start before has =
    let s : SaidLine = record { line = n; words = words } in
    let added : AddsSet (numbers_of_set (set_statement_of words)) so_far.sets after.sets =
    subst (λ (t : Statement). AddsSet (numbers_of_set t) so_far.sets after.sets) is takes.sets in
    record {
      problem = takes.problem ∙ has.problem;
      sets = subst (λ (said : List (List ℕ)). AllZip IsInOrder said after.sets)
          (sym (filter_map-append (λ (t : SaidLine). numbers_of_set (set_statement_of t.words)) before (s ∷ [])))
          (orders_push (numbers_of_set (set_statement_of words)) (sets_told_by before) so_far.sets after.sets has.sets added);
    }

said_refused : (so_far : SoFar) (n : ℕ) (said : Statement) (words : List (List ℕ)) (refusal : Refusal SetFault ℕ) →
    said ≡ set_statement_of words → TellsFault (fault_in_line n (set_fault_said so_far.problem.requests so_far.sets said)) refusal →
    (start : SoFar) (before : List SaidLine) → HasTaken start so_far before →
    TellsFault (fault_in_line n ((set_rules start.problem.requests).fault_of before words)) refusal
said_refused so_far n said words refusal is tells start before has =
    subst (λ (o : Option SetFault). TellsFault (fault_in_line n o) refusal) (sym (fault_found start so_far said words is before has)) tells

pub taken_lawful : {T E : Type 0} (r : Result T E) (so_far : SoFar) (said : Statement) (words : List (List ℕ)) → said ≡ set_statement_of words →
    OnOk r (set_fault_said so_far.problem.requests so_far.sets said ≡ None) →
    OnOk r ((start : SoFar) (before : List SaidLine) → HasTaken start so_far before → (set_rules start.problem.requests).fault_of before words ≡ None)
taken_lawful {T} {E} r so_far said words is none = on_ok_weaker r (λ n start before has. said_lawful so_far said words is n start before has) none

pub taken_told : {T E : Type 0} (r : Result T E) (so_far after : SoFar) (n : ℕ) (said : Statement) (words : List (List ℕ)) →
    said ≡ set_statement_of words → OnOk r (TakesStatement so_far said after) →
    OnOk r ((start : SoFar) (before : List SaidLine) → HasTaken start so_far before →
    HasTaken start after (before ++ record { line = n; words = words } ∷ []))
taken_told {T} {E} r so_far after n said words is takes =
    on_ok_weaker r (λ t start before has. said_told so_far after n said words is t start before has) takes

pub taken_refused : {T : Type 0} (r : Result T (Refusal SetFault ℕ)) (so_far : SoFar) (n : ℕ) (said : Statement) (words : List (List ℕ)) →
    said ≡ set_statement_of words → IfErr r (TellsFault (fault_in_line n (set_fault_said so_far.problem.requests so_far.sets said))) →
    IfErr r (λ refusal. (start : SoFar) (before : List SaidLine) → HasTaken start so_far before →
    TellsFault (fault_in_line n ((set_rules start.problem.requests).fault_of before words)) refusal)
taken_refused {T} r so_far n said words is tells =
    MatchResult-weaker r tells (λ _ t. t) (λ refusal t start before has. said_refused so_far n said words refusal is t start before has)

-- The whole file, as `read_sets` reads it.

pub begins : (p : DesignProblem) (start : SoFar) → start ≡ record { problem = p; sets = [] } → HasTaken start start []
begins p start is = record {
  problem = refl;
  sets = subst (AllZip IsInOrder []) (sym (ap (λ (s : SoFar). s.sets) is)) tt;
}

-- the reader at the start judges by the problem
same_fault : (p : DesignProblem) (bytes : List ℕ) (start : SoFar) → start ≡ record { problem = p; sets = [] } →
    text_fault (set_rules start.problem.requests) bytes ≡ set_fault p bytes
same_fault p bytes start is = ap (λ (s : SoFar). text_fault (set_rules s.problem.requests) bytes) is

pub read_made : (p : DesignProblem) (bytes : List ℕ) (start now : SoFar) (sets : List (List ℕ)) →
    start ≡ record { problem = p; sets = [] } → text_fault (set_rules start.problem.requests) bytes ≡ None →
    HasTaken start now (statements (lines bytes)) → sets ≡ now.sets → (set_fault p bytes ≡ None) × AreSaid bytes sets
read_made p bytes start now sets is none has sets_are = (
  sym (same_fault p bytes start is) ∙ none,
  subst (AllZip IsInOrder (sets_told_by (statements (lines bytes)))) (sym sets_are) has.sets,
)

pub read_lawful : (p : DesignProblem) (start now : SoFar) (before : List SaidLine) (sets : List (List ℕ)) →
    start ≡ record { problem = p; sets = [] } → HasTaken start now before → AreSetsOf now.problem sets → AreSetsOf p sets
read_lawful p start now before sets is has lawful =
    subst (λ (q : DesignProblem). AreSetsOf q sets) (has.problem ∙ ap (λ (s : SoFar). s.problem) is) lawful

pub read_refused : (p : DesignProblem) (bytes : List ℕ) (start : SoFar) (refusal : Refusal SetFault ℕ) →
    start ≡ record { problem = p; sets = [] } → TellsFault (text_fault (set_rules start.problem.requests) bytes) refusal →
    TellsFault (set_fault p bytes) refusal
read_refused p bytes start refusal is tells =
    subst (λ (o : Option (FaultyLine SetFault)). TellsFault o refusal) (same_fault p bytes start is) tells
