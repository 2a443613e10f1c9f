-- The statements of a text, taken one after another up to the first fault.
use Rattle.std.proofs.Common.{◌≡◌, ℕ, ◌+◌, ◌≤◌, refl, sym, ◌∙◌, ap, subst, List, [], ◌∷◌, ◌++◌, length, Bool, true, false, cond, Option, Some, None, append_assoc, append-nil, arith}
use Rattle.std.specs.Prelude.{nat_le}
use Rattle.std.proofs.lemmas.Bool.{le-leb, lt-leb, cond-true, cond-false, false≢true}
use Rattle.cost_base.specs.Lists.{first_of}
use Rattle.cost_base.proofs.ListLemmas.{append-none}
use Rattle.cost_base.specs.declared.refusal.Refusal.{Refusal}
use Rattle.cost_base.specs.declared.refusal.Refusal.TheVariants.{Refused, OutOfMemory}
use Rattle.text_lines.specs.Lines.{lines, words}
use Rattle.text_lines.specs.LineFaults.{FaultyLine, TellsFault, fault_at, fault_in_line, faults_at, faults_by_line}
use Rattle.text_lines.specs.TextLeft.{TextLeft}
use Rattle.text_lines.specs.Reading.{IsLineRead, IsLongLine}
use Rattle.text_lines.specs.declared.line_reader.Line.{Line}
use Rattle.text_lines.specs.declared.line_reader.LongLine.{LongLine}
use Rattle.text_lines.specs.Statements.{SaidLine, StandsBehind, TextRules, behind_header, fault_of_line, fault_of_words, has_header, header_faults, is_header, said_in_line, said_from, said_lines, said_words, statements, text_fault, text_faults}
use Rattle.text_lines.proofs.FaultLaws.{IsReadTo, nothing_read, one_more_read, first_told, all_read}

-- The lines that say something.

said_push_from : (n : ℕ) (file : List (List ℕ)) (line : List ℕ) → said_from n (file ++ line ∷ [])
    ≡ said_from n file ++ said_in_line (n + length file) (said_words (words line))
said_push_from n [] line = let place : n ≡ n + length {A = List ℕ} [] = omega arith in append-nil (said_in_line n (said_words (words line)))
    ∙ ap (λ (k : ℕ). said_in_line k (said_words (words line))) place
said_push_from n (first ∷ more) line =
    let place : n + 1 + length more ≡ n + length (first ∷ more) = omega arith in
    ap (λ (rest : List SaidLine). said_in_line n (said_words (words first)) ++ rest) (said_push_from (n + 1) more line
    ∙ ap (λ (k : ℕ). said_from (n + 1) more ++ said_in_line k (said_words (words line))) place)
    ∙ sym (append_assoc (said_in_line n (said_words (words first))) (said_from (n + 1) more)
    (said_in_line (n + length (first ∷ more)) (said_words (words line))))

-- the lines that say something, and one line more
pub said_push : (file : List (List ℕ)) (line : List ℕ) → said_lines (file ++ line ∷ [])
    ≡ said_lines file ++ said_in_line (length file + 1) (said_words (words line))
said_push file line =
    let place : 1 + length file ≡ length file + 1 = omega arith in
    said_push_from 1 file line ∙ ap (λ (k : ℕ). said_lines file ++ said_in_line k (said_words (words line))) place

-- One line behind others, as `read_line` reads it.

-- a line that says nothing
pub nothing_lawful : {F : Type 0} (rules : TextRules F) (said : List SaidLine) (ws : List (List ℕ)) → ws ≡ [] → fault_of_words rules said ws ≡ None
nothing_lawful {F} rules said ws none = ap (fault_of_words rules said) none

pub nothing_stands : {R : Type 0} (took : R → List SaidLine → Type 0) (reader : R) (begun : Bool) (said : List SaidLine) (n : ℕ)
    (ws : List (List ℕ)) → ws ≡ [] → StandsBehind took reader begun said → StandsBehind took reader begun (said ++ said_in_line n ws)
nothing_stands {R} took reader begun said n ws none stands =
    subst (StandsBehind took reader begun) (sym (ap (λ (w : List (List ℕ)). said ++ said_in_line n w) none ∙ append-nil said)) stands

-- a statement behind a header
pub statement_lawful : {F R : Type 0} (rules : TextRules F) (took : R → List SaidLine → Type 0) (reader : R) (begun : Bool)
    (said : List SaidLine) (word : List ℕ) (rest ws : List (List ℕ)) → ws ≡ word ∷ rest → begun ≡ true →
    ((before : List SaidLine) → took reader before → rules.fault_of before (word ∷ rest) ≡ None) →
    StandsBehind took reader begun said → fault_of_words rules said ws ≡ None
statement_lawful {F} {R} rules took reader begun [] word rest ws is there lawful stands = absurd (false≢true (sym stands.header ∙ there))
statement_lawful {F} {R} rules took reader begun (header ∷ before) word rest ws is there lawful stands =
    ap (fault_of_words rules (header ∷ before)) is ∙ lawful before stands.taken

pub statement_stands : {R : Type 0} (took : R → List SaidLine → Type 0) (reader after : R) (begun : Bool)
    (said : List SaidLine) (n : ℕ) (word : List ℕ) (rest ws : List (List ℕ)) → ws ≡ word ∷ rest → begun ≡ true →
    ((before : List SaidLine) → took reader before → took after (before ++ record { line = n; words = word ∷ rest } ∷ [])) →
    StandsBehind took reader begun said → StandsBehind took after true (said ++ said_in_line n ws)
statement_stands {R} took reader after begun [] n word rest ws is there taken stands = absurd (false≢true (sym stands.header ∙ there))
statement_stands {R} took reader after begun (header ∷ before) n word rest ws is there taken stands =
    subst (λ (w : List (List ℕ)). StandsBehind took after true ((header ∷ before) ++ said_in_line n w)) (sym is)
    (record { header = refl; taken = taken before stands.taken })

pub statement_refused : {F R : Type 0} (rules : TextRules F) (took : R → List SaidLine → Type 0) (reader : R) (begun : Bool)
    (said : List SaidLine) (n : ℕ) (word : List ℕ) (rest ws : List (List ℕ)) (refusal : Refusal F ℕ) → ws ≡ word ∷ rest → begun ≡ true →
    ((before : List SaidLine) → took reader before → TellsFault (fault_in_line n (rules.fault_of before (word ∷ rest))) refusal) →
    StandsBehind took reader begun said → TellsFault (fault_in_line n (fault_of_words rules said ws)) refusal
statement_refused {F} {R} rules took reader begun [] n word rest ws refusal is there tells stands = absurd (false≢true (sym stands.header ∙ there))
statement_refused {F} {R} rules took reader begun (header ∷ before) n word rest ws refusal is there tells stands =
    subst (λ (w : List (List ℕ)). TellsFault (fault_in_line n (fault_of_words rules (header ∷ before) w)) refusal) (sym is)
    (tells before stands.taken)

-- the first line that says something
pub header_lawful : {F R : Type 0} (rules : TextRules F) (took : R → List SaidLine → Type 0) (reader : R) (begun : Bool)
    (said : List SaidLine) (word : List ℕ) (rest ws : List (List ℕ)) → ws ≡ word ∷ rest → begun ≡ false →
    is_header rules.kind (word ∷ rest) ≡ true → StandsBehind took reader begun said → fault_of_words rules said ws ≡ None
header_lawful {F} {R} rules took reader begun (header ∷ before) word rest ws is missing header_is stands = absurd (false≢true (sym missing ∙ stands.header))
header_lawful {F} {R} rules took reader begun [] word rest ws is missing header_is stands =
    ap (fault_of_words rules []) is ∙ cond-true (is_header rules.kind (word ∷ rest)) None (Some rules.bad_line) header_is

pub header_stands : {R : Type 0} (took : R → List SaidLine → Type 0) (reader : R) (begun : Bool)
    (said : List SaidLine) (n : ℕ) (word : List ℕ) (rest ws : List (List ℕ)) → ws ≡ word ∷ rest → begun ≡ false →
    StandsBehind took reader begun said → StandsBehind took reader true (said ++ said_in_line n ws)
header_stands {R} took reader begun (header ∷ before) n word rest ws is missing stands = absurd (false≢true (sym missing ∙ stands.header))
header_stands {R} took reader begun [] n word rest ws is missing stands =
    subst (λ (w : List (List ℕ)). StandsBehind took reader true (said_in_line n w)) (sym is)
    (record { header = refl; taken = stands.taken })

pub header_refused : {F R : Type 0} (rules : TextRules F) (took : R → List SaidLine → Type 0) (reader : R) (begun : Bool)
    (said : List SaidLine) (n : ℕ) (word : List ℕ) (rest ws : List (List ℕ)) (refusal : Refusal F ℕ) → ws ≡ word ∷ rest → begun ≡ false →
    is_header rules.kind (word ∷ rest) ≡ false → TellsFault (Some (fault_at n rules.bad_line)) refusal →
    StandsBehind took reader begun said → TellsFault (fault_in_line n (fault_of_words rules said ws)) refusal
header_refused {F} {R} rules took reader begun (header ∷ before) n word rest ws refusal is missing other tells stands = absurd
    (false≢true (sym missing ∙ stands.header))
header_refused {F} {R} rules took reader begun [] n word rest ws refusal is missing other tells stands =
    subst (λ (o : Option F). TellsFault (fault_in_line n o) refusal)
    (sym (ap (fault_of_words rules []) is ∙ cond-false (is_header rules.kind (word ∷ rest)) None (Some rules.bad_line) other)) tells

-- The lines of a text, as `read_statements` reads them.

-- what was read are lines without a fault behind which the reader stands, and the others are left
pub record HasRead {F R : Type 0} (took : R → List SaidLine → Type 0)
    (rules : TextRules F) (bytes : List ℕ) (left : TextLeft) (reader : R) (begun : Bool) : Type 0 where
  pub file : List (List ℕ)
  pub to : IsReadTo (fault_of_line rules) bytes left file
  pub stands : StandsBehind took reader begun (said_lines file)

pub read_begin : {F R : Type 0} (took : R → List SaidLine → Type 0)
    (rules : TextRules F) (bytes : List ℕ) (left : TextLeft) (reader : R) →
    left ≡ record { bytes = bytes; read = 0; ended = true; longest = 65536 } → took reader [] →
    HasRead took rules bytes left reader false
read_begin {F} {R} took rules bytes left reader is none = record {
  file = [];
  to = nothing_read (fault_of_line rules) bytes left is;
  stands = record { header = refl; taken = none };
}

-- a line of lawful length has the fault of its words
short_fault : {F : Type 0} (rules : TextRules F) (file : List (List ℕ)) (text : List ℕ) → length text ≤ 65536 →
    fault_of_line rules file text ≡ fault_of_words rules (said_lines file) (said_words (words text))
short_fault {F} rules file text short =
    cond-true (nat_le (length text) 65536) (fault_of_words rules (said_lines file) (said_words (words text))) (Some rules.bad_line)
    (le-leb (length text) 65536 short)

pub read_more : {F R : Type 0} (took : R → List SaidLine → Type 0)
    (rules : TextRules F) (bytes : List ℕ) (left next : TextLeft) (reader after : R) (begun now : Bool) (line : Line) →
    HasRead took rules bytes left reader begun → IsLineRead left next line →
    ((said : List SaidLine) → StandsBehind took reader begun said →
    fault_of_words rules said (said_words (words line.text.now)) ≡ None) →
    ((said : List SaidLine) → StandsBehind took reader begun said →
    StandsBehind took after now (said ++ said_in_line line.number (said_words (words line.text.now)))) →
    HasRead took rules bytes next after now
read_more {F} {R} took rules bytes left next reader after begun now line so_far read lawful stands =
    let text = line.text.now in
    let number : line.number ≡ length so_far.file + 1 = omega (arith, read.1.counted, so_far.to.read) in
    record {
      file = so_far.file ++ text ∷ [];
      to = one_more_read (fault_of_line rules) bytes left next so_far.file line so_far.to read
          (short_fault rules so_far.file text (omega (arith, read.1.within, so_far.to.longest))
          ∙ lawful (said_lines so_far.file) so_far.stands);
      stands = subst (StandsBehind took after now)
          (ap (λ (n : ℕ). said_lines so_far.file ++ said_in_line n (said_words (words text))) number ∙ sym (said_push so_far.file text))
          (stands (said_lines so_far.file) so_far.stands);
    }

-- a refusal that tells no fault tells nothing
tells_none : {F : Type 0} (refusal : Refusal F ℕ) (faulty : Option (FaultyLine F)) → TellsFault None refusal → TellsFault faulty refusal
tells_none {F} OutOfMemory faulty tells = tt
tells_none {F} (Refused fault line) faulty tells = absurd (cc)

-- a line is refused for what it says
pub read_refused : {F R : Type 0} (took : R → List SaidLine → Type 0)
    (rules : TextRules F) (bytes : List ℕ) (left next : TextLeft) (reader : R) (begun : Bool) (line : Line) (refusal : Refusal F ℕ) →
    HasRead took rules bytes left reader begun → IsLineRead left next line →
    ((said : List SaidLine) → StandsBehind took reader begun said → TellsFault
    (fault_in_line line.number (fault_of_words rules said (said_words (words line.text.now)))) refusal) →
    TellsFault (text_fault rules bytes) refusal
read_refused {F} {R} took rules bytes left next reader begun line refusal so_far read tells =
    let text = line.text.now in
    first_told (fault_of_line rules) bytes left so_far.file text (lines next.bytes)
    (fault_of_words rules (said_lines so_far.file) (said_words (words text))) line.number (header_faults rules (lines bytes))
    (λ faulty. TellsFault faulty refusal) (tells_none refusal) so_far.to read.0.first.first
    (short_fault rules so_far.file text (omega (arith, read.1.within, so_far.to.longest))) read.1.counted
    (tells (said_lines so_far.file) so_far.stands)

-- a line is refused for its length
pub read_long : {F R : Type 0} (took : R → List SaidLine → Type 0)
    (rules : TextRules F) (bytes : List ℕ) (left next : TextLeft) (reader : R) (begun : Bool) (long : LongLine) (refusal : Refusal F ℕ) →
    HasRead took rules bytes left reader begun → IsLongLine left next long →
    TellsFault (Some (fault_at long.number rules.bad_line)) refusal → TellsFault (text_fault rules bytes) refusal
read_long {F} {R} took rules bytes left next reader begun long refusal so_far (line, over, is_long) tells =
    first_told (fault_of_line rules) bytes left so_far.file line (lines next.bytes) (Some rules.bad_line) long.number
    (header_faults rules (lines bytes)) (λ faulty. TellsFault faulty refusal) (tells_none refusal) so_far.to over.first.first
    (cond-false (nat_le (length line) 65536) (fault_of_words rules (said_lines so_far.file) (said_words (words line))) (Some rules.bad_line)
    (lt-leb (length line) 65536 (omega (arith, is_long.over, so_far.to.longest))))
    is_long.counted tells

-- at the end, the lines that were read are all lines, and none of them has a fault
record ReadAll {F R : Type 0} (took : R → List SaidLine → Type 0) (rules : TextRules F) (bytes : List ℕ) (read : ℕ) (reader : R)
    (begun : Bool) : Type 0 where
  stands : StandsBehind took reader begun (said_lines (lines bytes))
  read_is : length (lines bytes) ≡ read
  fault : text_fault rules bytes ≡ first_of (header_faults rules (lines bytes))

read_all : {F R : Type 0} (took : R → List SaidLine → Type 0)
    (rules : TextRules F) (bytes : List ℕ) (left : TextLeft) (reader : R) (begun : Bool) →
    HasRead took rules bytes left reader begun → left.bytes ≡ [] → ReadAll took rules bytes left.read reader begun
read_all {F} {R} took rules bytes left reader begun so_far end =
    let all = all_read (fault_of_line rules) bytes left so_far.file so_far.to end in
    record {
      stands = subst (λ (file : List (List ℕ)). StandsBehind took reader begun (said_lines file)) (sym all.0) so_far.stands;
      read_is = ap length all.0 ∙ sym so_far.to.read;
      fault = ap (λ (faults : List (FaultyLine F)). first_of (faults ++ header_faults rules (lines bytes))) all.1;
    }

-- the text has no fault, its statements were taken, and so many lines were read
pub record ReadWell {F R : Type 0} (took : R → List SaidLine → Type 0) (rules : TextRules F) (bytes : List ℕ) (read : ℕ) (reader : R) : Type 0 where
  pub lawful : text_fault rules bytes ≡ None
  pub taken : took reader (statements (lines bytes))
  pub count : read ≡ length (lines bytes)

pub read_well : {F R : Type 0} (took : R → List SaidLine → Type 0)
    (rules : TextRules F) (bytes : List ℕ) (left : TextLeft) (reader : R) (begun : Bool) →
    HasRead took rules bytes left reader begun → left.bytes ≡ [] → begun ≡ true → ReadWell took rules bytes left.read reader
read_well {F} {R} took rules bytes left reader begun so_far end there =
    let done = read_all took rules bytes left reader begun so_far end in
    record {
      lawful = done.fault ∙ ap first_of (cond-true (has_header (said_lines (lines bytes))) [] (fault_at (length (lines bytes) + 1) rules.bad_line ∷ [])
          (sym done.stands.header ∙ there));
      taken = done.stands.taken;
      count = sym done.read_is;
    }

-- a text without a header
pub read_headless : {F R : Type 0} (took : R → List SaidLine → Type 0)
    (rules : TextRules F) (bytes : List ℕ) (left : TextLeft) (reader : R) (begun : Bool) (lines_read : ℕ) (refusal : Refusal F ℕ) →
    HasRead took rules bytes left reader begun → left.bytes ≡ [] → lines_read ≡ left.read → begun ≡ false →
    TellsFault (Some (fault_at (lines_read + 1) rules.bad_line)) refusal → TellsFault (text_fault rules bytes) refusal
read_headless {F} {R} took rules bytes left reader begun lines_read refusal so_far end count missing tells =
    let done = read_all took rules bytes left reader begun so_far end in
    subst (λ (o : Option (FaultyLine F)). TellsFault o refusal)
    (sym (done.fault ∙ ap first_of (cond-false (has_header (said_lines (lines bytes))) [] (fault_at (length (lines bytes) + 1) rules.bad_line ∷ [])
    (sym done.stands.header ∙ missing))
    ∙ ap (λ (n : ℕ). Some (fault_at (n + 1) rules.bad_line)) (done.read_is ∙ sym count)))
    tells

-- Texts without a fault.

no_fault_in : {F : Type 0} (n : ℕ) (o : Option F) → faults_at n o ≡ [] → o ≡ None
no_fault_in {F} n None none = refl
no_fault_in {F} n (Some fault) none = absurd (cc)

-- of two outcomes, one of which is a fault, it was the other one
not_fault : {F : Type 0} (b : Bool) (o : Option F) (fault : F) → cond b o (Some fault) ≡ None → o ≡ None
not_fault {F} true o fault none = none
not_fault {F} false o fault none = absurd (cc)

-- what holds of no statements, and of each lawful one together with those before it, holds of the lines' statements
one_more_holds : {F : Type 0} (rules : TextRules F) (P : List SaidLine → Type 0) (said : List SaidLine) (n : ℕ) (ws : List (List ℕ)) →
    ((before : List SaidLine) (s : SaidLine) → P before → rules.fault_of before s.words ≡ None → P (before ++ s ∷ [])) →
    P (behind_header said) → fault_of_words rules said ws ≡ None → P (behind_header (said ++ said_in_line n ws))
one_more_holds {F} rules P said n [] step holds none = subst (λ (s : List SaidLine). P (behind_header s)) (sym (append-nil said)) holds
one_more_holds {F} rules P [] n (word ∷ rest) step holds none = holds
one_more_holds {F} rules P (header ∷ before) n (word ∷ rest) step holds none = step before (record { line = n; words = word ∷ rest }) holds none

holds_from : {F : Type 0} (rules : TextRules F) (P : List SaidLine → Type 0) (rest front : List (List ℕ)) →
    ((before : List SaidLine) (s : SaidLine) → P before → rules.fault_of before s.words ≡ None → P (before ++ s ∷ [])) →
    P (statements front) → faults_by_line (fault_of_line rules) front rest ≡ [] → P (statements (front ++ rest))
holds_from {F} rules P [] front step holds none = subst (λ (file : List (List ℕ)). P (statements file)) (sym (append-nil front)) holds
holds_from {F} rules P (line ∷ rest) front step holds none =
    let parts = append-none (faults_at (length front + 1) (fault_of_line rules front line)) (faults_by_line (fault_of_line rules) (front ++ line ∷ []) rest)
    none in
    let lawful = not_fault (nat_le (length line) 65536) (fault_of_words rules (said_lines front) (said_words (words line))) rules.bad_line
    (no_fault_in (length front + 1) (fault_of_line rules front line) parts.0) in
    subst (λ (file : List (List ℕ)). P (statements file)) (append_assoc front (line ∷ []) rest)
    (holds_from rules P rest (front ++ line ∷ []) step
    (subst (λ (s : List SaidLine). P (behind_header s)) (sym (said_push front line))
    (one_more_holds rules P (said_lines front) (length front + 1) (said_words (words line)) step holds lawful))
    parts.1)

-- what holds of no statements, and of each lawful one together with those before it, holds of a text without a fault
pub lawful_statements : {F : Type 0} (rules : TextRules F) (P : List SaidLine → Type 0) (file : List (List ℕ)) → P [] →
    ((before : List SaidLine) (s : SaidLine) → P before → rules.fault_of before s.words ≡ None → P (before ++ s ∷ [])) →
    text_faults rules file ≡ [] → P (statements file)
lawful_statements {F} rules P file begin step none =
    holds_from rules P file [] step begin (append-none (faults_by_line (fault_of_line rules) [] file) (header_faults rules file) none).0
