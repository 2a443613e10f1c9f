-- The lines of a file, read one after another up to the first fault.
use Rattle.std.proofs.Common.{◌≡◌, ℕ, ◌+◌, sym, ◌∙◌, ap, subst, List, [], ◌∷◌, ◌++◌, length, true, Option, Some, None, append_assoc, append-nil, length-append, arith}
use Rattle.cost_base.specs.Lists.{first_of}
use Rattle.text_lines.specs.Lines.{lines}
use Rattle.text_lines.specs.LineFaults.{FaultyLine, fault_in_line, faults_at, faults_by_line}
use Rattle.text_lines.specs.TextLeft.{TextLeft}
use Rattle.text_lines.specs.Reading.{IsLineRead}
use Rattle.text_lines.specs.declared.line_reader.Line.{Line}

-- what was read are these lines, of which none has a fault, and the others are left
pub record IsReadTo {F : Type 0} (fault_behind : List (List ℕ) → List ℕ → Option F) (bytes : List ℕ) (left : TextLeft)
    (file : List (List ℕ)) : Type 0 where
  pub longest : left.longest ≡ 65536
  pub read : left.read ≡ length file
  pub all : lines bytes ≡ file ++ lines left.bytes
  pub faults : faults_by_line fault_behind [] (lines bytes) ≡ faults_by_line fault_behind file (lines left.bytes)

-- before the first line
pub nothing_read : {F : Type 0} (fault_behind : List (List ℕ) → List ℕ → Option F) (bytes : List ℕ) (left : TextLeft) →
    left ≡ record { bytes = bytes; read = 0; ended = true; longest = 65536 } → IsReadTo fault_behind bytes left []
nothing_read {F} fault_behind bytes left is =
    let same : left.bytes ≡ bytes = ap (λ (t : TextLeft). t.bytes) is in
    record {
      longest = ap (λ (t : TextLeft). t.longest) is;
      read = ap (λ (t : TextLeft). t.read) is;
      all = ap lines (sym same);
      faults = ap (λ (b : List ℕ). faults_by_line fault_behind [] (lines b)) (sym same);
    }

-- the faults from a line on
faults_next : {F : Type 0} (fault_behind : List (List ℕ) → List ℕ → Option F) (bytes : List ℕ) (left : TextLeft)
    (file : List (List ℕ)) (line : List ℕ) (more : List (List ℕ)) (fault : Option F) →
    IsReadTo fault_behind bytes left file → lines left.bytes ≡ line ∷ more → fault_behind file line ≡ fault →
    faults_by_line fault_behind [] (lines bytes) ≡ faults_at (left.read + 1) fault ++ faults_by_line fault_behind (file ++ line ∷ []) more
faults_next {F} fault_behind bytes left file line more fault to is found =
    to.faults ∙ ap (faults_by_line fault_behind file) is
    ∙ ap (λ (o : Option F). faults_at (length file + 1) o ++ faults_by_line fault_behind (file ++ line ∷ []) more) found
    ∙ ap (λ (k : ℕ). faults_at (k + 1) fault ++ faults_by_line fault_behind (file ++ line ∷ []) more) (sym to.read)

-- one more line without a fault
pub one_more_read : {F : Type 0} (fault_behind : List (List ℕ) → List ℕ → Option F) (bytes : List ℕ) (left next : TextLeft)
    (file : List (List ℕ)) (line : Line) → IsReadTo fault_behind bytes left file → IsLineRead left next line →
    fault_behind file line.text.now ≡ None → IsReadTo fault_behind bytes next (file ++ line.text.now ∷ [])
one_more_read {F} fault_behind bytes left next file line to read none =
    let text = line.text.now in
    record {
      longest = read.0.longest ∙ to.longest;
      read = omega (arith, read.0.read, to.read, length-append file (text ∷ []));
      all = to.all ∙ ap (λ (ls : List (List ℕ)). file ++ ls) read.0.first.first ∙ sym (append_assoc file (text ∷ []) (lines next.bytes));
      faults = faults_next fault_behind bytes left file text (lines next.bytes) None to read.0.first.first none;
    }

-- the fault of a line is the first of all, where no line before it has one
pub first_told : {F : Type 0} (fault_behind : List (List ℕ) → List ℕ → Option F) (bytes : List ℕ) (left : TextLeft)
    (file : List (List ℕ)) (line : List ℕ) (more : List (List ℕ)) (fault : Option F) (number : ℕ) (others : List (FaultyLine F))
    (Tells : Option (FaultyLine F) → Type 0) → ((faulty : Option (FaultyLine F)) → Tells None → Tells faulty) →
    IsReadTo fault_behind bytes left file → lines left.bytes ≡ line ∷ more → fault_behind file line ≡ fault →
    number ≡ left.read + 1 → Tells (fault_in_line number fault) →
    Tells (first_of (faults_by_line fault_behind [] (lines bytes) ++ others))
first_told {F} fault_behind bytes left file line more fault number others Tells tells_none to is found counted tells =
    subst Tells
    (ap (λ (faults : List (FaultyLine F)). first_of (faults ++ others)) (sym (faults_next fault_behind bytes left file line more fault to is found)))
    (told fault (subst (λ (n : ℕ). Tells (fault_in_line n fault)) counted tells))
  where
    told : (o : Option F) → Tells (fault_in_line (left.read + 1) o) →
        Tells (first_of ((faults_at (left.read + 1) o ++ faults_by_line fault_behind (file ++ line ∷ []) more) ++ others))
    told None none = tells_none (first_of (faults_by_line fault_behind (file ++ line ∷ []) more ++ others)) none
    told (Some f) some = some

-- where nothing is left, the lines that were read are all lines, and none of them has a fault
pub all_read : {F : Type 0} (fault_behind : List (List ℕ) → List ℕ → Option F) (bytes : List ℕ) (left : TextLeft)
    (file : List (List ℕ)) → IsReadTo fault_behind bytes left file → left.bytes ≡ [] →
    (lines bytes ≡ file) × (faults_by_line fault_behind [] (lines bytes) ≡ [])
all_read {F} fault_behind bytes left file to end = (
  to.all ∙ ap (λ (b : List ℕ). file ++ lines b) end ∙ append-nil file,
  to.faults ∙ ap (λ (b : List ℕ). faults_by_line fault_behind file (lines b)) end,
)
