-- Lines of which it is known how many are left.
use Rattle.std.proofs.Common.{◌≡◌, ℕ, suc, ◌+◌, ◌-◌, ◌<◌, ◌≤◌, List, [], ◌∷◌, ◌++◌, length, map, sym, ap, subst, ◌∙◌, arith}
use Rattle.std.proofs.lemmas.List.{map-append}
use Rattle.cost_base.specs.declared.refusal.Refusal.{Refusal}
use Rattle.design_problem.specs.declared.form.Row.{Row}
use Rattle.design_problem.specs.Text.{row_line, rows_line, rows_lines}
use Rattle.answer_lines.specs.Grammar.{AtRows, AtRow}
use Rattle.answer_lines.specs.Lawful.{IsRead}
use Rattle.evidence_reader.specs.Refusals.{IsReaderStop}
use Rattle.evidence_reader.specs.declared.fault.AnswerFault.{AnswerFault}
use Rattle.answer_lines.proofs.FirstLines.{read-none}
use Rattle.evidence_reader.proofs.NextPlaces.{go-then, stop-then}

-- no row was read yet
pub rows_begin : (count before : ℕ) (bytes : List ℕ) (rows : List Row) → rows ≡ [] →
    IsRead (AtRow count) before bytes (map row_line rows) (AtRow (count - 0)) before bytes
rows_begin count before bytes rows none =
    let all : count ≡ count - 0 = omega arith in
    subst (λ n. IsRead (AtRow count) before bytes (map row_line rows) (AtRow n) before bytes) all
    (subst (λ (l : List Row). IsRead (AtRow count) before bytes (map row_line l) (AtRow count) before bytes) (sym none) (read-none (AtRow count) before bytes))

-- the lines that are left behind the next one
pub one_left : (count i : ℕ) → i < count → suc (count - (i + 1)) ≡ count - i
one_left count i h = omega arith

-- one more row was read
pub row_more : (count i : ℕ) (rows more : List Row) (row : Row) {b0 b1 b2 : ℕ} {bytes middle left : List ℕ} → i < count → more ≡ rows ++ row ∷ [] →
    IsRead (AtRow count) b0 bytes (map row_line rows) (AtRow (count - i)) b1 middle →
    IsRead (AtRow (suc (count - (i + 1)))) b1 middle (row_line row ∷ []) (AtRow (count - (i + 1))) b2 left →
    IsRead (AtRow count) b0 bytes (map row_line more) (AtRow (count - (i + 1))) b2 left
row_more count i rows more row {b0} {b1} {b2} {bytes} {middle} {left} within grown first second =
    subst (λ lines. IsRead (AtRow count) b0 bytes lines (AtRow (count - (i + 1))) b2 left)
    (sym (map-append row_line rows (row ∷ [])) ∙ ap (map row_line) (sym grown))
    (go-then first (subst (λ n. IsRead (AtRow n) b1 middle (row_line row ∷ []) (AtRow (count - (i + 1))) b2 left) (one_left count i within) second))

-- the next row stops the reader
pub row_stop : (count i : ℕ) (rows : List Row) {b0 b1 : ℕ} {bytes middle : List ℕ} (stop : Refusal AnswerFault ℕ) → i < count →
    IsRead (AtRow count) b0 bytes (map row_line rows) (AtRow (count - i)) b1 middle →
    IsReaderStop (AtRow (suc (count - (i + 1)))) b1 middle stop → IsReaderStop (AtRow count) b0 bytes stop
row_stop count i rows {b0} {b1} {bytes} {middle} stop within first second =
    stop-then stop first (subst (λ n. IsReaderStop (AtRow n) b1 middle stop) (one_left count i within) second)

-- every row was read
pub rows_done : (count i : ℕ) (rows : List Row) {b0 b1 : ℕ} {bytes left : List ℕ} → count ≤ i →
    IsRead (AtRow count) b0 bytes (map row_line rows) (AtRow (count - i)) b1 left → IsRead (AtRow count) b0 bytes (map row_line rows) (AtRow 0) b1 left
rows_done count i rows {b0} {b1} {bytes} {left} past read =
    let none : count - i ≡ 0 = omega arith in
    subst (λ n. IsRead (AtRow count) b0 bytes (map row_line rows) (AtRow n) b1 left) none read

-- the rows behind the line of their number
pub rows_behind : (count : ℕ) (rows : List Row) {b0 b1 b2 : ℕ} {bytes middle left : List ℕ} → length rows ≡ count →
    IsRead AtRows b0 bytes (rows_line count ∷ []) (AtRow count) b1 middle → IsRead (AtRow count) b1 middle (map row_line rows) (AtRow 0) b2 left →
    IsRead AtRows b0 bytes (rows_lines rows) (AtRow 0) b2 left
rows_behind count rows {b0} {b1} {b2} {bytes} {middle} {left} counted first second =
    subst (λ n. IsRead AtRows b0 bytes (rows_line n ∷ map row_line rows) (AtRow 0) b2 left) (sym counted) (go-then first second)
