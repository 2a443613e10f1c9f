-- Tree lines, of which it is known how many are left and how many places are open.
use Rattle.std.proofs.Common.{◌≡◌, ◌≢◌, ℕ, zero, suc, ◌+◌, ◌-◌, ◌<◌, ◌≤◌, List, [], ◌∷◌, ◌++◌, length, map, false, refl, sym, ap, subst, ◌∙◌, arith, append_assoc, append-nil, Some}
use Rattle.std.specs.Prelude.{IsTrue, ◌↔◌}
use Rattle.std.proofs.lemmas.Bool.{true≢false}
use Rattle.std.proofs.lemmas.List.{map-append}
use Rattle.cost_base.specs.declared.refusal.Refusal.{Refusal}
use Rattle.design_problem.specs.declared.tree.Entry.{Entry}
use Rattle.design_problem.specs.Text.{entry_line, tree_lines}
use Rattle.design_problem.specs.Trees.{subtree_count, AreSeveralTrees, IsSingleTree}
use Rattle.answer_lines.specs.Grammar.{TextPlace, Next, IsPartNext, AtTree}
use Rattle.evidence_text.specs.Parts.{part_word, tree_line}
use Rattle.answer_lines.specs.Places.{LacksLawful, BeginsLawful}
use Rattle.answer_lines.specs.Lawful.{IsRead}
use Rattle.evidence_reader.specs.Refusals.{IsReaderStop}
use Rattle.evidence_reader.specs.Stages.{before_part}
use Rattle.evidence_text.specs.declared.TreePart.{TreePart}
use Rattle.evidence_text.specs.declared.TreePart.TheVariants.{Proof, Undecided}
use Rattle.evidence_reader.specs.declared.fault.AnswerFault.{AnswerFault}
use Rattle.answer_lines.proofs.FirstLines.{AreReadAt, read-none}
use Rattle.evidence_reader.proofs.NextPlaces.{go-then, stop-then}
use Rattle.evidence_reader.proofs.CountedLines.{one_left}

-- the line that a part begins with is read
pub part-read : (part : TreePart) → AreReadAt (before_part part)
part-read Proof line short = short
part-read Undecided line short = short

-- the lines before a part are those that it begins with
pub part_said : (part : TreePart) (line : List ℕ) (next : TextPlace) → Next (before_part part) line next → IsPartNext part line next
part_said Proof line next is = is
part_said Undecided line next is = is

pub part_says : (part : TreePart) (line : List ℕ) (next : TextPlace) → IsPartNext part line next → Next (before_part part) line next
part_says Proof line next is = is
part_says Undecided line next is = is

-- no line is in the grammar here
abbrev pub IsShut : TextPlace → List ℕ → Type 0
IsShut place bytes = LacksLawful place bytes × (IsTrue false ↔ BeginsLawful place bytes)

-- lines left over, and no open place
pub shut_full : (part : TreePart) (places left : ℕ) (bytes : List ℕ) → places ≡ 0 → IsShut (AtTree part places (suc left)) bytes
shut_full part zero left bytes e = (λ line more parts one lawful. lawful.1.is, (λ no. absurd (true≢false (sym no)), λ begins. absurd begins.1.1.is))
shut_full part (suc places) left bytes e = absurd (omega (arith, e))

-- open places, and no line left
pub shut_short : (part : TreePart) (places left : ℕ) (bytes : List ℕ) → places ≢ 0 → left ≡ 0 → IsShut (AtTree part places left) bytes
shut_short part zero left bytes some none = absurd (some refl)
shut_short part (suc places) zero bytes some none =
    (λ line more parts one lawful. lawful.1.is, (λ no. absurd (true≢false (sym no)), λ begins. absurd begins.1.1.is))
shut_short part (suc places) (suc left) bytes some none = absurd (omega (arith, none))

-- an open place is one more than the others
pub one_place : (places : ℕ) → places ≢ 0 → suc (places - 1) ≡ places
one_place places some = omega (arith, some)

-- no tree line was read yet
pub entries_begin : (part : TreePart) (count before : ℕ) (bytes : List ℕ) (entries : List Entry) → entries ≡ [] →
    IsRead (AtTree part 1 count) before bytes (map entry_line entries) (AtTree part 1 (count - 0)) before bytes
entries_begin part count before bytes entries none =
    let all : count ≡ count - 0 = omega arith in
    subst (λ n. IsRead (AtTree part 1 count) before bytes (map entry_line entries) (AtTree part 1 n) before bytes) all
    (subst (λ (l : List Entry). IsRead (AtTree part 1 count) before bytes (map entry_line l)
    (AtTree part 1 count) before bytes) (sym none) (read-none (AtTree part 1 count) before bytes))

-- one more tree line was read
pub entry_more : (part : TreePart) (count i places : ℕ) (entries more : List Entry) (entry : Entry) {b0 b1 b2 : ℕ}
    {bytes middle left : List ℕ} → i < count → more ≡ entries ++ entry ∷ [] →
    IsRead (AtTree part 1 count) b0 bytes (map entry_line entries) (AtTree part places (count - i)) b1 middle →
    IsRead (AtTree part places (suc (count - (i + 1)))) b1 middle (entry_line entry ∷ [])
    (AtTree part (subtree_count entry + (places - 1)) (count - (i + 1))) b2 left →
    IsRead (AtTree part 1 count) b0 bytes (map entry_line more) (AtTree part (subtree_count entry + (places - 1)) (count - (i + 1))) b2 left
entry_more part count i places entries more entry {b0} {b1} {b2} {bytes} {middle} {left} within grown first second =
    let to : TextPlace = AtTree part (subtree_count entry + (places - 1)) (count - (i + 1)) in
    subst (λ lines. IsRead (AtTree part 1 count) b0 bytes lines to b2 left) (sym (map-append entry_line entries (entry ∷ [])) ∙ ap (map entry_line) (sym grown))
    (go-then first (subst (λ n. IsRead (AtTree part places n) b1 middle (entry_line entry ∷ []) to b2 left) (one_left count i within) second))

-- the next tree line stops the reader
pub entry_stop : (part : TreePart) (count i places : ℕ) (entries : List Entry) {b0 b1 : ℕ} {bytes middle : List ℕ} (stop : Refusal AnswerFault ℕ) → i < count →
    IsRead (AtTree part 1 count) b0 bytes (map entry_line entries) (AtTree part places (count - i)) b1 middle →
    IsReaderStop (AtTree part places (suc (count - (i + 1)))) b1 middle stop → IsReaderStop (AtTree part 1 count) b0 bytes stop
entry_stop part count i places entries {b0} {b1} {bytes} {middle} stop within first second =
    stop-then stop first (subst (λ n. IsReaderStop (AtTree part places n) b1 middle stop) (one_left count i within) second)

-- every tree line was read, and no place is open
pub entries_done : (part : TreePart) (count i places : ℕ) (entries : List Entry) {b0 b1 : ℕ} {bytes left : List ℕ} → count ≤ i → places ≡ 0 →
    IsRead (AtTree part 1 count) b0 bytes (map entry_line entries) (AtTree part places (count - i)) b1 left →
    IsRead (AtTree part 1 count) b0 bytes (map entry_line entries) (AtTree part 0 0) b1 left
entries_done part count i places entries {b0} {b1} {bytes} {left} past full read =
    let none : count - i ≡ 0 = omega arith in
    subst (λ n. IsRead (AtTree part 1 count) b0 bytes (map entry_line entries) (AtTree part 0 n) b1 left) none
    (subst (λ n. IsRead (AtTree part 1 count) b0 bytes (map entry_line entries) (AtTree part n (count - i)) b1 left) full read)

-- entries that leave so many places open: with as many whole trees behind them they are one
abbrev pub LeavesOpen : ℕ → List Entry → Type 0
LeavesOpen places entries = (rest : List Entry) → AreSeveralTrees places rest → IsSingleTree (entries ++ rest)

pub open_none : (entries : List Entry) → entries ≡ [] → LeavesOpen 1 entries
open_none entries none = subst (λ (l : List Entry). LeavesOpen 1 l) (sym none) (λ rest whole. whole)

pub open_more : (places : ℕ) (entries more : List Entry) (entry : Entry) → places ≢ 0 → more ≡ entries ++ entry ∷ [] →
    LeavesOpen places entries → LeavesOpen (subtree_count entry + (places - 1)) more
open_more zero entries more entry some grown before = absurd (some refl)
open_more (suc places) entries more entry some grown before =
    λ rest whole.
    let others : suc places - 1 ≡ places = omega arith in
    let behind : AreSeveralTrees (subtree_count entry + places) rest = subst (λ n. AreSeveralTrees (subtree_count entry + n) rest) others whole in
    subst (λ (l : List Entry). IsSingleTree l) (sym (append_assoc entries (entry ∷ []) rest)
    ∙ ap (λ (l : List Entry). l ++ rest) (sym grown)) (before (entry ∷ rest) behind)

-- entries that leave none open are a whole tree
pub open_done : (places : ℕ) (entries : List Entry) → places ≡ 0 → LeavesOpen places entries → IsSingleTree entries
open_done zero entries none before = subst (λ (l : List Entry). IsSingleTree l) (append-nil entries) (before [] tt)
open_done (suc places) entries none before = absurd (omega (arith, none))

-- the lines of a tree behind its head
pub tree_read : (part : TreePart) (cap count : ℕ) (entries : List Entry) {b0 b1 b2 : ℕ} {bytes middle left : List ℕ} → length entries ≡ count →
    IsRead (before_part part) b0 bytes (tree_line part cap count ∷ []) (AtTree part 1 count) b1 middle →
    IsRead (AtTree part 1 count) b1 middle (map entry_line entries) (AtTree part 0 0) b2 left →
    IsRead (before_part part) b0 bytes (tree_lines (part_word part) (Some (record { cap = cap; tree = entries }))) (AtTree part 0 0) b2 left
tree_read part cap count entries {b0} {b1} {b2} {bytes} {middle} {left} counted first second =
    subst (λ n. IsRead (before_part part) b0 bytes (tree_line part cap n ∷ map entry_line entries)
    (AtTree part 0 0) b2 left) (sym counted) (go-then first second)
