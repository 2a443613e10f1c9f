-- Words of answers hold no LF, and words with a space between each two are one line.
use Rattle.std.proofs.Common.{◌≡◌, ℕ, ◌+◌, List, [], ◌∷◌, map, codes, eqb, true, false, ℤ, pos, negsuc, refl, sym, subst}
use Rattle.std.proofs.lemmas.Bool.{and_parts, not-true}
use Rattle.std.proofs.lemmas.List.Elements.{All-nil, All-cons, All-append}
use Rattle.std.specs.List.{list_all, AllByRecursion}
use Rattle.std.specs.Prelude.{not}
use Rattle.cost_base.specs.Decimal.{decimal}
use Rattle.cost_base.specs.declared.Ratio.{Ratio}
use Rattle.cost_base.specs.declared.StepName.{StepName}
use Rattle.cost_base.specs.declared.StepName.TheVariants.{Add, Sub, Mul, Div, Lcm, Scale}
use Rattle.design_problem.specs.declared.tree.Side.{Side}
use Rattle.design_problem.specs.declared.tree.Side.TheVariants.{Low as LowSide, High as HighSide}
use Rattle.design_problem.specs.declared.tree.Member.{Member}
use Rattle.design_problem.specs.declared.tree.Member.TheVariants.{Low, High, Row as ByRow}
use Rattle.design_problem.specs.declared.tree.Entry.{Entry}
use Rattle.design_problem.specs.declared.tree.Entry.TheVariants.{Tighten, Split, Halve, Refute, Undone}
use Rattle.design_problem.specs.declared.answer.Verdict.{Verdict}
use Rattle.design_problem.specs.declared.answer.Verdict.TheVariants.{Optimal, Impossible, Undecided}
use Rattle.design_problem.specs.declared.answer.Floor.{Floor}
use Rattle.design_problem.specs.declared.answer.Floor.TheVariants.{Absent, Empty, Var}
use Rattle.design_problem.specs.Text.{spaced, verdict_words, floor_word, side_word, step_word, integer, ratio_word, members_words, multiplier_words, entry_line}
use Rattle.text_lines.specs.Lines.{IsOneLine}
use Rattle.text_lines.proofs.WordLaws.{word-line, decimal-word}
use Rattle.answer_lines.specs.Words.{entry_words}
use Rattle.answer_lines.proofs.EntryWords.{entry_line-words}

-- a byte that a line may hold
abbrev pub IsNoLF : ℕ → Type 0
IsNoLF c = eqb c 10 ≡ false

-- a written line, by a test
pub written : (w : List ℕ) → list_all (λ c. not (eqb c 10)) w ≡ true → IsOneLine w
written [] h = All-nil IsNoLF
written (c ∷ cs) h =
    let parts = and_parts (not (eqb c 10)) (list_all (λ x. not (eqb x 10)) cs) h in
    All-cons IsNoLF c cs (not-true (eqb c 10) parts.0) (written cs parts.1)

-- words without an LF
abbrev pub AreWhole : List (List ℕ) → Type 0
AreWhole ws = AllByRecursion IsOneLine ws

pub spaced-whole : (ws : List (List ℕ)) → AreWhole ws → IsOneLine (spaced ws)
spaced-whole [] whole = All-nil IsNoLF
spaced-whole (w ∷ []) whole = whole.0
spaced-whole (w ∷ v ∷ vs) whole = All-append IsNoLF w (32 ∷ spaced (v ∷ vs)) whole.0 (All-cons IsNoLF 32 (spaced (v ∷ vs)) refl (spaced-whole (v ∷ vs) whole.1))

pub number-whole : (n : ℕ) → IsOneLine (decimal n)
number-whole n = word-line (decimal n) (decimal-word n)

pub numbers-whole : (ns : List ℕ) → AreWhole (map decimal ns)
numbers-whole [] = tt
numbers-whole (n ∷ ns) = (number-whole n, numbers-whole ns)

pub verdict-whole : (verdict : Verdict) → AreWhole (verdict_words verdict)
verdict-whole (Optimal k) = (written (codes "optimal") refl, (number-whole k, tt))
verdict-whole Impossible = (written (codes "impossible") refl, tt)
verdict-whole (Undecided k) = (written (codes "undecided") refl, (written (codes "budget") refl, (number-whole k, tt)))

pub floor-whole : (floor : Floor) → IsOneLine (floor_word floor)
floor-whole Absent = written (codes "none") refl
floor-whole Empty = written (codes "empty") refl
floor-whole (Var v) = number-whole v

pub side-whole : (side : Side) → IsOneLine (side_word side)
side-whole LowSide = written (codes "low") refl
side-whole HighSide = written (codes "high") refl

pub step-whole : (step : StepName) → IsOneLine (step_word step)
step-whole Add = written (codes "add") refl
step-whole Sub = written (codes "sub") refl
step-whole Mul = written (codes "mul") refl
step-whole Div = written (codes "div") refl
step-whole Lcm = written (codes "lcm") refl
step-whole Scale = written (codes "scale") refl

pub integer-whole : (z : ℤ) → IsOneLine (integer z)
integer-whole (pos n) = number-whole n
integer-whole (negsuc n) = All-cons IsNoLF 45 (decimal (n + 1)) refl (number-whole (n + 1))

pub ratio-whole : (q : Ratio) → IsOneLine (ratio_word q)
ratio-whole q =
    All-append IsNoLF (integer q.numerator) (47 ∷ integer q.denominator) (integer-whole q.numerator)
    (All-cons IsNoLF 47 (integer q.denominator) refl (integer-whole q.denominator))

pub members-whole : (ms : List Member) → AreWhole (members_words ms)
members-whole [] = tt
members-whole (Low v b ∷ ms) = (written (codes "low") refl, (number-whole v, (number-whole b, members-whole ms)))
members-whole (High v b ∷ ms) = (written (codes "high") refl, (number-whole v, (number-whole b, members-whole ms)))
members-whole (ByRow row ∷ ms) = (written (codes "row") refl, (number-whole row, members-whole ms))

pub parts-whole : (ps : List (ℕ × ℕ)) → AreWhole (multiplier_words ps)
parts-whole [] = tt
parts-whole (p ∷ ps) = (number-whole p.0, (number-whole p.1, parts-whole ps))

pub entry-whole : (entry : Entry) → AreWhole (entry_words entry)
entry-whole (Tighten v side b row) = (written (codes "tighten") refl, (number-whole v, (side-whole side, (number-whole b, (number-whole row, tt)))))
entry-whole (Split v b) = (written (codes "split") refl, (number-whole v, (number-whole b, tt)))
entry-whole (Halve v b wide) = (
  written (codes "halve") refl,
  (
    number-whole v,
    (
      number-whole b,
      (step-whole wide.step, (ratio-whole wide.left, (ratio-whole wide.right, members-whole wide.basis))),
    ),
  ),
)
entry-whole (Refute parts) = (written (codes "refute") refl, parts-whole parts)
entry-whole Undone = (written (codes "open") refl, tt)

pub entry-line : (entry : Entry) → IsOneLine (entry_line entry)
entry-line entry = subst IsOneLine (sym (entry_line-words entry)) (spaced-whole (entry_words entry) (entry-whole entry))
