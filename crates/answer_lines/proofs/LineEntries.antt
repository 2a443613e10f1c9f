-- Tree lines by their words.
use Rattle.std.proofs.Common.{◌≡◌, ◌≢◌, ℕ, ◌+◌, List, [], ◌∷◌, codes, eqb, false, ℤ, pos, negsuc, MatchOption, Option, Some, None, refl, sym, ap, ◌∙◌}
use Rattle.std.specs.List.{AllByRecursion}
use Rattle.std.proofs.lemmas.List.Elements.{All-cons, All-append}
use Rattle.cost_base.specs.Decimal.{decimal}
use Rattle.cost_base.specs.declared.Ratio.{Ratio}
use Rattle.cost_base.specs.declared.StepName.{StepName}
use Rattle.cost_base.specs.declared.StepName.TheVariants.{Add, Sub, Mul, Div, Lcm, Scale}
use Rattle.cost_base.proofs.ListLemmas.{all_from_each}
use Rattle.cost_base.specs.Words.{HasNoSpace}
use Rattle.design_problem.specs.declared.tree.Side.{Side}
use Rattle.design_problem.specs.declared.tree.Side.TheVariants.{Low as LowSide, High as HighSide}
use Rattle.design_problem.specs.declared.tree.Member.{Member}
use Rattle.design_problem.specs.declared.tree.Member.TheVariants.{Low, High, Row}
use Rattle.design_problem.specs.declared.tree.Entry.{Entry}
use Rattle.design_problem.specs.declared.tree.Entry.TheVariants.{Tighten, Split, Halve, Refute, Undone}
use Rattle.design_problem.specs.AnswerRanges.{BoundsEntry}
use Rattle.design_problem.specs.Text.{spaced, integer, side_word, step_word, ratio_word, members_words, multiplier_words, entry_line, FitsEntry}
use Rattle.text_lines.specs.Numbers.{split}
use Rattle.answer_lines.specs.Words.{entry_words, SaysEntry, SaysNoEntry}
use Rattle.answer_lines.proofs.EntryWords.{entry_line-words}
use Rattle.answer_lines.proofs.SpacedWords.{spaceless-from, decimal-spaceless, split-spaced, spaced-split}

pub side-spaceless : (side : Side) → HasNoSpace (side_word side)
side-spaceless LowSide = spaceless-from (codes "low") refl
side-spaceless HighSide = spaceless-from (codes "high") refl

pub step-spaceless : (step : StepName) → HasNoSpace (step_word step)
step-spaceless Add = spaceless-from (codes "add") refl
step-spaceless Sub = spaceless-from (codes "sub") refl
step-spaceless Mul = spaceless-from (codes "mul") refl
step-spaceless Div = spaceless-from (codes "div") refl
step-spaceless Lcm = spaceless-from (codes "lcm") refl
step-spaceless Scale = spaceless-from (codes "scale") refl

integer-spaceless : (z : ℤ) → HasNoSpace (integer z)
integer-spaceless (pos n) = decimal-spaceless n
integer-spaceless (negsuc n) = All-cons (λ c. eqb c 32 ≡ false) 45 (decimal (n + 1)) refl (decimal-spaceless (n + 1))

pub ratio-spaceless : (q : Ratio) → HasNoSpace (ratio_word q)
ratio-spaceless q =
    All-append (λ c. eqb c 32 ≡ false) (integer q.numerator) (47 ∷ integer q.denominator) (integer-spaceless q.numerator)
    (All-cons (λ c. eqb c 32 ≡ false) 47 (integer q.denominator) refl (integer-spaceless q.denominator))

-- each word is without spaces
abbrev Plain : List (List ℕ) → Type 0
Plain ws = AllByRecursion HasNoSpace ws

members-plain : (ms : List Member) → Plain (members_words ms)
members-plain [] = tt
members-plain (Low v b ∷ ms) = (spaceless-from (codes "low") refl, (decimal-spaceless v, (decimal-spaceless b, members-plain ms)))
members-plain (High v b ∷ ms) = (spaceless-from (codes "high") refl, (decimal-spaceless v, (decimal-spaceless b, members-plain ms)))
members-plain (Row row ∷ ms) = (spaceless-from (codes "row") refl, (decimal-spaceless row, members-plain ms))

parts-plain : (ps : List (ℕ × ℕ)) → Plain (multiplier_words ps)
parts-plain [] = tt
parts-plain (p ∷ ps) = (decimal-spaceless p.0, (decimal-spaceless p.1, parts-plain ps))

entry-plain : (entry : Entry) → Plain (entry_words entry)
entry-plain (Tighten v side b row) = (
  spaceless-from (codes "tighten") refl,
  (decimal-spaceless v, (side-spaceless side, (decimal-spaceless b, (decimal-spaceless row, tt)))),
)
entry-plain (Split v b) = (spaceless-from (codes "split") refl, (decimal-spaceless v, (decimal-spaceless b, tt)))
entry-plain (Halve v b wide) = (
  spaceless-from (codes "halve") refl,
  (
    decimal-spaceless v,
    (
      decimal-spaceless b,
      (
        step-spaceless wide.step,
        (ratio-spaceless wide.left, (ratio-spaceless wide.right, members-plain wide.basis)),
      ),
    ),
  ),
)
entry-plain (Refute parts) = (spaceless-from (codes "refute") refl, parts-plain parts)
entry-plain Undone = (spaceless-from (codes "open") refl, tt)

some_pieces : (ws : List (List ℕ)) → ws ≢ [] → Plain ws → split 32 (spaced ws) ≡ ws
some_pieces [] some plain = absurd (some refl)
some_pieces (w ∷ ws) some plain = split-spaced w ws (all_from_each HasNoSpace (w ∷ ws) plain)

entry-some : (entry : Entry) → entry_words entry ≢ []
entry-some (Tighten v side b row) e = cc
entry-some (Split v b) e = cc
entry-some (Halve v b wide) e = cc
entry-some (Refute parts) e = cc
entry-some Undone e = cc

-- the words of a tree line are its pieces
pub pieces-entry : (entry : Entry) → split 32 (spaced (entry_words entry)) ≡ entry_words entry
pieces-entry entry = some_pieces (entry_words entry) (entry-some entry) (entry-plain entry)

-- the entry that a line's words say is the entry of the line
pub line_found : (line : List ℕ) (found : Option Entry) → MatchOption found (SaysNoEntry (split 32 line)) (λ e. SaysEntry (split 32 line) e) →
    MatchOption found ((e : Entry) → BoundsEntry e → FitsEntry e → line ≢ entry_line e) (λ e. BoundsEntry e × FitsEntry e × (line ≡ entry_line e))
line_found line None h =
    λ entry bounds fits e. h entry (record { bounds = bounds; fits = fits; is = ap (split 32) (e ∙ entry_line-words entry) ∙ pieces-entry entry })
line_found line (Some entry) h = (h.bounds, h.fits, sym (spaced-split line) ∙ ap spaced h.is ∙ sym (entry_line-words entry))
