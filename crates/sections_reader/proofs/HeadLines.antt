-- The heads of a text.
use Rattle.std.proofs.Common.{◌≡◌, ℕ, List, [], ◌∷◌, ◌++◌, Some, refl, ap, ◌∙◌}
use Rattle.cost_base.specs.Lists.{first_of}
use Rattle.text_lines.specs.Lines.{lines, IsOneLine}
use Rattle.text_lines.proofs.LineLaws.{lines-cons, lines-one}
use Rattle.answer_lines.specs.declared.other_text.OtherText.{OtherText}
use Rattle.answer_lines.specs.declared.other_text.OtherText.TheVariants.{Total, Spread, Change}
use Rattle.sections_reader.specs.Stages.{heads_of}
use Rattle.sections_reader.specs.Texts.{text_by_head, text_of_bytes, top_lines}

-- bytes without an LF are told by themselves
pub head-alone : (bytes : List ℕ) → IsOneLine bytes → text_of_bytes bytes ≡ text_by_head (Some bytes)
head-alone [] one = refl
head-alone (c ∷ cs) one = ap (λ ls. text_by_head (first_of ls)) (lines-one (c ∷ cs) (λ none. cc) one)

-- other bytes by what stands before their first LF
pub head-first : (bytes line rest : List ℕ) → bytes ≡ line ++ 10 ∷ rest → IsOneLine line → text_of_bytes bytes ≡ text_by_head (Some line)
head-first bytes line rest parts one = ap (λ ls. text_by_head (first_of ls)) (ap lines parts ∙ lines-cons line rest one)

-- the verdict stands behind the heads
pub verdict-behind : (of : OtherText) (verdict : List ℕ) → heads_of of ++ verdict ∷ [] ≡ top_lines of verdict
verdict-behind Total verdict = refl
verdict-behind Spread verdict = refl
verdict-behind Change verdict = refl
