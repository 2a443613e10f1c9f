-- Lines with their ends.
use Rattle.std.proofs.Common.{◌≡◌, ◌≢◌, ℕ, List, [], ◌∷◌, ◌++◌, Bool, true, false, eqb, Option, Some, None, refl, sym, ap, ◌∙◌, append-nil}
use Rattle.std.proofs.lemmas.List.Elements.{All-head, All-tail}
use Rattle.text_lines.specs.Lines.{lines, grow, IsOneLine, ended}
use Rattle.text_lines.specs.Reading.{IsFirstLine, line_end}
use Rattle.text_lines.proofs.LineLaws.{line-whole}
use Rattle.config_reader.specs.Sections.{section_cost_line}
use Rattle.config_writer.specs.Rewriting.{whole_lines, written_for}
use Rattle.config_writer.specs.Writing.{put_for}

-- a line with its LF before a text
pub whole_lines-cons : (line rest : List ℕ) → IsOneLine line → whole_lines (line ++ 10 ∷ rest) ≡ (line ++ 10 ∷ []) ∷ whole_lines rest
whole_lines-cons [] rest one = refl
whole_lines-cons (c ∷ cs) rest one =
    let other : eqb c 10 ≡ false = All-head (λ x. eqb x 10 ≡ false) c cs one in
    rw other (ap (grow c) (whole_lines-cons cs rest (All-tail (λ x. eqb x 10 ≡ false) c cs one)))

-- a line without LF
pub whole_lines-one : (line : List ℕ) → line ≢ [] → IsOneLine line → whole_lines line ≡ line ∷ []
whole_lines-one [] some one = absurd (some refl)
whole_lines-one (c ∷ []) some one =
    let other : eqb c 10 ≡ false = All-head (λ x. eqb x 10 ≡ false) c [] one in
    rw other
whole_lines-one (c ∷ d ∷ ds) some one =
    let other : eqb c 10 ≡ false = All-head (λ x. eqb x 10 ≡ false) c (d ∷ ds) one in
    rw other (ap (grow c) (whole_lines-one (d ∷ ds) (λ e. cc) (All-tail (λ x. eqb x 10 ≡ false) c (d ∷ ds) one)))

-- a line ends with an LF, or it is the last, and not empty
pub record IsCut (bytes line : List ℕ) (end : Bool) (left : List ℕ) : Type 0 where
  pub one : IsOneLine line
  pub parts : bytes ≡ line ++ (line_end end ++ left)
  pub last : end ≡ false → (line ≢ []) × (left ≡ [])

pub first_cut : (bytes line : List ℕ) (end : Bool) (left : List ℕ) → IsFirstLine bytes line end left → IsCut bytes line end left
first_cut bytes line end left first = record {
  one = line-whole bytes line (lines left) first.first;
  parts = first.parts;
  last = λ open_ended. (some open_ended, first.last open_ended);
}
  where
    some : end ≡ false → line ≢ []
    some open_ended none =
        let empty : bytes ≡ [] = first.parts ∙ ap (λ e. line ++ (line_end e ++ left)) open_ended
        ∙ ap (λ l. line ++ l) (first.last open_ended) ∙ append-nil line ∙ none in
        let no_line : [] ≡ line ∷ lines left = ap lines (sym empty) ∙ first.first in
        cc

-- the first line of a text, whole
pub whole_first : (bytes line : List ℕ) (end : Bool) (left : List ℕ) → IsCut bytes line end left → whole_lines bytes ≡ (line ++ line_end end) ∷ whole_lines left
whole_first bytes line true left cut = ap whole_lines cut.parts ∙ whole_lines-cons line left cut.one
whole_first bytes line false left cut =
    let done = cut.last refl in
    ap whole_lines (cut.parts ∙ ap (λ l. line ++ l) done.1 ∙ append-nil line)
    ∙ whole_lines-one line done.0 cut.one
    ∙ ap (λ l. line ∷ whole_lines l) (sym done.1)
    ∙ ap (λ l. l ∷ whole_lines left) (sym (append-nil line))

-- an LF that is there stays the only one
ended_kept : (line : List ℕ) → ended (line ++ 10 ∷ []) ≡ line ++ 10 ∷ []
ended_kept [] = refl
ended_kept (c ∷ []) = refl
ended_kept (c ∷ d ∷ cs) = ap (λ l. c ∷ l) (ended_kept (d ∷ cs))

ended_given : (line : List ℕ) → line ≢ [] → IsOneLine line → ended line ≡ line ++ 10 ∷ []
ended_given [] some one = absurd (some refl)
ended_given (c ∷ []) some one =
    let other : eqb c 10 ≡ false = All-head (λ x. eqb x 10 ≡ false) c [] one in
    rw other
ended_given (c ∷ d ∷ cs) some one = ap (λ l. c ∷ l) (ended_given (d ∷ cs) (λ e. cc) (All-tail (λ x. eqb x 10 ≡ false) c (d ∷ cs) one))

pub ended-line : (bytes line : List ℕ) (end : Bool) (left : List ℕ) → IsCut bytes line end left → ended (line ++ line_end end) ≡ line ++ 10 ∷ []
ended-line bytes line true left cut = ended_kept line
ended-line bytes line false left cut = ap ended (append-nil line) ∙ ended_given line (cut.last refl).0 cut.one

-- what is put for a line is what is written for it with its end
pub put_written : (replaced : Bool) (behind : Option ℕ) (bytes line : List ℕ) (end : Bool) (left : List ℕ) → IsCut bytes line end left →
    put_for replaced behind line end ≡ written_for replaced behind (line ++ line_end end)
put_written true behind bytes line end left cut = refl
put_written false None bytes line end left cut = refl
put_written false (Some n) bytes line end left cut = ap (λ l. l ++ (section_cost_line n ++ 10 ∷ [])) (sym (ended-line bytes line end left cut))
