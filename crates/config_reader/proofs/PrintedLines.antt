-- Lines without LF, as a test that computes.
use Rattle.std.proofs.Common.{◌≡◌, ℕ, List, [], ◌∷◌, All, Bool, true, false, ◌&&◌, not, refl, eqb}
use Rattle.std.specs.Prelude.{◌==◌}
use Rattle.std.specs.List.{list_all}
use Rattle.std.proofs.lemmas.Bool.{and_parts, or_parts, not-true}
use Rattle.std.proofs.lemmas.List.Elements.{All-head, All-tail, All-cons, All-nil}
use Rattle.cost_base.specs.Words.{is_blank, ends_a_word}
use Rattle.text_lines.specs.Lines.{lines, with_ends, IsOneLine}
use Rattle.text_lines.proofs.LineLaws.{lines-concat}

-- no byte ends the line
abbrev pub lacks_end : List ℕ → Bool
lacks_end [] = true
lacks_end (c ∷ cs) = not (c == 10) && lacks_end cs

pub word_lacks_end : (name : List ℕ) → All (λ c. ends_a_word c ≡ false) name → lacks_end name ≡ true
word_lacks_end [] whole = refl
word_lacks_end (c ∷ cs) whole =
    let here = or_parts (is_blank c) (c == 10) (All-head (λ x. ends_a_word x ≡ false) c cs whole) in
    let rest = word_lacks_end cs (All-tail (λ x. ends_a_word x ≡ false) c cs whole) in
    rw (here.1, rest)

-- a line that passes the test is one line
pub one_line : (line : List ℕ) → lacks_end line ≡ true → IsOneLine line
one_line [] lacks = All-nil (λ c. eqb c 10 ≡ false)
one_line (c ∷ cs) lacks =
    let parts = and_parts (not (c == 10)) (lacks_end cs) lacks in
    All-cons (λ x. eqb x 10 ≡ false) c cs (not-true (eqb c 10) parts.0) (one_line cs parts.1)

abbrev pub all_lack_end : List (List ℕ) → Bool
all_lack_end ls = list_all lacks_end ls

one_lines : (ls : List (List ℕ)) → all_lack_end ls ≡ true → All IsOneLine ls
one_lines [] lack = All-nil IsOneLine
one_lines (line ∷ ls) lack =
    let parts = and_parts (lacks_end line) (all_lack_end ls) lack in
    All-cons IsOneLine line ls (one_line line parts.0) (one_lines ls parts.1)

-- lines that are printed with their ends are the lines of the text
pub lines-with_ends : (ls : List (List ℕ)) → all_lack_end ls ≡ true → lines (with_ends ls) ≡ ls
lines-with_ends ls lack = lines-concat ls (one_lines ls lack)
