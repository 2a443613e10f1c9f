-- Lines of words without spaces, cut at their spaces.
use Rattle.std.proofs.Common.{◌≡◌, ℕ, List, [], ◌∷◌, All, eqb, ◌||◌, Bool, cond, true, false, map, refl, sym, ap, ◌∙◌}
use Rattle.std.proofs.lemmas.Bool.{or_parts, eqb-true, and_parts, not-true}
use Rattle.std.proofs.lemmas.List.Elements.{All-nil, All-cons, All-head, All-tail, All-weaker}
use Rattle.std.specs.List.{list_all}
use Rattle.std.specs.Prelude.{not}
use Rattle.cost_base.specs.Words.{HasNoSpace, is_blank, ends_a_word, IsOneWord}
use Rattle.cost_base.specs.Decimal.{decimal}
use Rattle.design_problem.specs.Text.{spaced}
use Rattle.text_lines.specs.Lines.{grow}
use Rattle.text_lines.specs.Numbers.{split}
use Rattle.text_lines.proofs.Pieces.{split-some}
use Rattle.text_lines.proofs.WordLaws.{decimal-word}
use Rattle.answer_lines.proofs.LineFronts.{split-front}

not_space : (c : ℕ) → ends_a_word c ≡ false → eqb c 32 ≡ false
not_space c h =
    let blank : is_blank c ≡ false = (or_parts (is_blank c) (eqb c 10) h).0 in
    let first : (eqb c 32 || eqb c 9) ≡ false = (or_parts (eqb c 32 || eqb c 9) (eqb c 13) blank).0 in
    (or_parts (eqb c 32) (eqb c 9) first).0

pub word-spaceless : (w : List ℕ) → IsOneWord w → HasNoSpace w
word-spaceless w word = All-weaker (λ c. ends_a_word c ≡ false) (λ c. eqb c 32 ≡ false) not_space w word.whole

pub decimal-spaceless : (n : ℕ) → HasNoSpace (decimal n)
decimal-spaceless n = word-spaceless (decimal n) (decimal-word n)

-- a written word, by a test
pub spaceless-from : (w : List ℕ) → list_all (λ c. not (eqb c 32)) w ≡ true → HasNoSpace w
spaceless-from [] h = All-nil (λ c. eqb c 32 ≡ false)
spaceless-from (c ∷ cs) h =
    let parts = and_parts (not (eqb c 32)) (list_all (λ x. not (eqb x 32)) cs) h in
    All-cons (λ x. eqb x 32 ≡ false) c cs (not-true (eqb c 32) parts.0) (spaceless-from cs parts.1)

pub numbers-spaceless : (ns : List ℕ) → All HasNoSpace (map decimal ns)
numbers-spaceless [] = All-nil HasNoSpace
numbers-spaceless (n ∷ ns) = All-cons HasNoSpace (decimal n) (map decimal ns) (decimal-spaceless n) (numbers-spaceless ns)

-- a word without spaces is its only piece
pub split-alone : (w : List ℕ) → HasNoSpace w → split 32 w ≡ w ∷ []
split-alone [] whole = refl
split-alone (c ∷ cs) whole =
    let other : eqb c 32 ≡ false = All-head (λ x. eqb x 32 ≡ false) c cs whole in
    rw other (ap (grow c) (split-alone cs (All-tail (λ x. eqb x 32 ≡ false) c cs whole)))

-- the pieces of spaced words are the words
pub split-spaced : (w : List ℕ) (ws : List (List ℕ)) → All HasNoSpace (w ∷ ws) → split 32 (spaced (w ∷ ws)) ≡ w ∷ ws
split-spaced w [] whole = split-alone w (All-head HasNoSpace w [] whole)
split-spaced w (v ∷ vs) whole =
    split-front 32 w (spaced (v ∷ vs)) (All-head HasNoSpace w (v ∷ vs) whole)
    ∙ ap (λ rest. w ∷ rest) (split-spaced v vs (All-tail HasNoSpace w (v ∷ vs) whole))

-- the pieces of a line, spaced again, are the line
pub spaced-split : (s : List ℕ) → spaced (split 32 s) ≡ s
spaced-split [] = refl
spaced-split (c ∷ cs) = cases (eqb c 32) refl (split 32 cs) refl (spaced-split cs)
  where
    cases : (b : Bool) → eqb c 32 ≡ b → (qs : List (List ℕ)) → split 32 cs ≡ qs → spaced qs ≡ cs → spaced (cond b ([] ∷ qs) (grow c qs)) ≡ c ∷ cs
    cases b is [] from h = absurd (split-some 32 cs from)
    cases true is (q ∷ qs) from h = ap (λ rest. 32 ∷ rest) h ∙ ap (λ x. x ∷ cs) (sym (eqb-true c 32 is))
    cases false is (q ∷ []) from h = ap (λ rest. c ∷ rest) h
    cases false is (q ∷ p ∷ ps) from h = ap (λ rest. c ∷ rest) h

-- a line by its pieces
pub from-words : (line w : List ℕ) (ws : List (List ℕ)) → split 32 line ≡ w ∷ ws → line ≡ spaced (w ∷ ws)
from-words line w ws e = sym (spaced-split line) ∙ ap spaced e

-- the pieces of a line of words without spaces
pub to-words : (line w : List ℕ) (ws : List (List ℕ)) → line ≡ spaced (w ∷ ws) → All HasNoSpace (w ∷ ws) → split 32 line ≡ w ∷ ws
to-words line w ws e whole = ap (split 32) e ∙ split-spaced w ws whole
