-- Lines by their fronts, and the first line of a text.
use Rattle.std.proofs.Common.{◌≡◌, ◌≢◌, ℕ, ◌≤◌, List, [], ◌∷◌, ◌++◌, All, eqb, Bool, cond, true, false, MatchOption, Option, Some, None, refl, sym, ap, subst, ◌∙◌}
use Rattle.std.proofs.lemmas.Bool.{eq-eqb, true≢false}
use Rattle.std.proofs.lemmas.List.{append_cancel_left}
use Rattle.std.proofs.lemmas.List.Elements.{All-nil, All-cons, All-head, All-tail}
use Rattle.cost_base.specs.Decimal.{decimal}
use Rattle.cost_base.proofs.ListLemmas.{All-right}
use Rattle.text_lines.specs.Lines.{lines, grow, IsOneLine}
use Rattle.text_lines.specs.Numbers.{split}
use Rattle.text_lines.proofs.LineLaws.{lines-cons}
use Rattle.text_lines.proofs.Pieces.{split-some}
use Rattle.answer_lines.specs.Places.{IsFirstInText, LacksFirst}

-- the number that stands behind a front
pub number_behind : (line front text : List ℕ) (g : ℕ) (r : Option ℕ) → line ≡ front ++ text →
    MatchOption r ((n : ℕ) → n ≤ g → text ≢ decimal n) (λ n. (text ≡ decimal n) × (n ≤ g)) →
    MatchOption r ((n : ℕ) → n ≤ g → line ≢ front ++ decimal n) (λ n. (n ≤ g) × (line ≡ front ++ decimal n))
number_behind line front text g None is h = λ n small e. h n small (append_cancel_left front text (decimal n) (sym is ∙ e))
number_behind line front text g (Some n) is h = (h.1, is ∙ ap (λ t. front ++ t) h.0)

-- the bytes before the first c are the first piece
pub split-front : (c : ℕ) (a rest : List ℕ) → All (λ x. eqb x c ≡ false) a → split c (a ++ c ∷ rest) ≡ a ∷ split c rest
split-front c [] rest others = rw (eq-eqb c c refl)
split-front c (x ∷ xs) rest others =
    let other : eqb x c ≡ false = All-head (λ y. eqb y c ≡ false) x xs others in
    rw other (ap (grow x) (split-front c xs rest (All-tail (λ y. eqb y c ≡ false) x xs others)))

-- no piece holds c
pub split-whole : (c : ℕ) (s p : List ℕ) (ps : List (List ℕ)) → split c s ≡ p ∷ ps → All (λ x. eqb x c ≡ false) p
split-whole c [] p ps e = let empty : [] ≡ p = cc in rw (← empty) (All-nil (λ x. eqb x c ≡ false))
split-whole c (x ∷ xs) p ps e = cases (eqb x c) refl (split c xs) refl e (split-whole c xs)
  where
    cases : (b : Bool) → eqb x c ≡ b → (qs : List (List ℕ)) → split c xs ≡ qs → cond b ([] ∷ qs) (grow x qs) ≡ p ∷ ps →
        ((q : List ℕ) (more : List (List ℕ)) → split c xs ≡ q ∷ more → All (λ y. eqb y c ≡ false) q) → All (λ y. eqb y c ≡ false) p
    cases true is qs from h rest = let empty : [] ≡ p = cc in rw (← empty) (All-nil (λ y. eqb y c ≡ false))
    cases false is [] from h rest = absurd (split-some c xs from)
    cases false is (q ∷ qs) from h rest =
        let front : x ∷ q ≡ p = cc in
        rw (← front) (All-cons (λ y. eqb y c ≡ false) x q is (rest q qs from))

-- a text with an LF has one first line
pub first_line-one : (a b x y : List ℕ) → IsOneLine a → IsOneLine b → a ++ 10 ∷ x ≡ b ++ 10 ∷ y → (a ≡ b) × (x ≡ y)
first_line-one a b x y one other e =
    let heads : a ∷ lines x ≡ b ∷ lines y = sym (lines-cons a x one) ∙ ap lines e ∙ lines-cons b y other in
    let same : a ≡ b = cc in
    let tails : 10 ∷ x ≡ 10 ∷ y = append_cancel_left a (10 ∷ x) (10 ∷ y) (e ∙ ap (λ front. front ++ 10 ∷ y) (sym same)) in
    (same, cc)

-- a text with an LF is no line
pub not-one : (a b : List ℕ) → IsOneLine (a ++ 10 ∷ b) → ⊥
not-one a b one = true≢false (All-head (λ c. eqb c 10 ≡ false) 10 b (All-right (λ c. eqb c 10 ≡ false) a (10 ∷ b) one))

-- one line has no first line that ends with an LF
pub no_first : (s : List ℕ) → IsOneLine s → LacksFirst s
no_first s one line left first = not-one line left (subst IsOneLine first.parts one)

-- the first line of a text is one
pub first-one : (bytes a b x y : List ℕ) → IsFirstInText bytes a x → bytes ≡ b ++ 10 ∷ y → IsOneLine b → (a ≡ b) × (x ≡ y)
first-one bytes a b x y first parts one = first_line-one a b x y first.one one (sym first.parts ∙ parts)
