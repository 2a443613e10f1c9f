-- Texts cut at a space.
use Rattle.std.proofs.Common.{◌≡◌, ℕ, ◌+◌, ◌<◌, ◌≤◌, List, [], ◌∷◌, ◌++◌, length, get_or, take, drop, eqb, ◌||◌, true, false, refl, sym, ap, ◌∙◌, subst, arith, length-append, length-drop, get_or-drop, add-one, Option, Some, None, codes}
use Rattle.std.proofs.lemmas.List.{append_cancel_left}
use Rattle.std.proofs.lemmas.List.Elements.{All-head, All-tail, All-weaker, All-from_get_or, All-from_recursion}
use Rattle.std.proofs.lemmas.Bool.{false_from_ne_true, or_parts}
use Rattle.cost_base.specs.Decimal.{decimal}
use Rattle.cost_base.specs.Words.{ends_a_word, is_blank}
use Rattle.text_lines.proofs.WordLaws.{decimal-word}
use Rattle.text_lines.specs.Numbers.{split}
use Rattle.text_lines.proofs.Pieces.{parts_at}
use Rattle.cost_base.specs.Words.{HasNoSpace}
use Rattle.refusal_sentences.specs.Sentences.{told_line}

-- the first piece of a text with a space
split-front : (word rest : List ℕ) → HasNoSpace word → split 32 (word ++ 32 ∷ rest) ≡ word ∷ split 32 rest
split-front [] rest none = refl
split-front (c ∷ cs) rest none =
    rw (All-head (λ x. eqb x 32 ≡ false) c cs none, split-front cs rest (All-tail (λ x. eqb x 32 ≡ false) c cs none)) refl

-- a text with a space isn't one piece
pub one_piece : (text word rest : List ℕ) → HasNoSpace word → text ≡ word ++ 32 ∷ rest → split 32 text ≡ text ∷ [] → ⊥
one_piece text word rest none is whole =
    let pieces : text ∷ [] ≡ word ∷ split 32 rest = sym whole ∙ ap (split 32) is ∙ split-front word rest none in
    let same : text ≡ word = cc in
    let lengths : length word ≡ length (word ++ 32 ∷ rest) = ap length (sym same ∙ is) in
    omega (arith, length-append word (32 ∷ rest), lengths)

-- a text is cut at its first space in one way
pub first_same : (text word rest before behind : List ℕ) → HasNoSpace word → text ≡ word ++ 32 ∷ rest →
    split 32 text ≡ before ∷ split 32 behind → text ≡ before ++ 32 ∷ behind → (before ≡ word) × (behind ≡ rest)
first_same text word rest before behind none is pieces parts =
    let both : before ∷ split 32 behind ≡ word ∷ split 32 rest = sym pieces ∙ ap (split 32) is ∙ split-front word rest none in
    let same : before ≡ word = cc in
    let tails : 32 ∷ behind ≡ 32 ∷ rest =
    append_cancel_left word (32 ∷ behind) (32 ∷ rest) (ap (λ front. front ++ 32 ∷ behind) (sym same) ∙ sym parts ∙ is) in
    (same, cc)

-- there is a space
some_space : (rest word : List ℕ) → HasNoSpace (rest ++ 32 ∷ word) → ⊥
some_space [] word none = let other : eqb 32 32 ≡ false = All-head (λ x. eqb x 32 ≡ false) 32 word none in cc
some_space (c ∷ cs) word none = some_space cs word (All-tail (λ x. eqb x 32 ≡ false) c (cs ++ 32 ∷ word) none)

-- a text is cut at its last space in one way
last_parts : (before behind rest word : List ℕ) → HasNoSpace behind → HasNoSpace word → before ++ 32 ∷ behind ≡ rest ++ 32 ∷ word →
    (before ≡ rest) × (behind ≡ word)
last_parts [] behind [] word none other is = (refl, cc)
last_parts [] behind (c ∷ cs) word none other is =
    let same : behind ≡ cs ++ 32 ∷ word = cc in
    absurd (some_space cs word (subst HasNoSpace same none))
last_parts (c ∷ cs) behind [] word none other is =
    let same : word ≡ cs ++ 32 ∷ behind = cc in
    absurd (some_space cs behind (subst HasNoSpace same other))
last_parts (c ∷ cs) behind (d ∷ ds) word none other is =
    let heads : c ≡ d = cc in
    let tails : cs ++ 32 ∷ behind ≡ ds ++ 32 ∷ word = cc in
    let (fronts, backs) = last_parts cs behind ds word none other tails in
    (cc, backs)

-- a text with a space has one at some place
pub nowhere_space : (text rest word : List ℕ) → text ≡ rest ++ 32 ∷ word → ((k : ℕ) → 0 ≤ k → k < length text → eqb (get_or text k 0) 32 ≡ true → ⊥) → ⊥
nowhere_space text rest word is nowhere =
    let none : HasNoSpace text = All-from_get_or (λ x. eqb x 32 ≡ false) text 0
    (λ k below. false_from_ne_true (eqb (get_or text k 0) 32) (λ e. nowhere k (omega arith) below e)) in
    some_space rest word (subst HasNoSpace is none)

-- the last space of a text
pub last_same : (text rest word : List ℕ) (end : ℕ) → HasNoSpace word → text ≡ rest ++ 32 ∷ word → end < length text →
    ((k : ℕ) → end + 1 ≤ k → k < length text → eqb (get_or text k 0) 32 ≡ true → ⊥) → eqb (get_or text end 0) 32 ≡ true →
    (take end text ≡ rest) × (drop (end + 1) text ≡ word)
last_same text rest word end none is within after here =
    let parts : text ≡ take end text ++ 32 ∷ drop (end + 1) text =
    parts_at 32 text end within here ∙ ap (λ n. take end text ++ 32 ∷ drop n text) (sym (add-one end)) in
    let last : HasNoSpace (drop (end + 1) text) = All-from_get_or (λ x. eqb x 32 ≡ false) (drop (end + 1) text) 0
    (λ k below. false_from_ne_true (eqb (get_or (drop (end + 1) text) k 0) 32)
    (λ e. after (end + 1 + k) (omega arith) (omega (arith, below, length-drop (end + 1) text))
    (ap (λ x. eqb x 32) (sym (get_or-drop (end + 1) text k 0)) ∙ e))) in
    last_parts (take end text) (drop (end + 1) text) rest word last none (sym parts ∙ is)

-- a printed number has no space
pub decimal-no_space : (n : ℕ) → HasNoSpace (decimal n)
decimal-no_space n =
    All-weaker (λ c. ends_a_word c ≡ false) (λ c. eqb c 32 ≡ false)
    (λ c h. (or_parts (eqb c 32) (eqb c 9) (or_parts (eqb c 32 || eqb c 9) (eqb c 13) (or_parts (is_blank c) (eqb c 10) h).0).0).0)
    (decimal n) (decimal-word n).whole

-- the words before a number have no space
pub refused-no_space : HasNoSpace (codes "refused")
refused-no_space = All-from_recursion (λ c. eqb c 32 ≡ false) (codes "refused") (refl, (refl, (refl, (refl, (refl, (refl, (refl, tt)))))))

pub rejected-no_space : HasNoSpace (codes "rejected")
rejected-no_space = All-from_recursion (λ c. eqb c 32 ≡ false) (codes "rejected") (refl, (refl, (refl, (refl, (refl, (refl, (refl, (refl, tt))))))))

-- what stands behind the first word of the line of a refusal or of a rejection
abbrev pub behind_first : ℕ → Option (List ℕ) → ℕ → List ℕ
behind_first number (Some file) place = decimal number ++ 32 ∷ (file ++ 32 ∷ decimal place)
behind_first number None place = decimal number ++ 32 ∷ decimal place

-- the first word of the line of a refusal or of a rejection
abbrev pub first_of_line : Option (List ℕ) → List ℕ
first_of_line (Some file) = codes "refused"
first_of_line None = codes "rejected"

-- the line of a refusal or of a rejection is its first word, what stands behind it, and an LF
pub line_parts : (number : ℕ) (file : Option (List ℕ)) (place : ℕ) →
    told_line number file place ≡ (first_of_line file ++ 32 ∷ behind_first number file place) ++ 10 ∷ []
line_parts number (Some file) place = refl
line_parts number None place = refl

pub first-no_space : (file : Option (List ℕ)) → HasNoSpace (first_of_line file)
first-no_space (Some file) = refused-no_space
first-no_space None = rejected-no_space
