-- Lines to which words are added.
use Rattle.std.proofs.Common.{◌≡◌, ℕ, ◌+◌, ◌<◌, ◌≤◌, List, [], ◌∷◌, ◌++◌, length, map, get_or, drop, refl, ap, ◌∙◌, length-append, arith}
use Rattle.std.proofs.lemmas.List.{at_drop_more}
use Rattle.cost_base.specs.Decimal.{decimal}
use Rattle.design_problem.specs.declared.tree.Member.{Member}
use Rattle.design_problem.specs.Text.{member_words, members_words, multiplier_words}
use Rattle.line_builder.specs.Words.{with_words}

-- words in two groups
pub with_words-append : (line : List ℕ) (xs ys : List (List ℕ)) → with_words line (xs ++ ys) ≡ with_words (with_words line xs) ys
with_words-append line [] ys = refl
with_words-append line (x ∷ xs) ys = with_words-append (line ++ 32 ∷ x) xs ys

-- a line is no longer than its longer form
pub length-with_words : (line : List ℕ) (words : List (List ℕ)) → length line ≤ length (with_words line words)
length-with_words line [] = omega arith
length-with_words line (word ∷ words) = omega (arith, length-append line (32 ∷ word), length-with_words (line ++ 32 ∷ word) words)

-- what will be a short line is short
pub room_left : (line total : List ℕ) (words : List (List ℕ)) → with_words line words ≡ total → length total ≤ 65536 → length line ≤ 65536
room_left line total words e h = omega (arith, length-with_words line words, ap length e)

-- one more number
pub numbers_turn : (line numbers : List ℕ) (i d : ℕ) → i < length numbers →
    with_words line (map decimal (drop i numbers)) ≡ with_words (line ++ 32 ∷ decimal (get_or numbers i d))
    (map decimal (drop (i + 1) numbers))
numbers_turn line numbers i d h = at_drop_more (λ rest. with_words line (map decimal rest)) numbers i d h

-- one more member
pub members_turn : (line : List ℕ) (members : List Member) (i : ℕ) (d : Member) → i < length members →
    with_words line (members_words (drop i members)) ≡ with_words (with_words line (member_words (get_or members i d)))
    (members_words (drop (i + 1) members))
members_turn line members i d h =
    at_drop_more (λ rest. with_words line (members_words rest)) members i d h
    ∙ with_words-append line (member_words (get_or members i d)) (members_words (drop (i + 1) members))

-- one more row with its multiplier
pub parts_turn : (line : List ℕ) (parts : List (ℕ × ℕ)) (i : ℕ) (d : ℕ × ℕ) → i < length parts →
    with_words line (multiplier_words (drop i parts))
    ≡ with_words ((line ++ 32 ∷ decimal (get_or parts i d).0) ++ 32 ∷ decimal (get_or parts i d).1)
    (multiplier_words (drop (i + 1) parts))
parts_turn line parts i d h = at_drop_more (λ rest. with_words line (multiplier_words rest)) parts i d h
