-- The first of several meanings.
use Rattle.std.proofs.Common.{◌≡◌, ℕ, List, ◌∙◌, ap, Option, Some, None, Bor}
use Rattle.std.specs.Option.{option_copied, option_map, option_or}
use Rattle.refusal_sentences.specs.declared.meaning.Meaning.{Meaning}
use Rattle.refusal_sentences.specs.declared.place.Place.{Place}
use Rattle.refusal_sentences.specs.Meanings.{Meant, meant_at, meant_in, saying_of}

-- the meaning of a number that a table has a saying of, or none
pub meant_said : (place : Place) (sayings : List (ℕ × List ℕ)) (number : ℕ) (found : Option Meaning) (says : Option (Bor (List ℕ))) →
    option_map meant_in found ≡ option_map (λ says. record { place = place; says = says }) (option_copied says) →
    option_copied says ≡ saying_of sayings number → option_map meant_in found ≡ meant_at place sayings number
meant_said place sayings number found says is told =
    is ∙ ap (λ s. option_map (λ says. record { place = place; says = says }) s) told

-- a meaning, or else another one
pub meant_or : (one other found : Option Meaning) (x y : Option Meant) → found ≡ option_or one other →
    option_map meant_in one ≡ x → option_map meant_in other ≡ y → option_map meant_in found ≡ option_or x y
meant_or None other found x y is first second = ap (option_map meant_in) is ∙ second ∙ ap (λ o. option_or o y) first
meant_or (Some one) other found x y is first second = ap (option_map meant_in) is ∙ ap (λ o. option_or o y) first
