-- Facts that hold exactly where others do.
use Rattle.std.proofs.Common.{◌≡◌, Bool, true, false, IsTrue, ◌↔◌, ◌⊎◌, inl, inr, sym, ◌∙◌}
use Rattle.answer_lines.proofs.ListParts.{not-both}

pub through : {A B C : Type 0} → A ↔ B → B ↔ C → A ↔ C
through f g = (λ a. g.0 (f.0 a), λ c. f.1 (g.1 c))

-- `a || b` where a holds
pub either-first : {A B : Type 0} (a v : Bool) → IsTrue a ↔ A → a ≡ true → v ≡ a → IsTrue v ↔ (A ⊎ B)
either-first a v first is same = (λ yes. inl (first.0 is), λ begun. same ∙ is)

-- `a || b` where a doesn't hold
pub either-second : {A B : Type 0} (a b v : Bool) → IsTrue a ↔ A → IsTrue b ↔ B → a ≡ false → v ≡ b → IsTrue v ↔ (A ⊎ B)
either-second a b v first second isnt same = (
  λ yes. inr (second.0 (sym same ∙ yes)),
  λ begun. elim begun [ inl x ↦ absurd (not-both a (first.1 x) isnt) | inr y ↦ same ∙ second.1 y ],
)

-- `a && b` where a doesn't hold
pub both-first : {A B : Type 0} (a v : Bool) → IsTrue a ↔ A → a ≡ false → v ≡ a → IsTrue v ↔ (A × B)
both-first a v first isnt same = (λ yes. absurd (not-both a (sym same ∙ yes) isnt), λ both. absurd (not-both a (first.1 both.0) isnt))

-- `a && b` where a holds
pub both-second : {A B : Type 0} (a b v : Bool) → IsTrue a ↔ A → IsTrue b ↔ B → a ≡ true → v ≡ b → IsTrue v ↔ (A × B)
both-second a b v first second is same = (λ yes. (first.0 is, second.0 (sym same ∙ yes)), λ both. same ∙ second.1 both.1)
