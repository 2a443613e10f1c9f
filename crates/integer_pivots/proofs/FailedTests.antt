-- Tests that tell whether something holds.
use Rattle.std.proofs.Common.{◌≡◌, Bool, true, false, sym, ◌∙◌}
use Rattle.std.specs.Prelude.{◌↔◌, IsTrue}

clash : false ≡ true → ⊥
clash h = cc

-- what a test that failed tells
pub failed : {A : Type 0} (test : Bool) → test ≡ false → IsTrue test ↔ A → A → ⊥
failed test is_false told a = clash (sym is_false ∙ told.1 a)

-- where it doesn't hold the answer is no
pub never : {A : Type 0} → (A → ⊥) → IsTrue false ↔ A
never refused = (λ holds. absurd (clash holds), λ a. absurd (refused a))
