-- What a rejection says of a refusal.
use Rattle.std.specs.Prelude.{◌≡◌, ℕ}
use Rattle.cost_base.specs.declared.refusal.Refusal.{Refusal}
use Rattle.cost_base.specs.declared.refusal.Refusal.TheVariants.{Refused, OutOfMemory}
use Rattle.report_writer.specs.declared.rejection.Rejection.{Rejection}

-- the rejection is that of a refusal: it has the number of its fault, and its place as that is widened
abbrev pub IsRejectionOf : {F P : Type 0} → (F → ℕ) → (P → ℕ → Type 0) → Refusal F P → Rejection → Type 0
IsRejectionOf numbered Widens (Refused fault place) rejection = (rejection.number ≡ numbered fault) × Widens place rejection.place
IsRejectionOf numbered Widens OutOfMemory rejection = ⊥
