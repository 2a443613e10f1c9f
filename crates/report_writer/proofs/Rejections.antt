-- What is so of a refusal's number and place is so of its rejection's.
use Rattle.std.proofs.Common.{◌≡◌, ℕ, refl, sym, subst}
use Rattle.cost_base.specs.declared.refusal.Refusal.{Refusal}
use Rattle.cost_base.specs.declared.refusal.Refusal.TheVariants.{Refused, OutOfMemory}
use Rattle.report_writer.specs.declared.rejection.Rejection.{Rejection}
use Rattle.report_writer.specs.Rejections.{IsRejectionOf}

pub rejected_as : {F : Type 0} (numbered : F → ℕ) (refusal : Refusal F ℕ) (rejection : Rejection) (Holds : ℕ → ℕ → Type 0) →
    IsRejectionOf numbered (λ place wide. wide ≡ place) refusal rejection →
    ((fault : F) (place : ℕ) → refusal ≡ Refused fault place → Holds (numbered fault) place) → Holds rejection.number rejection.place
rejected_as numbered (Refused fault place) rejection Holds is holds =
    subst (λ (n : ℕ). Holds n rejection.place) (sym is.0) (subst (λ (p : ℕ). Holds (numbered fault) p) (sym is.1) (holds fault place refl))
rejected_as numbered OutOfMemory rejection Holds is holds = absurd is
