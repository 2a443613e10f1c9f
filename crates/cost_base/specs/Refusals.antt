-- What is so of a refusal.
use Rattle.cost_base.specs.declared.refusal.Refusal.{Refusal}
use Rattle.cost_base.specs.declared.refusal.Refusal.TheVariants.{Refused, OutOfMemory}

-- this of the fault and its place, or that where memory was wanting
abbrev pub MatchRefusal : {F P : Type 0} → Refusal F P → (F → P → Type 0) → Type 0 → Type 0
MatchRefusal (Refused fault place) AtFault Wanting = AtFault fault place
MatchRefusal OutOfMemory AtFault Wanting = Wanting

-- this of the fault and its place, where there is one
abbrev pub OnRefused : {F P : Type 0} → Refusal F P → (F → P → Type 0) → Type 0
OnRefused refusal AtFault = MatchRefusal refusal AtFault (Unit {0})
