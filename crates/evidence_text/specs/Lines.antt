-- Texts of lines, and what putting them does to a sink.
use Rattle.std.specs.Prelude.{ℕ, ◌≤◌, List, length, All, Option, Result, OnOk, OnErr}
use Rattle.cost_base.specs.Outside.{GotAll, GotPart, HasCause}

-- no line passes 65,536 bytes
abbrev pub AreShort : List (List ℕ) → Type 0
AreShort lines = All (λ line. length line ≤ 65536) lines

-- the sink got the whole piece or, where the call was refused, a part of it, and the refusal has its cause in the sink
pub record IsPieceHanded {T E : Type 0} (before now : Option (List ℕ)) (faults_before faults_now : ℕ) (piece : List ℕ) (result : Result T E) : Type 0 where
  pub whole : OnOk result (GotAll before now piece)
  pub part : OnErr result (GotPart before now piece)
  pub cause : HasCause faults_before faults_now result
