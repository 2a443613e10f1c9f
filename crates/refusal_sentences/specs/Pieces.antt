-- A sink that keeps what was put first.
use Rattle.std.specs.Prelude.{◌≡◌, ◌⊎◌, ℕ, List, [], true, false}
use Rattle.refusal_sentences.specs.declared.first_piece.FirstPiece.{FirstPiece}

-- the bytes that a sink of the first piece keeps
abbrev pub kept : {K : Type 0} → FirstPiece K → List ℕ
kept sink = sink.first.items

-- nothing was put, and nothing is kept
pub record IsUnused {K : Type 0} (sink : FirstPiece K) : Type 0 where
  pub unbegun : sink.begun ≡ false
  pub empty : kept sink ≡ []

-- a piece was put: where it was the first, it is kept or nothing is; else what was kept stays
pub record KeepsFirst {K : Type 0} (before now : FirstPiece K) (piece : List ℕ) : Type 0 where
  pub begun : now.begun ≡ true
  pub first : IsUnused before → kept now ≡ piece ⊎ kept now ≡ []
  pub later : before.begun ≡ true → kept now ≡ kept before
