-- What waits in a heap.
use Rattle.std.specs.Prelude.{ℕ, List}
use Rattle.spf_ties.specs.declared.heap.WaitingVertex.{WaitingVertex}

-- the entries that wait, in some order, and for how many there is a place
pub record Waiting : Type 0 where
  pub entries : List WaitingVertex
  pub places : ℕ
