-- A wanted path as it is written.
use Rattle.std.specs.Prelude.{ℕ, List}

-- a path as it is written: its hops, each a router and its interface, and its last router
pub record Route : Type 0 where
  pub hops : List (List ℕ × List ℕ)
  pub last : List ℕ
