-- The files of a network and of what is asked of it.
use Rattle.std.specs.Prelude.{ℕ, List}

-- a request file, and configurations in their order
pub record InputFiles : Type 0 where
  pub request : List ℕ
  pub configs : List (List ℕ)
