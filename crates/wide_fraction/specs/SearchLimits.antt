-- The limits of a search as contracts see them.
use Rattle.std.specs.Prelude.{ℕ}
use Rattle.wide_fraction.specs.declared.limits.Limits.{Limits}

-- the limits of a search: its budget, and the greatest size of a whole number
pub record SearchLimits : Type 0 where
  pub nodes : ℕ
  pub top : ℕ

-- the limits of a search as contracts see them
abbrev pub limits_seen : Limits → SearchLimits
limits_seen limits = record { nodes = limits.nodes; top = limits.top }
