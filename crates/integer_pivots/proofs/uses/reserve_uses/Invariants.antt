-- The lists before the index have room, and all hold what they held.
use Rattle.std.specs.declared.alloc.Global.{Global}
use Rattle.std.proofs.Common.{Vec, ◌≡◌, ℕ, ◌<◌, get_or}
use Rattle.std.specs.Prelude.{vec_capacity, vec_len}
use Rattle.integer_pivots.specs.declared.uses.Use.{Use}
use Rattle.integer_pivots.specs.Uses.{uses_in}
use Rattle.integer_pivots.proofs.uses.reserve_uses.Given as goal

abbrev pub invariant-loop-var : goal.invariant-loop-var
invariant-loop-var l = record {
  same : uses_in l.uses ≡ uses_in l.initial.uses;
  room : (k : ℕ) (d : Vec Use Global) → k < l.var → vec_len (get_or l.uses k d) < vec_capacity (get_or l.uses k d);
}
