-- The constants of the lines before the index fit.
use Rattle.std.proofs.Common.{◌*◌, ◌^◌, ◌≤◌, nat_abs, take, All}
use Rattle.table_kernel.specs.Numbers.{share_of}
use Rattle.table_kernel.proofs.kernel.Kernel.constants_fit.Given as goal

abbrev pub invariant-loop-var : goal.invariant-loop-var
invariant-loop-var l = All (λ line. nat_abs line.constant * share_of (nat_abs l.common) line ≤ 2 ^ 44) (take l.var l.self.lows.items)
