-- A denominator above 2^30.
use Rattle.std.proofs.Common.{◌≡◌, subst, true}
use Rattle.std.specs.Prelude.{ℤ}
use Rattle.std.specs.Int.Signed.{lt_z}
use Rattle.table_kernel.proofs.WideNumbers.{read_of}
use Rattle.table_kernel.proofs.ReadRows.{large_multiple}
use Rattle.table_kernel.proofs.read_back.with_denominator.Goals as goal

pub returns-then-denominator-from : goal.returns-then-denominator-from
returns-then-denominator-from c =
    let d = c.denominator-denominator in
    large_multiple c.args.common d.result c.args.value c.requires.common.0 d.ensures.kept d.ensures.value
    (subst (λ (z : ℤ). lt_z (read_of z) (read_of d.result) ≡ true) c.from.ensures c.if-denominator-from.true)
