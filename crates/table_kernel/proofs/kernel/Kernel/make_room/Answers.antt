-- The kernel with more room is one, and may be left as before.
use Rattle.std.specs.declared.alloc.Global.{Global}
use Rattle.std.proofs.Common.{Vec, ◌≡◌, refl, arith}
use Rattle.std.specs.Prelude.{ℤ}
use Rattle.std.specs.Vec.{with_items}
use Rattle.fraction_table.specs.declared.table.Table.{Table}
use Rattle.integer_pivots.specs.declared.uses.Use.{Use}
use Rattle.integer_pivots.specs.Uses.{uses_in}
use Rattle.integer_pivots.proofs.UseLaws.{uses_lent}
use Rattle.table_kernel.specs.declared.kernel.Kernel.{Kernel}
use Rattle.table_kernel.specs.Rows.{HoldsNumbers}
use Rattle.table_kernel.proofs.ParkedKernels.{parked_same}
use Rattle.table_kernel.proofs.SameKernels.{kernel_same, same_table}
use Rattle.table_kernel.proofs.kernel.Kernel.make_room.Goals.{After-reserve_uses}
use Rattle.table_kernel.proofs.kernel.Kernel.make_room.Goals as goal

-- lists with more room hold the same numbers and uses
held : (k : Kernel) (table : Table) (constants : Vec ℤ Global) (uses : Vec (Vec Use Global) Global) → constants.items ≡ k.constants.items →
    uses_in uses.items ≡ uses_in k.uses.items → HoldsNumbers k (record k { table = table; constants = constants; uses = uses })
held k table constants uses constants_are uses_are = record {
  common = refl;
  lows = refl;
  leads = refl;
  constants = constants_are;
  uses = uses_are;
  turns = refl;
  left = omega arith;
  entering = refl;
}

-- the lists of uses that were lent hold the same uses
uses_held : (c : After-reserve_uses) → uses_in (with_items c.args.self.now.uses c.reserve_uses.new.uses).items ≡ uses_in c.args.self.now.uses.items
uses_held c =
    let lists = c.args.self.now.uses in
    uses_lent lists.len lists.items c.as_mut_slice.result.now c.reserve_uses.new.uses c.as_mut_slice.ensures.value
    lists.ok.0 c.reserve_uses.auto.uses c.reserve_uses.ensures.same

pub returns-then-is_err-clause-kernel : goal.returns-then-is_err-clause-kernel
returns-then-is_err-clause-kernel c =
    let k = c.args.self.now in
    kernel_same k _ (same_table k.table) (held k _ _ _ c.reserve.ensures.items refl)

pub returns-in_err-reserve_uses-clause-kernel : goal.returns-in_err-reserve_uses-clause-kernel
returns-in_err-reserve_uses-clause-kernel c =
    let k = c.args.self.now in
    kernel_same k _ (same_table k.table)
    (held k _ _ _ c.reserve.ensures.items (uses_held (goal.at.returns-in_err-reserve_uses-clause-kernel c).After-reserve_uses))

pub returns-clause-kernel : goal.returns-clause-kernel
returns-clause-kernel c =
    let k = c.args.self.now in
    kernel_same k _ c.make_room.ensures.same
    (held k _ _ _ c.reserve.ensures.items (uses_held (goal.at.returns-clause-kernel c).After-reserve_uses))

pub returns-then-is_err-clause-parked : goal.returns-then-is_err-clause-parked
returns-then-is_err-clause-parked c =
    let k = c.args.self.now in
    parked_same k _ (same_table k.table) (held k _ _ _ c.reserve.ensures.items refl)

pub returns-in_err-reserve_uses-clause-parked : goal.returns-in_err-reserve_uses-clause-parked
returns-in_err-reserve_uses-clause-parked c =
    let k = c.args.self.now in
    parked_same k _ (same_table k.table)
    (held k _ _ _ c.reserve.ensures.items (uses_held (goal.at.returns-in_err-reserve_uses-clause-parked c).After-reserve_uses))

pub returns-clause-parked : goal.returns-clause-parked
returns-clause-parked c =
    let k = c.args.self.now in
    parked_same k _ c.make_room.ensures.same
    (held k _ _ _ c.reserve.ensures.items (uses_held (goal.at.returns-clause-parked c).After-reserve_uses))
