-- The kernel over the lower common denominator, whose constants are put.
use Rattle.integer_pivots.proofs.Sizes.{read}
use Rattle.table_kernel.proofs.LoweredCommon.{IsLower, kernel_lower, lower_least, moving_lower, stated_lower}
use Rattle.table_kernel.proofs.kernel.Kernel.lower_common.Goals.{In-Some}
use Rattle.table_kernel.proofs.kernel.Kernel.lower_common.Goals as goal

-- the least common multiple, as it is read
lower : (c : In-Some) → IsLower c.args.self.now (read c.in-Some.common)
lower c = lower_least c.args.self.now c.in-Some.common c.requires.kernel.bounded c.in-Some.ensures

pub put_constants-requires : goal.put_constants-requires
put_constants-requires c =
    let m = moving_lower c.args.self.now (read c.in-Some.common) (lower (goal.at.put_constants-requires c).In-Some) c.requires.kernel in
    record { shaped = m.shaped; bounded = m.bounded; fit = c.requires.kernel.tableau.fit; high = m.basis.high_count }

pub returns-then-common-self-clause-kernel : goal.returns-then-common-self-clause-kernel
returns-then-common-self-clause-kernel c =
    let at = goal.at.returns-then-common-self-clause-kernel c in
    let put = c.put_constants.ensures in
    kernel_lower c.args.self.now c.put_constants.new.self (read c.in-Some.common) (lower at.In-Some) c.requires.kernel
    put.constants put.small put.keeps

pub returns-then-common-self-clause-stated : goal.returns-then-common-self-clause-stated
returns-then-common-self-clause-stated c =
    let at = goal.at.returns-then-common-self-clause-stated c in
    stated_lower c.args.self.now c.put_constants.new.self (read c.in-Some.common) (lower at.In-Some)
    c.requires.kernel.bounded c.put_constants.ensures.keeps
