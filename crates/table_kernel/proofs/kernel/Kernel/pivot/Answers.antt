-- The numbers have turned, and the form enters the basis.
use Rattle.std.proofs.Common.{subst, sym, ◌<◌}
use Rattle.std.specs.Vec.{with_item}
use Rattle.fraction_table.specs.declared.table.Table.{Table}
use Rattle.fraction_table.specs.Ranks.{rank}
use Rattle.table_kernel.specs.Kernels.{IsKernel, stated}
use Rattle.table_kernel.specs.Turns.{IsPivotIn}
use Rattle.table_kernel.proofs.Pivoting.{with_basis}
use Rattle.table_kernel.proofs.SameButRoom.{keeps_twice}
use Rattle.table_kernel.proofs.TurnKernels.{HasPivoted, has_pivoted, pivot_stays, ready_of, touched_stay}
use Rattle.table_kernel.proofs.kernel.Kernel.pivot.Goals.{After-index_mut, After-put_touched, After-put_turns}
use Rattle.table_kernel.proofs.kernel.Kernel.pivot.Goals as goal

-- what the pivot needs, once the columns are looked up
pivot_of : (c : After-put_touched) → IsPivotIn c.put_touched.new.self c.args.place c.args.column
pivot_of c =
    let e = c.put_touched.ensures in
    pivot_stays c.args.self.now c.put_touched.new.self c.args.place c.args.column e.keeps e.entering c.requires

-- and once the turns are put
pivot_held : (c : After-put_turns) → IsPivotIn c.put_touched.new.self c.args.place c.args.column → IsPivotIn c.put_turns.new.self c.args.place c.args.column
pivot_held c p =
    let e = c.put_turns.ensures in
    pivot_stays c.put_touched.new.self c.put_turns.new.self c.args.place c.args.column e.keeps e.entering p

-- and what is left of it
pivoted : (c : After-index_mut) → IsPivotIn c.put_turns.new.self c.args.place c.args.column →
    HasPivoted c.args.self.now (with_basis c.turn_numbers.new.self (with_item c.turn_numbers.new.self.table.basis c.args.column c.member_at-member.result))
pivoted c p =
    let keeps = keeps_twice c.args.self.now c.put_touched.new.self c.put_turns.new.self c.put_touched.ensures.keeps c.put_turns.ensures.keeps in
    has_pivoted c.args.self.now c.put_turns.new.self c.turn_numbers.new.self c.args.place c.args.column c.member_at-member.result keeps p
    c.in_ok-turn_numbers.ensures.turned c.member_at-member.ensures

pub put_turns-requires-clause-kernel : goal.put_turns-requires-clause-kernel
put_turns-requires-clause-kernel c = (pivot_of (goal.at.put_turns-requires-clause-kernel c).After-put_touched).kernel

pub put_turns-requires-clause-inside : goal.put_turns-requires-clause-inside
put_turns-requires-clause-inside c = (pivot_of (goal.at.put_turns-requires-clause-inside c).After-put_touched).best.0

pub put_turns-requires-clause-entering : goal.put_turns-requires-clause-entering
put_turns-requires-clause-entering c = (pivot_of (goal.at.put_turns-requires-clause-entering c).After-put_touched).entering.line

pub put_turns-requires-clause-pivot : goal.put_turns-requires-clause-pivot
put_turns-requires-clause-pivot c = (pivot_of (goal.at.put_turns-requires-clause-pivot c).After-put_touched).best.1

pub turn_numbers-requires-clause-ready : goal.turn_numbers-requires-clause-ready
turn_numbers-requires-clause-ready c =
    let at = goal.at.turn_numbers-requires-clause-ready c in
    ready_of c.put_turns.new.self c.args.place c.args.column (pivot_held at.After-put_turns (pivot_of at.After-put_touched)) c.put_turns.ensures.turns

pub turn_numbers-requires-clause-kernel : goal.turn_numbers-requires-clause-kernel
turn_numbers-requires-clause-kernel c =
    let at = goal.at.turn_numbers-requires-clause-kernel c in
    (pivot_held at.After-put_turns (pivot_of at.After-put_touched)).kernel

pub turn_numbers-requires-clause-touched : goal.turn_numbers-requires-clause-touched
turn_numbers-requires-clause-touched c =
    let e = c.put_touched.ensures in
    let f = c.put_turns.ensures in
    touched_stay c.args.self.now c.put_touched.new.self c.put_turns.new.self e.keeps e.entering f.keeps f.entering f.left e.touched

pub returns-in_err-turn_numbers-clause-kernel : goal.returns-in_err-turn_numbers-clause-kernel
returns-in_err-turn_numbers-clause-kernel c =
    let at = goal.at.returns-in_err-turn_numbers-clause-kernel c in
    subst IsKernel (sym c.in_err-turn_numbers.ensures.same) (pivot_held at.After-put_turns (pivot_of at.After-put_touched)).kernel

pub lower_common-requires : goal.lower_common-requires
lower_common-requires c =
    let at = goal.at.lower_common-requires c in
    record { kernel = (pivoted at.After-index_mut (pivot_held at.After-put_turns (pivot_of at.After-put_touched))).kernel }

pub returns-then-self-gt-LARGE_COMMON-clause-rises : goal.returns-then-self-gt-LARGE_COMMON-clause-rises
returns-then-self-gt-LARGE_COMMON-clause-rises c =
    let at = goal.at.returns-then-self-gt-LARGE_COMMON-clause-rises c in
    subst (λ (u : Table). rank (stated c.args.self.now) < rank u) (sym c.lower_common.ensures.stated)
    (pivoted at.After-index_mut (pivot_held at.After-put_turns (pivot_of at.After-put_touched))).rises

pub returns-else-self-gt-LARGE_COMMON-clause-kernel : goal.returns-else-self-gt-LARGE_COMMON-clause-kernel
returns-else-self-gt-LARGE_COMMON-clause-kernel c =
    let at = goal.at.returns-else-self-gt-LARGE_COMMON-clause-kernel c in
    (pivoted at.After-index_mut (pivot_held at.After-put_turns (pivot_of at.After-put_touched))).kernel

pub returns-else-self-gt-LARGE_COMMON-clause-rises : goal.returns-else-self-gt-LARGE_COMMON-clause-rises
returns-else-self-gt-LARGE_COMMON-clause-rises c =
    let at = goal.at.returns-else-self-gt-LARGE_COMMON-clause-rises c in
    (pivoted at.After-index_mut (pivot_held at.After-put_turns (pivot_of at.After-put_touched))).rises
