-- The kernel whose lines are read back, and that nothing but the bounds refuses it.
use Rattle.std.proofs.Common.{Vec, ℕ, ◌≡◌, ◌∙◌, ap, refl, sym, subst, length}
use Rattle.std.specs.declared.alloc.Global.{Global}
use Rattle.std.specs.Prelude.{All}
use Rattle.std.specs.Vec.{with_items}
use Rattle.integer_pivots.specs.declared.line.Line.{Line}
use Rattle.table_kernel.proofs.Refusals.{on_err}
use Rattle.integer_pivots.proofs.FailedTests.{failed}
use Rattle.integer_pivots.proofs.Sizes.{read}
use Rattle.table_kernel.specs.Kernels.{IsKernel, width_of}
use Rattle.table_kernel.proofs.KernelsBack.{AreFitting, HasLines, fitting, has_lines, kernel_back, least_read, lines_back, may_put_back, parked_back}
use Rattle.table_kernel.proofs.ReadRefusals.{common_found, constants_found}
use Rattle.table_kernel.proofs.kernel.Kernel.read_back.Goals.{After-put_constants, Else-not-constants_fit, In_ok-read}
use Rattle.table_kernel.proofs.kernel.Kernel.read_back.Goals as goal

-- the lines that were read, and the leads that were put
lines : (c : In_ok-read) → HasLines c.args.self.now c.read_lines-read.new.self (with_items c.read_lines-read.new.self.leads c.put_leads.new.leads)
lines c =
    let told = c.in_ok-read.ensures in
    let put = c.put_leads.ensures in
    has_lines c.args.self.now c.read_lines-read.new.self c.as_mut_slice.result.now c.put_leads.new.leads c.as_slice.result.now told.keeps told.count told.each
    c.as_mut_slice.ensures.value c.as_slice.ensures.value put.count put.leads

-- over their least common denominator their constants fit
fits : (c : Else-not-constants_fit) → AreFitting c.read_lines-read.new.self (read c.in-Some.common)
fits c =
    fitting c.read_lines-read.new.self c.in-Some.common c.in_ok-read.ensures.lines c.in-Some.ensures
    (c.constants_fit.ensures.0 c.if-not-constants_fit.false)

pub returns-in_default-clause-refused : goal.returns-in_default-clause-refused
returns-in_default-clause-refused c may =
    let told = c.in_ok-read.ensures in
    common_found c.args.self.now.table may c.read_lines-read.new.self.lows.items told.count told.read c.in_default.ensures

pub returns-then-not-constants_fit-clause-parked : goal.returns-then-not-constants_fit-clause-parked
returns-then-not-constants_fit-clause-parked c =
    let at = goal.at.returns-then-not-constants_fit-clause-parked c in
    let h = c.read_lines-read.new.self in
    parked_back c.args.self.now h (with_items h.leads c.put_leads.new.leads) h.common c.requires.parked (lines at.In_ok-read)

pub returns-then-not-constants_fit-clause-refused : goal.returns-then-not-constants_fit-clause-refused
returns-then-not-constants_fit-clause-refused c may =
    let told = c.in_ok-read.ensures in
    let lows = c.read_lines-read.new.self.lows.items in
    failed c.constants_fit.result c.if-not-constants_fit.true c.constants_fit.ensures
    (constants_found c.args.self.now.table may lows told.count told.read (read c.in-Some.common) (least_read lows c.in-Some.common c.in-Some.ensures))

pub put_constants-requires : goal.put_constants-requires
put_constants-requires c =
    let at = goal.at.put_constants-requires c in
    let h = c.read_lines-read.new.self in
    may_put_back c.args.self.now h (with_items h.leads c.put_leads.new.leads) (read c.in-Some.common) c.requires.parked (lines at.In_ok-read)
    c.requires.top (c.covers_rows.ensures.0 c.if-not-covers_rows.false) c.requires.tableau (fits at.Else-not-constants_fit)

-- with the constants put it is a kernel
kernel : (c : After-put_constants) → HasLines c.args.self.now c.read_lines-read.new.self (with_items c.read_lines-read.new.self.leads c.put_leads.new.leads) →
    AreFitting c.read_lines-read.new.self (read c.in-Some.common) → IsKernel c.put_constants.new.self
kernel c has f =
    let h = c.read_lines-read.new.self in
    let put = c.put_constants.ensures in
    kernel_back c.args.self.now h (with_items h.leads c.put_leads.new.leads) (read c.in-Some.common) c.requires.parked has c.put_constants.new.self
    c.requires.top (c.covers_rows.ensures.0 c.if-not-covers_rows.false) c.requires.tableau c.in_ok-read.ensures.read f put.constants put.small put.keeps

pub returns-clause-parked : goal.returns-clause-parked
returns-clause-parked c =
    let at = goal.at.returns-clause-parked c in
    let is = kernel at.After-put_constants (lines at.In_ok-read) (fits at.Else-not-constants_fit) in
    record { shaped = is.shaped; constants = is.bounded.constants }

pub returns-clause-kernel : goal.returns-clause-kernel
returns-clause-kernel c =
    let at = goal.at.returns-clause-kernel c in
    kernel at.After-put_constants (lines at.In_ok-read) (fits at.Else-not-constants_fit)

pub returns-clause-lines : goal.returns-clause-lines
returns-clause-lines c =
    let at = goal.at.returns-clause-lines c in
    let h = c.read_lines-read.new.self in
    lines_back c.args.self.now h (with_items h.leads c.put_leads.new.leads) (read c.in-Some.common) c.requires.parked (lines at.In_ok-read)
    c.put_constants.new.self c.requires.tableau c.in_ok-read.ensures.read (fits at.Else-not-constants_fit) c.put_constants.ensures.keeps

pub covers_rows-requires-clause-few : goal.covers_rows-requires-clause-few
covers_rows-requires-clause-few c = c.requires.parked.shaped.room.few

pub covers_rows-requires-clause-fit : goal.covers_rows-requires-clause-fit
covers_rows-requires-clause-fit c = c.requires.tableau.fit

pub returns-then-not-covers_rows-clause-table : goal.returns-then-not-covers_rows-clause-table
returns-then-not-covers_rows-clause-table c = refl

pub returns-then-not-covers_rows-clause-parked : goal.returns-then-not-covers_rows-clause-parked
returns-then-not-covers_rows-clause-parked c = c.requires.parked

pub returns-then-not-covers_rows-clause-refused : goal.returns-then-not-covers_rows-clause-refused
returns-then-not-covers_rows-clause-refused c may = failed c.covers_rows.result c.if-not-covers_rows.true c.covers_rows.ensures may.rows

pub read_lines-read-requires : goal.read_lines-read-requires
read_lines-read-requires c = record { shaped = c.requires.parked.shaped }

pub put_leads-requires : goal.put_leads-requires
put_leads-requires c =
    let h = c.read_lines-read.new.self in
    let e = c.read_lines-read.ensures in
    let long : length c.as_mut_slice.result.now ≡ width_of c.args.self.now =
    ap length c.as_mut_slice.ensures.value ∙ ap (λ (leads : Vec ℕ Global). length leads.items) e.keeps.leads ∙ c.requires.parked.shaped.leads in
    record {
      each = subst (All (λ (line : Line). length line.numbers ≡ length c.as_mut_slice.result.now)) (sym c.as_slice.ensures.value)
          (subst (λ (n : ℕ). All (λ (line : Line). length line.numbers ≡ n) h.lows.items) (sym long) e.each);
    }

pub returns-in_err-read-clause-table : goal.returns-in_err-read-clause-table
returns-in_err-read-clause-table c = c.in_err-read.ensures.keeps.table

pub returns-in_err-read-clause-parked : goal.returns-in_err-read-clause-parked
returns-in_err-read-clause-parked c =
    let told = c.in_err-read.ensures in
    let put = c.put_leads.ensures in
    let h = c.read_lines-read.new.self in
    parked_back c.args.self.now h (with_items h.leads c.put_leads.new.leads) h.common c.requires.parked
    (has_lines c.args.self.now h c.as_mut_slice.result.now c.put_leads.new.leads c.as_slice.result.now told.keeps told.count told.each
    c.as_mut_slice.ensures.value c.as_slice.ensures.value put.count put.leads)

pub returns-in_err-read-clause-refused : goal.returns-in_err-read-clause-refused
returns-in_err-read-clause-refused c =
    let told = c.in_err-read.ensures.refused in
    on_err c.from_residual.result (λ may. told.2 (may.denominator told.0) (may.lines told.0 told.1))

pub common_of_lines-requires : goal.common_of_lines-requires
common_of_lines-requires c = record { lines = c.in_ok-read.ensures.lines }

pub returns-in_default-clause-table : goal.returns-in_default-clause-table
returns-in_default-clause-table c = c.in_ok-read.ensures.keeps.table

pub returns-in_default-clause-parked : goal.returns-in_default-clause-parked
returns-in_default-clause-parked c =
    let at = goal.at.returns-in_default-clause-parked c in
    let h = c.read_lines-read.new.self in
    parked_back c.args.self.now h (with_items h.leads c.put_leads.new.leads) h.common c.requires.parked (lines at.In_ok-read)

pub constants_fit-requires-clause-lines : goal.constants_fit-requires-clause-lines
constants_fit-requires-clause-lines c = c.in_ok-read.ensures.lines

pub constants_fit-requires-clause-common : goal.constants_fit-requires-clause-common
constants_fit-requires-clause-common c = least_read c.read_lines-read.new.self.lows.items c.in-Some.common c.in-Some.ensures

pub returns-then-not-constants_fit-clause-table : goal.returns-then-not-constants_fit-clause-table
returns-then-not-constants_fit-clause-table c = c.in_ok-read.ensures.keeps.table

pub returns-clause-table : goal.returns-clause-table
returns-clause-table c = c.put_constants.ensures.keeps.table ∙ c.in_ok-read.ensures.keeps.table
