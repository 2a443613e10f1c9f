-- What a tableau's table keeps, in each of its two representations.
use Rattle.std.proofs.Common.{◌≡◌, ℕ, refl, sym, ◌∙◌, subst, List, [], length, true, false, Bool, arith}
use Rattle.std.specs.declared.result.Result.TheVariants.{Ok, Err}
use Rattle.std.specs.Prelude.{Result, IfOk, OnErr, OnOk, ◌<◌, pos, ◌≤ℤ◌, All}
use Rattle.std.proofs.lemmas.List.{get_or_default}
use Rattle.whole_numbers.specs.Fractions.{Fraction}
use Rattle.whole_numbers.specs.Lists.{number_at}
use Rattle.design_problem.specs.Basis.{IsBasis}
use Rattle.design_problem.specs.Steps.{IsStepTooWide}
use Rattle.wide_fraction.specs.declared.steps.Wide.{Wide}
use Rattle.fraction_table.specs.declared.stage.Stage.{Stage}
use Rattle.fraction_table.specs.declared.stage.Stage.TheVariants.{Ended, Open, Stopped}
use Rattle.fraction_table.specs.declared.stage.Solved.{Solved}
use Rattle.fraction_lines.proofs.TableLineLaws.{number_at as number_there}
use Rattle.design_problem.specs.declared.form.Form.{Form}
use Rattle.design_problem.specs.declared.boxes.CostBox.{CostBox}
use Rattle.design_problem.specs.declared.tree.Member.{Member}
use Rattle.fraction_table.specs.declared.table.Table.{Table}
use Rattle.design_problem.specs.Basis.{entry, member_form}
use Rattle.fraction_table.specs.Pivots.{AreHigh, KeepsBoxAndRows, line_at, numbers_of_line, member_at}
use Rattle.fraction_table.specs.Tableaus.{IsAmongForms, IsGoing, IsSolved, wide_at}
use Rattle.fraction_table.specs.ValidTables.{HasRoom, IsShown, IsSound, IsTableauOf, IsTableau, held_of}
use Rattle.fraction_table.proofs.Pivots.{line_long, whole_line}
use Rattle.fraction_table.proofs.Solutions.{high_number, settled_among, settled_solves}
use Rattle.fraction_table.proofs.IntegralTurns.{stand_at}
use Rattle.fraction_table.proofs.theory.TurnedNumbers.{numbers_long}
use Rattle.fraction_table.proofs.Bases.{whole_basis}
use Rattle.table_kernel.specs.declared.kernel.Kernel.{Kernel}
use Rattle.table_kernel.specs.Kernels.{IsKernel, kernel_lines, stated}
use Rattle.table_kernel.specs.declared.kernel.OutOfRange.{OutOfRange}
use Rattle.table_kernel.specs.Moves.{MayMove, box_distance}
use Rattle.table_kernel.specs.ReadBack.{IsParked}
use Rattle.table_kernel.specs.Rows.{HoldsNumbers}
use Rattle.table_kernel.specs.Turns.{IsHeldUp}
use Rattle.table_kernel.proofs.AtBasis.{stated_lines}
use Rattle.table_kernel.proofs.StatedLines.{stated_many}
use Rattle.table_kernel.proofs.SameKernels.{kernel_same, lines_same}
use Rattle.fraction_table.specs.RowLines.{HoldsSame}
use Rattle.fraction_table.proofs.RowAdds.{room_same}
use Rattle.exact_simplex.specs.declared.active.ActiveTable.{ActiveTable}
use Rattle.exact_simplex.specs.Actives.{CannotReturn, CouldNotMove, IsActive, IsSoundActive, MayReturn, WasHeldUp, held_by, state_of, table_in, table_of}

pub clash : false ≡ true → ⊥
clash h = cc

-- a table at its start
pub started : (b : Bool) (k : Kernel) → IsSound k.table Open → (b ≡ true → IsKernel k) → IsParked k →
    IsSoundActive (record { kernel = k; in_kernel = b }) Open
started true k s kernel parked = record {
  active = λ going. record { tableau = (kernel refl).tableau; kernel = λ is. kernel refl; parked = parked; room = s.room };
  shown = tt;
  basis = s.basis;
  room = s.room;
}
started false k s kernel parked = record {
  active = λ going. record { tableau = s.tableau going; kernel = λ is. absurd (clash is); parked = parked; room = s.room };
  shown = tt;
  basis = s.basis;
  room = s.room;
}

-- a kernel that stopped was held up
pub was_held_up : (old new : Kernel) (found : Result Solved OutOfRange) (out : OutOfRange) → found ≡ Err out →
    IsKernel new → KeepsBoxAndRows (stated old) (stated new) → OnErr found (IsHeldUp new) → WasHeldUp (held_of old.table Open)
was_held_up old new found out is kernel keeps held =
    record {
      kernel = new;
      whole = kernel;
      top = keeps.top;
      costs = keeps.costs;
      rows = keeps.rows;
      held_up = subst (λ (answer : Result Solved OutOfRange). OnErr answer (IsHeldUp new)) is held;
    }

-- so it was, however far the work on the table was
pub held_up_at : (table : Table) (stage : Stage) → WasHeldUp (held_of table Open) → WasHeldUp (held_of table stage)
held_up_at table stage was =
    record { kernel = was.kernel; whole = was.whole; top = was.top; costs = was.costs; rows = was.rows; held_up = was.held_up }

-- a kernel that left at a move couldn't make it
pub could_not_move : (old new : ActiveTable) (stage : Stage) (costs : CostBox) → IsActive old →
    (old.in_kernel ≡ true → MayMove old.kernel (box_distance old.kernel.table.costs costs) → new.in_kernel ≡ true) →
    old.in_kernel ≡ true → new.in_kernel ≡ false → CouldNotMove (held_by (state_of old stage)) costs
could_not_move old new stage costs active stays was_in is_out =
    record { kernel = old.kernel; whole = active.kernel was_in; holds = refl; far = λ may. clash (sym is_out ∙ stays was_in may) }

-- the table in fractions is whole where it is worked on
pub whole_beside : (b : Bool) (k : Kernel) → b ≡ false → IsTableau (table_in b k) → IsTableau k.table
whole_beside true k out w = absurd (clash (sym out))
whole_beside false k out w = w

-- a table in fractions to which the kernel didn't return
pub cannot_return : (a : ActiveTable) (stage : Stage) → IsActive a → (a.in_kernel ≡ false → MayReturn a.kernel.table → ⊥) →
    a.in_kernel ≡ false → CannotReturn (held_by (state_of a stage))
cannot_return a stage active back is_out =
    record { table = a.kernel.table; tableau = whole_beside a.in_kernel a.kernel is_out active.tableau; holds = refl; beyond = back is_out }

-- the same where an answer was found
pub cannot_return_then : (settled : Result Solved Wide) (a : ActiveTable) (stage : Stage) → OnOk settled (IsActive a) →
    OnOk settled (a.in_kernel ≡ false → MayReturn a.kernel.table → ⊥) → OnOk settled (a.in_kernel ≡ false → CannotReturn (held_by (state_of a stage)))
cannot_return_then (Ok solved) a stage active back = cannot_return a stage active back
cannot_return_then (Err wide) a stage active back = tt

-- a kernel's answer is shown by the table that it stands for
pub kernel_shown : (b : Bool) (k : Kernel) (solved : Solved) → b ≡ true → IsKernel k →
    IsShown k.table.basis.items (kernel_lines k) (Ended solved) →
    IsShown k.table.basis.items (table_in b k).lines.items (Ended solved)
kernel_shown true k solved is kernel shown =
    subst (λ (lines : List (List Fraction)). IsShown k.table.basis.items lines (Ended solved)) (sym (stated_lines k kernel.shaped)) shown
kernel_shown false k solved is kernel shown = absurd (clash is)

-- the constants of a kernel that stands for a table without negative constants
pub kernel_high : (b : Bool) (k : Kernel) → b ≡ true → IsKernel k → AreHigh (table_in b k) → All (λ z. pos 0 ≤ℤ z) k.constants.items
kernel_high true k is kernel high place d place_in =
    let t = stated k in
    let w = kernel.tableau in
    let line_in : place < length t.lines.items = omega (arith, stated_many k kernel, place_in) in
    let l = whole_line t w place line_in in
    let first = number_there t.top (line_at t place) 0 l.numbers (omega (arith, line_long t w place line_in)) in
    let stands = stand_at w.unboxed.common (line_at t place) (numbers_of_line t w place) 0 l.stand
    (omega (
      arith,
      numbers_long (length t.costs.low) w.unboxed.common t.costs.low w.unboxed.lows
          (member_form (length t.costs.low) t.rows.items (member_at t place)),
    )) in
    subst (λ z. pos 0 ≤ℤ z) (sym (kernel.numbers.constants place place_in) ∙ get_or_default k.constants.items place (pos 0) d place_in)
    (high_number (entry (line_at t place) 0).numerator (number_at (numbers_of_line t w place) 0)
    (entry (line_at t place) 0).denominator w.unboxed.common first.lowest.positive w.unboxed.positive stands
    (high place [] line_in))
kernel_high false k is kernel high place d place_in = absurd (clash is)

-- how many lines there are
pub kernel_many : (b : Bool) (k : Kernel) (line : ℕ) → b ≡ true → IsKernel k → line < length (table_in b k).lines.items → line < length k.constants.items
kernel_many true k line is kernel line_in = omega (arith, stated_many k kernel, line_in)
kernel_many false k line is kernel line_in = absurd (clash is)

-- an active table has a basis, in either representation
active_basis : (b : Bool) (k : Kernel) → IsTableau (table_in b k) → IsBasis k.table.costs k.table.rows.items k.table.basis.items
active_basis true k w = whole_basis k.table.top k.table.costs k.table.rows.items k.table.basis.items (stated k).lines.items w
active_basis false k w = whole_basis k.table.top k.table.costs k.table.rows.items k.table.basis.items k.table.lines.items w

pub opened : (a : ActiveTable) → IsActive a → IsSoundActive a Open
opened a active =
    record { active = λ going. active; shown = tt; basis = active_basis a.in_kernel a.kernel active.tableau; room = active.room }

pub ended : (a : ActiveTable) (solved : Solved) → IsActive a →
    IsShown a.kernel.table.basis.items (table_of a).lines.items (Ended solved) → IsSoundActive a (Ended solved)
ended a solved active shown =
    record { active = λ going. active; shown = shown; basis = active_basis a.in_kernel a.kernel active.tableau; room = active.room }

pub stopped : (a : ActiveTable) (wide : Wide) →
    IsStepTooWide a.kernel.table.top a.kernel.table.costs a.kernel.table.rows.items
    (wide_at wide a.kernel.table.basis.items) → HasRoom a.kernel.table → IsSoundActive a (Stopped wide)
stopped a wide too_wide room =
    record { active = λ going. absurd going; shown = tt; basis = (too_wide.lows, too_wide.table); room = room }

shown_same : (basis other : List Member) (table lines : List (List Fraction)) (stage : Stage) → other ≡ basis →
    lines ≡ table → IsShown basis table stage → IsShown other lines stage
shown_same basis other table lines stage basis_is lines_are shown = rw (basis_is, lines_are) shown

whole_same : (old new : Table) → HoldsSame old new → IsTableau old → IsTableau new
whole_same old new t w = same old.top new.top old.costs new.costs old.rows.items new.rows.items old.basis.items
    new.basis.items old.lines.items new.lines.items t.top t.costs t.rows t.basis t.lines w
  where
    same : (top atop : ℕ) (costs acosts : CostBox) (rows arows : List Form) (basis abasis : List Member)
        (table atable : List (List Fraction)) → atop ≡ top → acosts ≡ costs → arows ≡ rows → abasis ≡ basis →
        atable ≡ table → IsTableauOf top costs rows basis table → IsTableauOf atop acosts arows abasis atable
    same top atop costs acosts rows arows basis abasis table atable top_is costs_are rows_are basis_is table_is w =
        rw (top_is, costs_are, rows_are, basis_is, table_is) w

shown_held : (old new : Kernel) → HoldsSame old.table new.table → HoldsNumbers old new → (stage : Stage) →
    (IsGoing stage → IsKernel old) → IsShown old.table.basis.items (stated old).lines.items stage →
    IsShown new.table.basis.items (stated new).lines.items stage
shown_held old new t k Open kernel shown = tt
shown_held old new t k (Ended solved) kernel shown =
    shown_same old.table.basis.items new.table.basis.items (stated old).lines.items (stated new).lines.items
    (Ended solved) t.basis (lines_same old new t k (kernel tt)) shown
shown_held old new t k (Stopped wide) kernel shown = tt

-- a table for which room was made
pub room_made : (b : Bool) (old new : Kernel) → HoldsSame old.table new.table → HoldsNumbers old new →
    (IsParked old → IsParked new) → (stage : Stage) → IsSoundActive (record { kernel = old; in_kernel = b }) stage →
    IsSoundActive (record { kernel = new; in_kernel = b }) stage
room_made true old new t k parks stage s =
    record {
      active = λ going. (let a = s.active going in let kernel = kernel_same old new t k (a.kernel refl) in
          record { tableau = kernel.tableau; kernel = λ is. kernel; parked = parks a.parked; room = room_same old.table new.table t s.room });
      shown = shown_held old new t k stage (λ going. (s.active going).kernel refl) s.shown;
      basis = rw (t.costs, t.rows, t.basis) s.basis;
      room = room_same old.table new.table t s.room;
    }
room_made false old new t k parks stage s =
    record {
      active = λ going. (let a = s.active going in
          record {
            tableau = whole_same old.table new.table t a.tableau;
            kernel = λ is. absurd (clash is);
            parked = parks a.parked;
            room = room_same old.table new.table t s.room;
          });
      shown = shown_same old.table.basis.items new.table.basis.items old.table.lines.items new.table.lines.items stage t.basis t.lines s.shown;
      basis = rw (t.costs, t.rows, t.basis) s.basis;
      room = room_same old.table new.table t s.room;
    }

pub shown_in : (b : Bool) (k : Kernel) (solved : Solved) →
    IsShown k.table.basis.items (table_in b k).lines.items (Ended solved) →
    IsShown (table_in b k).basis.items (table_in b k).lines.items (Ended solved)
shown_in true k solved shown = shown
shown_in false k solved shown = shown

-- an active table of the same forms
pub forms_in : (b : Bool) (k : Kernel) (old : Table) → KeepsBoxAndRows old k.table → KeepsBoxAndRows old (table_in b k)
forms_in true k old keeps = record { top = keeps.top; costs = keeps.costs; rows = keeps.rows }
forms_in false k old keeps = keeps

-- what an active table shows is an answer
pub settled_rightly : (old : Table) (a : ActiveTable) (found : Result Solved Wide) → KeepsBoxAndRows old a.kernel.table →
    OnOk found (IsActive a) → IfOk found
    (λ solved. IsShown a.kernel.table.basis.items (table_of a).lines.items (Ended solved)) →
    IfOk found (λ solved. IsSolved old.costs old.rows.items solved)
settled_rightly old a (Ok solved) keeps active shown =
    settled_solves old (table_of a) (Ok solved) (forms_in a.in_kernel a.kernel old keeps) active.tableau (shown_in a.in_kernel a.kernel solved shown)
settled_rightly old a (Err wide) keeps active shown = tt

pub settled_among_forms : (old : Table) (a : ActiveTable) (found : Result Solved Wide) → KeepsBoxAndRows old a.kernel.table →
    OnOk found (IsActive a) → IfOk found
    (λ solved. IsShown a.kernel.table.basis.items (table_of a).lines.items (Ended solved)) →
    IfOk found (IsAmongForms old.costs old.rows.items)
settled_among_forms old a (Ok solved) keeps active shown =
    settled_among old (table_of a) (Ok solved) (forms_in a.in_kernel a.kernel old keeps) active.tableau (shown_in a.in_kernel a.kernel solved shown)
settled_among_forms old a (Err wide) keeps active shown = tt
