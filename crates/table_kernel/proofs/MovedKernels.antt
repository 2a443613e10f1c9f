-- A kernel after one bound moved.
use Prim.Native.Nat.{◌∣◌}
use Rattle.std.specs.declared.alloc.Global.{Global}
use Rattle.std.proofs.Common.{Vec, ◌≡◌, ℕ, suc, ◌+◌, ◌*◌, ◌^◌, ◌<◌, ◌≤◌, refl, sym, ◌∙◌, ap, subst, List, map, length, arith}
use Rattle.std.specs.Prelude.{ℤ, pos, ◌-ℤ◌, ◌*ℤ◌, ◌<ℤ◌, ◌≤ℤ◌, Option, Some, nat_abs, slice_index, slice_set, All}
use Rattle.std.proofs.lemmas.Int.{ints}
use Rattle.std.proofs.lemmas.List.{get_or_default, length-map}
use Rattle.whole_numbers.specs.Fractions.{Fraction}
use Rattle.whole_numbers.specs.Lists.{number_at}
use Rattle.design_problem.specs.declared.form.Form.{Form}
use Rattle.design_problem.specs.declared.boxes.CostBox.{CostBox}
use Rattle.design_problem.specs.declared.tree.Member.{Member}
use Rattle.design_problem.specs.declared.tree.Member.TheVariants.{High, Low}
use Rattle.design_problem.specs.Basis.{member_form}
use Rattle.design_problem.specs.Boxes.{with_high, with_low}
use Rattle.fraction_table.specs.Moves.{IsColumnOf, IsMoved, put_at}
use Rattle.fraction_table.specs.Tableaus.{moved_basis}
use Rattle.fraction_table.proofs.MovedWholes.{column_own}
use Rattle.fraction_table.proofs.Pivots.{members_long}
use Rattle.integer_pivots.specs.declared.line.Line.{Line}
use Rattle.integer_pivots.specs.Leads.{AreLeads}
use Rattle.integer_pivots.specs.Lines.{IsLine, no_line, rows_of}
use Rattle.integer_pivots.specs.Numbers.{AllWithin, weight_of}
use Rattle.integer_pivots.specs.Uses.{uses_in}
use Rattle.integer_pivots.proofs.UseLaws.{uses_kept}
use Rattle.integer_pivots.proofs.ShareLaws.{share_exact}
use Rattle.table_kernel.specs.declared.kernel.Kernel.{Kernel}
use Rattle.table_kernel.specs.Bases.{AreAtBasis}
use Rattle.table_kernel.specs.Kernels.{IsBounded, IsMoving, IsShaped, lows_of, stated, width_of}
use Rattle.table_kernel.specs.Moves.{IsBasisMoved, KeepsInMove, LineMayMove, MayMove, lines_after_high, lines_after_low}
use Rattle.table_kernel.specs.Numbers.{fraction_lines, scaled_line, share_of}
use Rattle.table_kernel.specs.Lines.{column_of}
use Rattle.table_kernel.specs.Turns.{line_of}
use Rattle.table_kernel.proofs.Columns.{column_at, column_long, column_number, constants_long, low_constant_at, low_constants, low_number_in}
use Rattle.table_kernel.proofs.MovedBases.{IsBasisMove, basis_moved, high_move, low_move, members_put}
use Rattle.table_kernel.proofs.MovedLines.{AreLinesMoved, all_moved, high_lines_moved, high_lows, limit_after, line_moved, low_lines_moved, low_lows, room_after, rows_kept}
use Rattle.table_kernel.proofs.Places.{low_total}
use Rattle.table_kernel.proofs.UnboxedBases.{large_top, unboxed_any}

-- the kernel after the move: it differs in its box, its basis and the constants of its lines
pub record IsKernelMoved (k s : Kernel) (next : CostBox) (before after : Member) (column : Option ℕ) (far : ℕ) : Type 0 where
  pub keeps : KeepsInMove k s
  pub costs : s.table.costs ≡ next
  pub basis : s.table.basis.items ≡ put_at column after k.table.basis.items
  pub lines : AreLinesMoved far k.lows.items s.lows.items

basis_as : (costs next : CostBox) (rows others : List Form) (basis news : List Member) (D E : ℕ)
    (lows changed : List (List ℤ)) → next ≡ costs → others ≡ rows → news ≡ basis → E ≡ D → changed ≡ lows →
    AreAtBasis next others news E changed → AreAtBasis costs rows basis D lows
basis_as costs next rows others basis news D E lows changed costs_are rows_are basis_is D_is lows_are b =
    subst (λ (x : List (List ℤ)). AreAtBasis costs rows basis D x) lows_are
    (subst (λ (x : ℕ). AreAtBasis costs rows basis x changed) D_is
    (subst (λ (x : List Member). AreAtBasis costs rows x E changed) basis_is
    (subst (λ (x : List Form). AreAtBasis costs x news E changed) rows_are
    (subst (λ (x : CostBox). AreAtBasis x others news E changed) costs_are b))))

moved_shape : (k s : Kernel) (next : CostBox) (before after : Member) (column : Option ℕ) (far : ℕ) → IsShaped k →
    length next.low ≡ width_of k → IsKernelMoved k s next before after column far → IsShaped s
moved_shape k s next before after column far o next_width is =
    let width : width_of s ≡ width_of k = ap (λ (costs : CostBox). length costs.low) is.costs ∙ next_width in
    let as_many : length s.constants.items ≡ length k.constants.items = ap (λ (cs : Vec ℤ Global). length cs.items) is.keeps.constants in
    let rows_many : length s.table.rows.items ≡ length k.table.rows.items = ap (λ rows. length rows.items) is.keeps.rows in
    record {
      room =
          record {
            few = omega (arith, width, o.room.few);
            quotients = ap length is.keeps.quotients ∙ o.room.quotients ∙ ap suc (sym width);
            scratch = ap length is.keeps.scratch ∙ o.room.scratch ∙ ap suc (sym width);
          };
      lows = is.lines.count ∙ o.lows ∙ sym width;
      each =
          subst (λ (w : ℕ). All (λ (line : Line). length line.numbers ≡ w) s.lows.items) (sym width)
          (all_moved far k.lows.items s.lows.items (λ (line : Line). length line.numbers ≡ width_of k) (λ (line : Line). length line.numbers ≡ width_of k)
          is.lines
          (λ old new m long. ap (λ (line : Line). length line.numbers) m.same ∙ long) o.each);
      leads = ap (λ leads. length leads.items) is.keeps.leads ∙ o.leads ∙ sym width;
      lead =
          subst (λ (rows : List (List ℤ)). AreLeads rows s.leads.items) (sym (rows_kept far k.lows.items s.lows.items is.lines))
          (subst (λ (vs : Vec ℕ Global). AreLeads (rows_of k.lows.items) vs.items) (sym is.keeps.leads) o.lead);
      constants = omega (
        arith,
        as_many,
        o.constants,
        rows_many,
        width,
        members_long s.table.costs (length s.table.rows.items),
        members_long k.table.costs (length k.table.rows.items),
      );
      uses = uses_kept k.uses.items s.uses.items k.table.rows.items s.table.rows.items (width_of k) (width_of s)
          (ap (λ uses. uses_in uses.items) is.keeps.uses) (ap (λ rows. rows.items) is.keeps.rows) width o.uses;
      turns = ap (λ turns. length turns.items) is.keeps.turns ∙ o.turns ∙ sym width;
      left = omega (arith, ap (λ (vs : Vec ℕ Global). vs.cap) is.keeps.left, o.left, width);
      entering = ap (λ (line : Line). length line.numbers) is.keeps.entering ∙ o.entering ∙ sym width;
      lines = ap (λ lines. length lines.items) is.keeps.lines ∙ o.lines ∙ sym as_many;
      wide =
          subst (λ (w : ℕ). All (λ (line : List Fraction). length line ≡ suc w) s.table.lines.items) (sym width)
          (subst (λ (lines : List (List Fraction)).
          All (λ (line : List Fraction). length line ≡ suc (width_of k)) lines)
          (sym (ap (λ lines. lines.items) is.keeps.lines)) o.wide);
    }

moved_bounds : (k s : Kernel) (next : CostBox) (before after : Member) (column : Option ℕ) (far : ℕ) → IsBounded k →
    IsKernelMoved k s next before after column far → MayMove k far → IsBounded s
moved_bounds k s next before after column far b is may =
    let D = nat_abs k.common in
    record {
      top = omega (arith, b.top, is.keeps.top);
      positive = subst (λ (z : ℤ). pos 0 <ℤ z) (sym is.keeps.common) b.positive;
      common = subst (λ (z : ℤ). z ≤ℤ pos (2 ^ 30)) (sym is.keeps.common) b.common;
      lines = all_moved far k.lows.items s.lows.items IsLine IsLine is.lines (λ old new m l. line_moved far old new m l) b.lines;
      divides = subst (λ (z : ℤ). All (λ (line : Line). nat_abs line.denominator ∣ nat_abs z) s.lows.items) (sym is.keeps.common)
          (all_moved far k.lows.items s.lows.items (λ (line : Line). nat_abs line.denominator ∣ D) (λ (line : Line). nat_abs line.denominator ∣ D) is.lines
          (λ old new m d. subst (λ (line : Line). nat_abs line.denominator ∣ D) (sym m.same) d) b.divides);
      low = subst (λ (z : ℤ). All (λ (line : Line). nat_abs line.constant * share_of (nat_abs z) line ≤ 2 ^ 44) s.lows.items) (sym is.keeps.common)
          (all_moved far k.lows.items s.lows.items (LineMayMove D far) (λ (line : Line). nat_abs line.constant * share_of D line ≤ 2 ^ 44) is.lines
          (λ old new m may_old. limit_after D far old new m may_old) (may_all k far may));
      constants = subst (λ (cs : Vec ℤ Global). AllWithin (2 ^ 62) cs.items) (sym is.keeps.constants) b.constants;
      rows = subst (λ (rows : List Form). All (λ (f : Form). weight_of f ≤ 2 ^ 16) rows) (sym (ap (λ rows. rows.items) is.keeps.rows)) b.rows;
    }
  where
    may_all : (k : Kernel) (far : ℕ) → MayMove k far → All (LineMayMove (nat_abs k.common) far) k.lows.items
    may_all k far may v d v_in = subst (LineMayMove (nat_abs k.common) far) (get_or_default k.lows.items v no_line d v_in) (may v v_in)

-- the kernel that moved is a kernel while its bounds move
moved_moving : (k s : Kernel) (m : IsMoving k) (next : CostBox) (news : List (List ℤ)) (before after : Member) (fall : ℤ)
    (column : Option ℕ) (far : ℕ) →
    IsBasisMove k.table.costs next k.table.rows.items k.table.basis.items (nat_abs k.common) (lows_of k) news before after fall column →
    IsKernelMoved k s next before after column far → map (scaled_line (nat_abs k.common)) s.lows.items ≡ news → MayMove k far →
    IsMoving s × IsMoved (stated k) next (stated s)
moved_moving k s m next news before after fall column far mv is news_are may =
    let D = nat_abs k.common in
    let costs = k.table.costs in
    let rows = k.table.rows.items in
    let basis = k.table.basis.items in
    let D_is : nat_abs s.common ≡ D = ap nat_abs is.keeps.common in
    let rows_are : s.table.rows.items ≡ rows = ap (λ rows. rows.items) is.keeps.rows in
    let basis_is : s.table.basis.items ≡ moved_basis next basis =
    is.basis ∙ sym (members_put costs next rows basis D (lows_of k) news before after fall column m.basis mv) in
    let lows_are : lows_of s ≡ news = ap (λ (E : ℕ). map (scaled_line E) s.lows.items) D_is ∙ news_are in (
      record {
        shaped = moved_shape k s next before after column far m.shaped mv.falls.width is;
        bounded = moved_bounds k s next before after column far m.bounded is may;
        basis = basis_as s.table.costs next s.table.rows.items rows s.table.basis.items (moved_basis next basis) (nat_abs s.common) D
            (lows_of s) news (sym is.costs) (sym rows_are) (sym basis_is) (sym D_is) (sym lows_are)
            (basis_moved costs next rows basis D (lows_of k) news before after fall column m.basis mv);
      },
      record { costs_are = is.costs; basis = basis_is },
    )

-- the room that is left
pub moved_room : (k s : Kernel) (far more : ℕ) → s.common ≡ k.common → AreLinesMoved far k.lows.items s.lows.items →
    MayMove k (far + more) → MayMove s more
moved_room k s far more common are may v v_in =
    let there : v < length k.lows.items = omega (arith, v_in, are.count) in
    subst (λ (z : ℤ). LineMayMove (nat_abs z) more (line_of s v)) (sym common)
    (room_after (nat_abs k.common) far more (line_of k v) (line_of s v) (are.each v there) (may v there))

-- a form x - low of the basis: its constant is 0, and its number in its own column the common denominator
own_line : (k : Kernel) (m : IsMoving k) (v j : ℕ) → v < width_of k → IsColumnOf k.table.basis.items (Low v (slice_index k.table.costs.low v)) (Some j) →
    (((line_of k v).constant *ℤ pos (share_of (nat_abs k.common) (line_of k v))) ≡ pos 0)
    × ((number_at (line_of k v).numbers j *ℤ pos (share_of (nat_abs k.common) (line_of k v))) ≡ pos (nat_abs k.common))
own_line k m v j v_in found =
    let costs = k.table.costs in
    let rows = k.table.rows.items in
    let D = nat_abs k.common in
    let n = width_of k in
    let own = column_own (large_top costs rows D (lows_of k)) costs rows k.table.basis.items (fraction_lines D costs rows (lows_of k))
    (unboxed_any costs rows k.table.basis.items D (lows_of k) m.basis) (Low v (slice_index costs.low v)) j found.0 found.1 in (
      sym (low_constant_at k m.shaped v v_in)
          ∙ sym (low_total costs rows D (lows_of k) (low_constants k) refl (constants_long k m.shaped) v v_in)
          ∙ own.0,
      sym (column_at k m.shaped j v v_in)
          ∙ sym (low_number_in n rows v (slice_index costs.low v) (column_of k j) v_in (sym (column_long k m.shaped j)))
          ∙ sym (column_number k D costs.low (member_form n rows (Low v (slice_index costs.low v))) j)
          ∙ own.1,
    )

-- a kernel with another box
abbrev put_costs : Kernel → CostBox → Kernel
put_costs s now = record s { table = record s.table { costs = now } }

abbrev pub put_lows : Kernel → List ℕ → Kernel
put_lows s now = put_costs s (record { low = now; high = s.table.costs.high })

abbrev pub put_highs : Kernel → List ℕ → Kernel
put_highs s now = put_costs s (record { low = s.table.costs.low; high = now })

others_kept : (k s : Kernel) (now : CostBox) → KeepsInMove k s → KeepsInMove k (put_costs s now)
others_kept k s now o = record {
  top = o.top;
  rows = o.rows;
  lines = o.lines;
  quotients = o.quotients;
  scratch = o.scratch;
  common = o.common;
  leads = o.leads;
  constants = o.constants;
  uses = o.uses;
  turns = o.turns;
  left = o.left;
  entering = o.entering;
}

-- what the shift of the lines at a lower bound leaves
pub record IsLowShift (k s : Kernel) (v : ℕ) (before after : Member) (fall : ℤ) : Type 0 where
  pub column : Option ℕ
  pub basis : IsBasisMoved k s before after column
  pub lines : s.lows.items ≡ lines_after_low k.lows.items column v fall

-- and at an upper one
pub record IsHighShift (k s : Kernel) (before after : Member) (fall : ℤ) : Type 0 where
  pub column : Option ℕ
  pub basis : IsBasisMoved k s before after column
  pub lines : s.lows.items ≡ lines_after_high k.lows.items column fall

pub low_moves : (k s : Kernel) (m : IsMoving k) (v bound : ℕ) (now : List ℕ) → v < width_of k →
    KeepsInMove k s → s.table.costs ≡ k.table.costs →
    IsLowShift k s v (Low v (slice_index k.table.costs.low v)) (Low v bound) (pos bound -ℤ pos (slice_index k.table.costs.low v)) →
    now ≡ slice_set s.table.costs.low v bound →
    MayMove k (nat_abs (pos bound -ℤ pos (slice_index k.table.costs.low v))) →
    IsMoving (put_lows s now) × IsMoved (stated k) (with_low k.table.costs v bound) (stated (put_lows s now))
low_moves k s m v bound now v_in keeps costs_same sh now_is may =
    let D = nat_abs k.common in
    let costs = k.table.costs in
    let fall = pos bound -ℤ pos (slice_index costs.low v) in
    let lows_many : length (lows_of k) ≡ width_of k = length-map k.lows.items (scaled_line D) ∙ m.shaped.lows in
    let there : v < length k.lows.items = omega (arith, v_in, m.shaped.lows) in
    let costs_are : record { low = now; high = s.table.costs.high } ≡ with_low costs v bound =
    ap (λ (bs : List ℕ). record { low = bs; high = s.table.costs.high }) now_is ∙ ap (λ (box : CostBox). with_low box v bound) costs_same in
    moved_moving k (put_lows s now) m (with_low costs v bound) _ (Low v (slice_index costs.low v)) (Low v bound) fall sh.column (nat_abs fall)
    (low_move costs k.table.rows.items k.table.basis.items D (lows_of k) v bound sh.column m.basis lows_many v_in sh.basis.found)
    (record {
      keeps = others_kept k s (record { low = now; high = s.table.costs.high }) keeps;
      costs = costs_are;
      basis = sh.basis.basis;
      lines = subst (AreLinesMoved (nat_abs fall) k.lows.items) (sym sh.lines) (low_lines_moved (nat_abs fall) v k.lows.items sh.column fall there refl);
    })
    (ap (map (scaled_line D)) sh.lines
    ∙ low_lows D v k.lows.items sh.column fall there (share_exact D (line_of k v).denominator
    (m.bounded.lines v no_line there).positive (m.bounded.divides v no_line there))
    (λ j column_is. own_line k m v j v_in (subst (IsColumnOf k.table.basis.items (Low v (slice_index costs.low v))) column_is sh.basis.found)))
    may

pub high_moves : (k s : Kernel) (m : IsMoving k) (v bound : ℕ) (now : List ℕ) → v < width_of k →
    KeepsInMove k s → s.table.costs ≡ k.table.costs →
    IsHighShift k s (High v (slice_index k.table.costs.high v)) (High v bound) (pos (slice_index k.table.costs.high v) -ℤ pos bound) →
    now ≡ slice_set s.table.costs.high v bound →
    MayMove k (nat_abs (pos (slice_index k.table.costs.high v) -ℤ pos bound)) →
    IsMoving (put_highs s now) × IsMoved (stated k) (with_high k.table.costs v bound) (stated (put_highs s now))
high_moves k s m v bound now v_in keeps costs_same sh now_is may =
    let D = nat_abs k.common in
    let costs = k.table.costs in
    let fall = pos (slice_index costs.high v) -ℤ pos bound in
    let costs_are : record { low = s.table.costs.low; high = now } ≡ with_high costs v bound =
    ap (λ (bs : List ℕ). record { low = s.table.costs.low; high = bs }) now_is ∙ ap (λ (box : CostBox). with_high box v bound) costs_same in
    moved_moving k (put_highs s now) m (with_high costs v bound) _ (High v (slice_index costs.high v)) (High v bound) fall sh.column (nat_abs fall)
    (high_move costs k.table.rows.items k.table.basis.items D (lows_of k) v bound sh.column m.basis v_in sh.basis.found)
    (record {
      keeps = others_kept k s (record { low = s.table.costs.low; high = now }) keeps;
      costs = costs_are;
      basis = sh.basis.basis;
      lines = subst (AreLinesMoved (nat_abs fall) k.lows.items) (sym sh.lines) (high_lines_moved (nat_abs fall) k.lows.items sh.column fall refl);
    })
    (ap (map (scaled_line D)) sh.lines ∙ high_lows D k.lows.items sh.column fall)
    may

-- how far the lines moved
pub low_shift_moved : (k s : Kernel) (m : IsMoving k) (v bound : ℕ) → v < width_of k →
    IsLowShift k s v (Low v (slice_index k.table.costs.low v)) (Low v bound) (pos bound -ℤ pos (slice_index k.table.costs.low v)) →
    AreLinesMoved (nat_abs (pos bound -ℤ pos (slice_index k.table.costs.low v))) k.lows.items s.lows.items
low_shift_moved k s m v bound v_in sh =
    let fall = pos bound -ℤ pos (slice_index k.table.costs.low v) in
    subst (AreLinesMoved (nat_abs fall) k.lows.items) (sym sh.lines)
    (low_lines_moved (nat_abs fall) v k.lows.items sh.column fall (omega (arith, v_in, m.shaped.lows)) refl)

pub high_shift_moved : (k s : Kernel) (m : IsMoving k) (v bound : ℕ) → v < width_of k →
    IsHighShift k s (High v (slice_index k.table.costs.high v)) (High v bound) (pos (slice_index k.table.costs.high v) -ℤ pos bound) →
    AreLinesMoved (nat_abs (pos (slice_index k.table.costs.high v) -ℤ pos bound)) k.lows.items s.lows.items
high_shift_moved k s m v bound v_in sh =
    let fall = pos (slice_index k.table.costs.high v) -ℤ pos bound in
    subst (AreLinesMoved (nat_abs fall) k.lows.items) (sym sh.lines) (high_lines_moved (nat_abs fall) k.lows.items sh.column fall refl)

-- a bound that falls falls by little
pub small_fall : (a b : ℕ) (z : ℤ) → a < 2 ^ 16 → b < 2 ^ 16 → z ≡ (pos a -ℤ pos b) → nat_abs z < 2 ^ 16
small_fall a b z a_small b_small z_is = subst (λ (y : ℤ). nat_abs y < 2 ^ 16) (sym z_is) (omega (arith, ints, a_small, b_small))
