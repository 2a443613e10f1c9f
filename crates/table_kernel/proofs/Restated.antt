-- Lines are put into a kernel's table, place by place.
use Rattle.std.proofs.Common.{◌≡◌, ℕ, zero, suc, ◌+◌, ◌-◌, ◌<◌, ◌≤◌, refl, sym, ◌∙◌, ap, subst, List, [], ◌∷◌, ◌++◌, map, take, drop, length, arith, zero-add}
use Rattle.std.specs.Prelude.{ℤ, pos, nat_abs, slice_index_or, slice_set, All}
use Rattle.std.proofs.lemmas.List.{get_or-map, get_or-set_same, length-map, length-set}
use Rattle.std.proofs.lemmas.List.Elements.{All-append, All-drop, All-map, All-set, All-take}
use Rattle.cost_base.specs.Lists.{numbers_from}
use Rattle.cost_base.proofs.ListLemmas.{get_or-map-numbers_from, length-map-numbers_from, map-numbers_from-agree}
use Rattle.whole_numbers.specs.Fractions.{Fraction}
use Rattle.whole_numbers.specs.Lists.{number_at}
use Rattle.design_problem.specs.declared.tree.Member.{Member}
use Rattle.design_problem.specs.declared.tree.Member.TheVariants.{Low}
use Rattle.design_problem.specs.Basis.{IsFormOf, entry, member_form}
use Rattle.fraction_lines.specs.TableLines.{blank_line, nothing}
use Rattle.fraction_lines.proofs.BlankLines.{blank_size}
use Rattle.fraction_table.specs.Pivots.{member_at}
use Rattle.fraction_table.specs.ValidTables.{HasRoom, IsTableauOf, IsTableau, members_of_box, number_of_form, numbers_of_form}
use Rattle.fraction_table.proofs.BetweenBoxes.{all_written, length-written, written_next}
use Rattle.fraction_table.proofs.Restarts.{keeps_lines}
use Rattle.fraction_table.proofs.theory.Blends.{shifted}
use Rattle.table_kernel.specs.declared.kernel.Kernel.{Kernel}
use Rattle.table_kernel.specs.Bases.{AreAtBasis}
use Rattle.table_kernel.specs.Kernels.{IsBounded, IsKernel, IsShaped, kernel_lines, lows_of, width_of}
use Rattle.table_kernel.specs.Lines.{column_of, form_of_place, numbers_of_place}
use Rattle.table_kernel.specs.Numbers.{fraction_line, number_at_column, over_common}
use Rattle.table_kernel.specs.Restated.{KeepsAllButLinesOf}
use Rattle.table_kernel.proofs.AtBasis.{ConstantsAre, basis_kernel, kernel_basis, stated_lines}
use Rattle.table_kernel.proofs.Columns.{column_number}
use Rattle.table_kernel.proofs.LineFills.{fill_behind, fill_done, fill_first, fill_long, fill_next, filled_to}

-- the numbers of a place's form are its constant and those at the columns
pub numbers_told : (k : Kernel) → ConstantsAre k → (place : ℕ) → place < length k.constants.items →
    numbers_of_form (width_of k) (nat_abs k.common) k.table.costs.low (lows_of k) (form_of_place k place)
    ≡ number_at k.constants.items place ∷ numbers_of_place k place
numbers_told k c place place_in =
    let number = number_of_form (nat_abs k.common) k.table.costs.low (lows_of k) (form_of_place k place) in
    ap (λ (z : ℤ). z ∷ map number (numbers_from 1 (width_of k))) (sym (c place place_in))
    ∙ ap (λ (zs : List ℤ). number_at k.constants.items place ∷ zs)
    (shifted number 0 (width_of k)
    ∙ map-numbers_from-agree (λ p. number (suc p)) (λ column. number_at_column (form_of_place k place) (column_of k column)) 0 (width_of k)
    (λ column from column_in. column_number k (nat_abs k.common) k.table.costs.low (form_of_place k place) column))

-- the line of a place, by its numbers
pub line_of_place : (k : Kernel) → IsKernel k → (place : ℕ) → place < length k.constants.items →
    (line : List Fraction) → line
    ≡ map (over_common (nat_abs k.common)) (number_at k.constants.items place ∷ numbers_of_place k place) →
    line ≡ slice_index_or (kernel_lines k) place []
line_of_place k m place place_in line line_is =
    let basis = kernel_basis k m in
    let members = members_of_box k.table.costs (length k.table.rows.items) in
    line_is
    ∙ ap (map (over_common (nat_abs k.common))) (sym (numbers_told k basis.1 place place_in))
    ∙ sym (get_or-map (fraction_line (nat_abs k.common) k.table.costs k.table.rows.items (lows_of k)) members place
    (Low 0 0) [] (subst (λ (n : ℕ). place < n) m.shaped.constants place_in))

-- what the kernel holds stays
basis_kept : (old new : Kernel) → KeepsAllButLinesOf old new →
    AreAtBasis old.table.costs old.table.rows.items old.table.basis.items (nat_abs old.common) (lows_of old) →
    AreAtBasis new.table.costs new.table.rows.items new.table.basis.items (nat_abs new.common) (lows_of new)
basis_kept old new k a = rw (k.table.costs, k.table.rows, k.table.basis, k.common, k.lows) a

constants_kept : (old new : Kernel) → KeepsAllButLinesOf old new → ConstantsAre old → ConstantsAre new
constants_kept old new k c = rw (k.table.costs, k.table.rows, k.common, k.lows, k.constants) c

pub lines_kept : (old new : Kernel) → KeepsAllButLinesOf old new → kernel_lines new ≡ kernel_lines old
lines_kept old new k = rw (k.table.costs, k.table.rows, k.common, k.lows) refl

-- as does the number of a member at a column
pub entry_kept : (old new : Kernel) → KeepsAllButLinesOf old new → (member : Member) (column : ℕ) →
    over_common (nat_abs new.common) (number_at_column (member_form (width_of new) new.table.rows.items member) (column_of new column))
    ≡ over_common (nat_abs old.common) (number_at_column (member_form (width_of old) old.table.rows.items member) (column_of old column))
entry_kept old new k member column = rw (k.table.costs, k.table.rows, k.common, k.lows) refl

bounded_kept : (old new : Kernel) → KeepsAllButLinesOf old new → IsBounded old → IsBounded new
bounded_kept old new k b =
    record {
      top = rw k.table.top b.top;
      positive = rw k.common b.positive;
      common = rw k.common b.common;
      lines = rw k.lows b.lines;
      divides = rw (k.common, k.lows) b.divides;
      low = rw (k.common, k.lows) b.low;
      constants = rw k.constants b.constants;
      rows = rw k.table.rows b.rows;
    }

shaped_kept : (old new : Kernel) → KeepsAllButLinesOf old new →
    length new.table.lines.items ≡ length old.table.lines.items →
    All (λ line. length line ≡ suc (width_of old)) new.table.lines.items → IsShaped old → IsShaped new
shaped_kept old new k many wide s =
    record {
      room = record {
        few = rw k.table.costs s.room.few;
        quotients = rw (k.table.quotients, k.table.costs) s.room.quotients;
        scratch =
            rw (k.table.scratch, k.table.costs) s.room.scratch;
      };
      lows = rw (k.lows, k.table.costs) s.lows;
      each = rw (k.lows, k.table.costs) s.each;
      leads = rw (k.leads, k.table.costs) s.leads;
      lead = rw (k.lows, k.leads) s.lead;
      constants = rw (k.constants, k.table.costs, k.table.rows) s.constants;
      uses = rw (k.uses, k.table.costs, k.table.rows) s.uses;
      turns = rw (k.turns, k.table.costs) s.turns;
      left = rw (k.left, k.table.costs) s.left;
      entering = rw (k.entering, k.table.costs) s.entering;
      lines = rw k.constants (many ∙ s.lines);
      wide = rw k.table.costs wide;
    }

pub kernel_kept : (old new : Kernel) → KeepsAllButLinesOf old new →
    length new.table.lines.items ≡ length old.table.lines.items →
    All (λ line. length line ≡ suc (width_of old)) new.table.lines.items → IsKernel old → IsKernel new
kernel_kept old new k many wide m =
    let basis = kernel_basis old m in
    basis_kernel new (shaped_kept old new k many wide m.shaped) (bounded_kept old new k m.bounded)
    (rw k.table.costs m.tableau.box) (rw (k.table.costs, k.table.rows) m.tableau.fit)
    (basis_kept old new k basis.0) (constants_kept old new k basis.1)

pub keeps_both : (old mid new : Kernel) → KeepsAllButLinesOf old mid → KeepsAllButLinesOf mid new → KeepsAllButLinesOf old new
keeps_both old mid new first second =
    record {
      table = keeps_lines old.table mid.table new.table first.table second.table;
      common = second.common ∙ first.common;
      lows = second.lows ∙ first.lows;
      leads = second.leads ∙ first.leads;
      constants = second.constants ∙ first.constants;
      uses = second.uses ∙ first.uses;
      turns = second.turns ∙ first.turns;
      left = second.left ∙ first.left;
      entering = second.entering ∙ first.entering;
      place = λ there. second.place (first.place there);
    }

pub keeps_itself : (k : Kernel) → KeepsAllButLinesOf k k
keeps_itself k =
    record {
      table = record { top = refl; costs = refl; rows = refl; basis = refl; quotients = refl; scratch = refl };
      common = refl;
      lows = refl;
      leads = refl;
      constants = refl;
      uses = refl;
      turns = refl;
      left = refl;
      entering = refl;
      place = λ there. there;
    }

-- a line as wide as the others is put into a kernel's table
pub kernel_line : (old new : Kernel) (place : ℕ) (line : List Fraction) → KeepsAllButLinesOf old new →
    new.table.lines.items ≡ slice_set old.table.lines.items place line → length line ≡ suc (width_of old) →
    IsKernel old → IsKernel new
kernel_line old new place line k lines long m =
    kernel_kept old new k (ap length lines ∙ length-set old.table.lines.items place line)
    (subst (All (λ row. length row ≡ suc (width_of old))) (sym lines)
    (All-set (λ row. length row ≡ suc (width_of old)) old.table.lines.items place line long m.shaped.wide)) m

-- what is written twice at a place is the last
pub set_twice : {X : Type 0} (xs : List X) (i : ℕ) (x y : X) → slice_set (slice_set xs i x) i y ≡ slice_set xs i y
set_twice [] i x y = refl
set_twice (z ∷ zs) zero x y = refl
set_twice (z ∷ zs) (suc i) x y = ap (λ ys. z ∷ ys) (set_twice zs i x y)

-- a member stays a form of the box or of the rows
pub form_kept : (old new : Kernel) → KeepsAllButLinesOf old new → (member : Member) → IsFormOf old.table.costs old.table.rows.items member →
    IsFormOf new.table.costs new.table.rows.items member
form_kept old new k member form = rw (k.table.costs, k.table.rows) form

-- the number of a place's form at a column
pub line_number : (k : Kernel) (place column : ℕ) → column < width_of k →
    number_at (numbers_of_place k place) column ≡ number_at_column (form_of_place k place) (column_of k column)
line_number k place column column_in =
    let number : ℕ → ℤ = λ c. number_at_column (form_of_place k place) (column_of k c) in
    get_or-map-numbers_from number 0 (width_of k) column (pos 0) column_in ∙ ap number (zero-add column)

pub numbers_long : (k : Kernel) (place : ℕ) → length (numbers_of_place k place) ≡ width_of k
numbers_long k place = length-map-numbers_from (λ c. number_at_column (form_of_place k place) (column_of k c)) 0 (width_of k)

-- the constant of a place's form and its numbers before a column are put into the place's line
abbrev pub line_to : Kernel → ℕ → ℕ → List Fraction
line_to k place column = filled_to (nat_abs k.common) (number_at k.constants.items place) (numbers_of_place k place) column

-- and all else stays
pub record IsFilledTo (old new : Kernel) (place column : ℕ) : Type 0 where
  pub lines : new.table.lines.items ≡ slice_set old.table.lines.items place (line_to old place column)
  pub keeps : KeepsAllButLinesOf old new

pub filled_kernel : (old new : Kernel) (place column : ℕ) → IsFilledTo old new place column → IsKernel old → IsKernel new
filled_kernel old new place column f m =
    kernel_line old new place (line_to old place column) f.keeps f.lines
    (fill_long (nat_abs old.common) (number_at old.constants.items place) (numbers_of_place old place) column (line_to old place column) refl
    ∙ ap suc (numbers_long old place)) m

filled_line : (old new : Kernel) (place column : ℕ) → place < length old.table.lines.items → IsFilledTo old new place column →
    slice_index_or new.table.lines.items place [] ≡ line_to old place column
filled_line old new place column place_in f =
    ap (λ ls. slice_index_or ls place []) f.lines ∙ get_or-set_same old.table.lines.items place (line_to old place column) [] place_in

pub filled_first : (old new : Kernel) (place : ℕ) → KeepsAllButLinesOf old new →
    new.table.lines.items ≡ slice_set old.table.lines.items place
    (slice_set (blank_line (width_of old)) 0 (over_common (nat_abs old.common) (number_at old.constants.items place))) →
    IsFilledTo old new place 0
filled_first old new place keeps lines =
    let zs = numbers_of_place old place in
    let z = number_at old.constants.items place in
    let q = over_common (nat_abs old.common) z in
    let n = width_of old in
    record {
      lines = lines ∙ ap (slice_set old.table.lines.items place)
          (ap (λ (m : ℕ). slice_set (blank_line m) 0 q) (sym (numbers_long old place))
          ∙ fill_first (nat_abs old.common) z zs (blank_line (length zs)) (blank_line (length zs)) (slice_set (blank_line (length zs)) 0 q) q
          (blank_size (length zs)) (ap blank_line (let e : length zs ≡ length (blank_line (length zs)) - 1 = omega (arith, blank_size (length zs)) in e)) refl
          refl);
      keeps = keeps;
    }

pub filled_behind : (old new : Kernel) (place column : ℕ) → place < length old.table.lines.items → IsFilledTo old new place column →
    (later : ℕ) → column ≤ later → entry (slice_index_or new.table.lines.items place []) (suc later) ≡ nothing
filled_behind old new place column place_in f =
    fill_behind (nat_abs old.common) (number_at old.constants.items place) (numbers_of_place old place) column
    (slice_index_or new.table.lines.items place []) (filled_line old new place column place_in f)

pub filled_next : (old mid new : Kernel) (place column : ℕ) (member : Member) → place < length old.table.lines.items →
    column < width_of old → member ≡ member_at old.table place → IsFilledTo old mid place column →
    KeepsAllButLinesOf mid new →
    new.table.lines.items ≡ slice_set mid.table.lines.items place (slice_set (slice_index_or mid.table.lines.items place []) (suc column)
    (over_common (nat_abs mid.common) (number_at_column (member_form (width_of mid) mid.table.rows.items member) (column_of mid column)))) →
    IsFilledTo old new place (column + 1)
filled_next old mid new place column member place_in column_in member_is f keeps lines =
    let D = nat_abs old.common in
    let z = number_at old.constants.items place in
    let zs = numbers_of_place old place in
    let line = slice_index_or mid.table.lines.items place [] in
    let q = over_common (nat_abs mid.common) (number_at_column (member_form (width_of mid) mid.table.rows.items member) (column_of mid column)) in
    let q_is : q ≡ over_common D (number_at zs column) =
    entry_kept old mid f.keeps member column
    ∙ ap (λ (m : Member). over_common D (number_at_column (member_form (width_of old) old.table.rows.items m) (column_of old column))) member_is
    ∙ ap (over_common D) (sym (line_number old place column column_in)) in
    let next : slice_set line (suc column) q ≡ line_to old place (column + 1) =
    fill_next D z zs column line (slice_set line (suc column) q) q (omega (arith, column_in, numbers_long old place)) q_is
    (filled_line old mid place column place_in f) refl in
    record {
      lines = lines
          ∙ ap (slice_set mid.table.lines.items place) next
          ∙ ap (λ ls. slice_set ls place (line_to old place (column + 1))) f.lines
          ∙ set_twice old.table.lines.items place (line_to old place column) (line_to old place (column + 1));
      keeps = keeps_both old mid new f.keeps keeps;
    }

pub filled_all : (old new : Kernel) (place column : ℕ) → IsKernel old → place < length old.constants.items →
    column ≡ width_of old → IsFilledTo old new place column →
    new.table.lines.items ≡ slice_set old.table.lines.items place (slice_index_or (kernel_lines old) place [])
filled_all old new place column m place_in all f =
    f.lines
    ∙ ap (slice_set old.table.lines.items place)
    (line_of_place old m place place_in (line_to old place column)
    (fill_done (nat_abs old.common) (number_at old.constants.items place) (numbers_of_place old place) column (line_to old place column)
    (all ∙ sym (numbers_long old place)) refl))

-- the lines of the first places are put
abbrev pub restated_to : Kernel → ℕ → List (List Fraction)
restated_to k place = take place (kernel_lines k) ++ drop place k.table.lines.items

-- there is one for each constant
pub lines_many : (k : Kernel) → IsShaped k → length (kernel_lines k) ≡ length k.constants.items
lines_many k s =
    length-map (members_of_box k.table.costs (length k.table.rows.items))
    (fraction_line (nat_abs k.common) k.table.costs k.table.rows.items (lows_of k)) ∙ sym s.constants

lines_wide : (k : Kernel) → All (λ line. length line ≡ suc (width_of k)) (kernel_lines k)
lines_wide k =
    All-map (λ line. length line ≡ suc (width_of k))
    (fraction_line (nat_abs k.common) k.table.costs k.table.rows.items (lows_of k))
    (members_of_box k.table.costs (length k.table.rows.items))
    (λ place d place_in. wide (slice_index_or (members_of_box k.table.costs (length k.table.rows.items)) place d))
  where
    wide : (member : Member) → length (fraction_line (nat_abs k.common) k.table.costs k.table.rows.items (lows_of k) member) ≡ suc (width_of k)
    wide member =
        let number = number_of_form (nat_abs k.common) k.table.costs.low (lows_of k) (member_form (width_of k) k.table.rows.items member) in
        length-map (map number (numbers_from 0 (suc (width_of k)))) (over_common (nat_abs k.common)) ∙ length-map-numbers_from number 0 (suc (width_of k))

-- a kernel while its lines are put
pub restating : (old new : Kernel) (place : ℕ) → IsKernel old → KeepsAllButLinesOf old new → new.table.lines.items ≡ restated_to old place → IsKernel new
restating old new place m k lines =
    let same : length old.table.lines.items ≡ length (kernel_lines old) = m.shaped.lines ∙ sym (lines_many old m.shaped) in
    kernel_kept old new k (ap length lines ∙ length-written old.table.lines.items (kernel_lines old) place same)
    (subst (All (λ line. length line ≡ suc (width_of old))) (sym lines)
    (All-append (λ line. length line ≡ suc (width_of old)) (take place (kernel_lines old)) (drop place old.table.lines.items)
    (All-take (λ line. length line ≡ suc (width_of old)) place (kernel_lines old) (lines_wide old))
    (All-drop (λ line. length line ≡ suc (width_of old)) place old.table.lines.items m.shaped.wide)))
    m

pub restated_next : (old mid : Kernel) (place : ℕ) (news : List (List Fraction)) → IsKernel old →
    KeepsAllButLinesOf old mid → place < length old.constants.items → mid.table.lines.items ≡ restated_to old place →
    news ≡ slice_set mid.table.lines.items place (slice_index_or (kernel_lines mid) place []) →
    news ≡ restated_to old (place + 1)
restated_next old mid place news m k place_in lines news_are =
    news_are
    ∙ ap (λ ls. slice_set ls place (slice_index_or (kernel_lines mid) place [])) lines
    ∙ written_next old.table.lines.items (kernel_lines old) place [] (slice_index_or (kernel_lines mid) place [])
    (omega (arith, place_in, m.shaped.lines)) (omega (arith, place_in, lines_many old m.shaped))
    (ap (λ ls. slice_index_or ls place []) (lines_kept old mid k))

pub restated_all : (old : Kernel) (place : ℕ) (news : List (List Fraction)) → IsKernel old →
    place ≡ length old.constants.items → news ≡ restated_to old place → news ≡ kernel_lines old
restated_all old place news m all lines =
    lines ∙ all_written old.table.lines.items (kernel_lines old) place (m.shaped.lines ∙ sym all) (lines_many old m.shaped ∙ sym all)

-- the table in fractions is whole
pub restated_whole : (old new : Kernel) → IsKernel old → KeepsAllButLinesOf old new → new.table.lines.items ≡ kernel_lines old → IsTableau new.table
restated_whole old new m k lines =
    let w = m.tableau in
    let stated_whole : IsTableauOf old.table.top old.table.costs old.table.rows.items old.table.basis.items (kernel_lines old) =
    subst (IsTableauOf old.table.top old.table.costs old.table.rows.items old.table.basis.items) (stated_lines old m.shaped) w in
    rw (k.table.top, k.table.costs, k.table.rows, k.table.basis, lines) stated_whole

pub restated_room : (old new : Kernel) → IsKernel old → KeepsAllButLinesOf old new → HasRoom new.table
restated_room old new m k =
    let room = m.shaped.room in
    record {
      few = rw k.table.costs room.few;
      quotients = rw (k.table.quotients, k.table.costs) room.quotients;
      scratch = rw (k.table.scratch, k.table.costs) room.scratch;
    }
