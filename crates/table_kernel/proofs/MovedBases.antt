-- A basis after one bound moved.
use Rattle.std.proofs.Common.{◌≡◌, ◌≢◌, ℕ, zero, suc, ◌<◌, ◌≤◌, sym, ◌∙◌, ap, subst, List, length, arith}
use Rattle.std.specs.Prelude.{ℤ, pos, ◌-ℤ◌, ◌*ℤ◌, Option, slice_index, slice_index_or, All}
use Rattle.std.proofs.lemmas.List.{length-map}
use Rattle.std.proofs.Math.Seq.{set-get_or}
use Rattle.design_problem.specs.declared.form.Form.{Form}
use Rattle.design_problem.specs.declared.boxes.CostBox.{CostBox}
use Rattle.design_problem.specs.declared.tree.Member.{Member}
use Rattle.design_problem.specs.declared.tree.Member.TheVariants.{High, Low}
use Rattle.design_problem.specs.Basis.{IsFormOf, forms_of, member_form}
use Rattle.design_problem.specs.Boxes.{with_high, with_low}
use Rattle.design_problem.specs.Forms.{no_form}
use Rattle.fraction_table.specs.Moves.{IsColumnOf, put_at}
use Rattle.fraction_table.specs.Tableaus.{moved_basis, moved_member}
use Rattle.fraction_table.specs.ValidTables.{AllLong, AreMixtures, low_forms, number_of_form}
use Rattle.fraction_table.proofs.MovedTables.{AreMoved, IsFall, fallen_basis, high_fall, high_moved, low_fall, low_moved, raised_rows}
use Rattle.fraction_table.proofs.MovedWholes.{all_moved, column_inside, forms_fallen, kept_columns, kept_constants, moved_put}
use Rattle.fraction_table.proofs.Shifts.{length-raised, moved_same}
use Rattle.fraction_table.proofs.theory.MovedNumbers.{lowered_rows}
use Rattle.table_kernel.specs.Bases.{AreAtBasis}
use Rattle.table_kernel.specs.Numbers.{fraction_lines}
use Rattle.table_kernel.proofs.UnboxedBases.{large_top, unboxed_any}

-- A bound moves: its form falls, its place in the basis, and the numbers of x - low before and after.
pub record IsBasisMove (costs next : CostBox) (rows : List Form) (basis : List Member) (D : ℕ) (lows news : List (List ℤ))
    (before after : Member) (fall : ℤ) (column : Option ℕ) : Type 0 where
  pub falls : IsFall costs next rows before after fall
  pub found : IsColumnOf basis before column
  pub numbers : AreMoved D costs.low next.low lows news (forms_of costs rows basis) column fall

-- the move of a lower bound
pub low_move : (costs : CostBox) (rows : List Form) (basis : List Member) (D : ℕ) (lows : List (List ℤ)) (v bound : ℕ)
    (column : Option ℕ) → AreAtBasis costs rows basis D lows → length lows ≡ length costs.low → v < length costs.low →
    IsColumnOf basis (Low v (slice_index costs.low v)) column →
    IsBasisMove costs (with_low costs v bound) rows basis D lows
    (lowered_rows v (pos D *ℤ (pos bound -ℤ pos (slice_index costs.low v))) (raised_rows column (pos bound -ℤ pos (slice_index costs.low v)) lows))
    (Low v (slice_index costs.low v)) (Low v bound) (pos bound -ℤ pos (slice_index costs.low v)) column
low_move costs rows basis D lows v bound column b many v_in found =
    let bs = forms_of costs rows basis in
    let fall = pos bound -ℤ pos (slice_index costs.low v) in
    record {
      falls = low_fall costs rows v bound b.high_count v_in;
      found = found;
      numbers = low_moved D costs.low lows bs column fall v bound
          (column_inside basis (Low v (slice_index costs.low v)) column (length bs) (sym (length-map basis (member_form (length costs.low) rows))) found)
          v_in (omega (arith, length-raised column fall lows, many, v_in))
          (record { long = b.long; mixtures = b.mixtures; lead = b.lead });
    }

-- and of an upper one
pub high_move : (costs : CostBox) (rows : List Form) (basis : List Member) (D : ℕ) (lows : List (List ℤ)) (v bound : ℕ)
    (column : Option ℕ) → AreAtBasis costs rows basis D lows → v < length costs.low →
    IsColumnOf basis (High v (slice_index costs.high v)) column →
    IsBasisMove costs (with_high costs v bound) rows basis D lows
    (raised_rows column (pos (slice_index costs.high v) -ℤ pos bound) lows)
    (High v (slice_index costs.high v)) (High v bound) (pos (slice_index costs.high v) -ℤ pos bound) column
high_move costs rows basis D lows v bound column b v_in found =
    let bs = forms_of costs rows basis in
    record {
      falls = high_fall costs rows v bound b.high_count v_in;
      found = found;
      numbers = high_moved D costs.low lows bs column (pos (slice_index costs.high v) -ℤ pos bound)
          (column_inside basis (High v (slice_index costs.high v)) column (length bs) (sym (length-map basis (member_form (length costs.low) rows))) found)
          (record { long = b.long; mixtures = b.mixtures; lead = b.lead });
    }

module _ (costs next : CostBox) (rows : List Form) (basis : List Member) (D : ℕ) (lows news : List (List ℤ))
    (before after : Member) (fall : ℤ) (column : Option ℕ) (b : AreAtBasis costs rows basis D lows)
    (mv : IsBasisMove costs next rows basis D lows news before after fall column) where
  -- the members of the basis in the next box
  pub members_put : moved_basis next basis ≡ put_at column after basis
  members_put =
      moved_put (large_top costs rows D lows) costs next rows basis (fraction_lines D costs rows lows) (unboxed_any costs rows basis D lows b)
      before after fall column mv.falls mv.found

  many : length (forms_of costs rows basis) ≡ length costs.low
  many = length-map basis (member_form (length costs.low) rows) ∙ b.count

  none : (j place : ℕ) → j < length costs.low → place ≤ length costs.low → place ≢ suc j →
      number_of_form D next.low news (slice_index_or (fallen_basis column fall (forms_of costs rows basis)) j no_form) place ≡ pos 0
  none j zero j_in place_in apart =
      kept_constants D (length costs.low) costs.low next.low lows news (forms_of costs rows basis) column fall
      (column_inside basis before column (length costs.low) b.count mv.found) mv.numbers b.own b.elsewhere many j j_in
  none j (suc p) j_in place_in apart =
      mv.numbers.others (slice_index_or (fallen_basis column fall (forms_of costs rows basis)) j no_form) p
      ∙ kept_columns D costs.low lows (forms_of costs rows basis) column fall j p (omega (arith, many, j_in))
      ∙ b.elsewhere j (suc p) j_in place_in apart

  -- the basis in the next box
  pub basis_moved : AreAtBasis next rows (moved_basis next basis) D news
  basis_moved =
      let bs = forms_of costs rows basis in
      let width = mv.falls.width in
      let numbered = mv.numbers.numbered in
      let forms_are = forms_fallen (large_top costs rows D lows) costs next rows basis (fraction_lines D costs rows lows)
      (unboxed_any costs rows basis D lows b) before after fall column mv.falls mv.found in
      record {
        high_count = mv.falls.height ∙ sym width;
        counts = subst (λ (w : ℕ). All (λ (f : Form). length f.coefficients ≡ w) rows) (sym width) b.counts;
        count = length-map basis (moved_member next) ∙ b.count ∙ sym width;
        members = all_moved costs next rows basis width b.members;
        positive = b.positive;
        long = subst (λ (w : ℕ). AllLong (suc w) news) (sym width) numbered.long;
        mixtures =
            subst (λ (fs : List Form). AreMixtures D fs (low_forms (length next.low) 0 next.low) news) (sym forms_are)
            (subst (λ (w : ℕ). AreMixtures D (fallen_basis column fall bs) (low_forms w 0 next.low) news) (sym width) numbered.mixtures);
        own = λ j j_in.
            ap (λ (fs : List Form). number_of_form D next.low news (slice_index_or fs j no_form) (suc j)) forms_are
            ∙ mv.numbers.others (slice_index_or (fallen_basis column fall bs) j no_form) j
            ∙ kept_columns D costs.low lows bs column fall j j (omega (arith, many, width, j_in))
            ∙ b.own j (omega (arith, width, j_in));
        elsewhere = λ j place j_in place_in apart.
            ap (λ (fs : List Form). number_of_form D next.low news (slice_index_or fs j no_form) place) forms_are
            ∙ none j place (omega (arith, width, j_in)) (omega (arith, width, place_in)) apart;
        lead = λ j j_in. numbered.lead j (omega (arith, width, j_in));
      }

-- a bound that stays
pub low_same : (costs : CostBox) (rows : List Form) (basis : List Member) (v bound : ℕ) → All (IsFormOf costs rows) basis →
    bound ≡ slice_index costs.low v →
    (costs ≡ with_low costs v bound) × (basis ≡ moved_basis (with_low costs v bound) basis)
low_same costs rows basis v bound members bound_is =
    let same : costs ≡ with_low costs v bound =
    sym (ap (with_low costs v) bound_is ∙ ap (λ (bs : List ℕ). record { low = bs; high = costs.high }) (set-get_or costs.low v 0)) in
    (same, sym (ap (λ (box : CostBox). moved_basis box basis) (sym same) ∙ moved_same costs rows basis members))

pub high_same : (costs : CostBox) (rows : List Form) (basis : List Member) (v bound : ℕ) → All (IsFormOf costs rows) basis →
    bound ≡ slice_index costs.high v →
    (costs ≡ with_high costs v bound) × (basis ≡ moved_basis (with_high costs v bound) basis)
high_same costs rows basis v bound members bound_is =
    let same : costs ≡ with_high costs v bound =
    sym (ap (with_high costs v) bound_is ∙ ap (λ (bs : List ℕ). record { low = costs.low; high = bs }) (set-get_or costs.high v 0)) in
    (same, sym (ap (λ (box : CostBox). moved_basis box basis) (sym same) ∙ moved_same costs rows basis members))
