-- What a tableau keeps: when it is made, when it is solved and when it stops.
use Rattle.std.proofs.Common.{◌≡◌, ℕ, suc, ◌^◌, ◌<◌, ◌∙◌, ap, subst, List, [], map, length, arith}
use Rattle.std.specs.Prelude.{All, slice_index}
use Rattle.cost_base.specs.Lists.{numbers_from}
use Rattle.design_problem.specs.declared.boxes.CostBox.{CostBox}
use Rattle.design_problem.specs.declared.tree.Member.TheVariants.{Low}
use Rattle.design_problem.specs.Boxes.{IsBox}
use Rattle.fraction_table.specs.declared.table.Table.{Table}
use Rattle.fraction_table.specs.declared.stage.Stage.TheVariants.{Open}
use Rattle.fraction_table.specs.Tableaus.{FitsBox, starting}
use Rattle.fraction_lines.specs.Turns.{AreTableLines}
use Rattle.fraction_table.specs.ValidTables.{IsSound, IsTableauOf, members_of_box, starting_line}
use Rattle.fraction_table.proofs.Bases.{whole_basis}
use Rattle.fraction_table.proofs.StartingTables.{whole_start}

none_fit : (costs : CostBox) → All (FitsBox costs) []
none_fit costs k d k_in = absurd (omega arith)

-- the table of a box at its starting basis, by what its parts are made to be
pub started : (t : Table) (costs : CostBox) (low : List ℕ) → IsBox (length costs.low) costs →
    length costs.low < 2 ^ 32 → t.costs ≡ costs → t.rows.items ≡ [] → low ≡ costs.low →
    t.basis.items ≡ map (λ v. Low v (slice_index low v)) (numbers_from 0 (length low)) →
    t.lines.items ≡ map (starting_line costs []) (members_of_box costs 0) →
    AreTableLines t.top (suc (length costs.low)) t.lines.items → length t.quotients ≡ suc (length costs.low) →
    length t.scratch ≡ suc (length costs.low) → IsSound t Open
started t costs low box few costs_are rows_are low_is basis_is lines_are numbers quotients scratch =
    let basis_at : t.basis.items ≡ starting costs = basis_is ∙ ap (λ (bs : List ℕ). map (λ v. Low v (slice_index bs v)) (numbers_from 0 (length bs))) low_is in
    let start = whole_start t.top costs [] box (none_fit costs) (subst (AreTableLines t.top (suc (length costs.low))) lines_are numbers) in
    let whole : IsTableauOf t.top t.costs t.rows.items t.basis.items t.lines.items = rw (costs_are, rows_are, basis_at, lines_are) start in
    record {
      tableau = λ going. whole;
      shown = tt;
      basis = whole_basis t.top t.costs t.rows.items t.basis.items t.lines.items whole;
      room = record { few = rw costs_are few; quotients = rw costs_are quotients; scratch = rw costs_are scratch };
    }
