-- The table starts anew.
use Rattle.std.proofs.Common.{◌≡◌, ℕ, suc, ◌∙◌, ap, sym, subst, length, arith}
use Rattle.std.proofs.lemmas.List.{with_items_is}
use Rattle.design_problem.specs.declared.boxes.CostBox.{CostBox}
use Rattle.design_problem.specs.Boxes.{IsBox}
use Rattle.fraction_lines.specs.Turns.{AreTableLines}
use Rattle.fraction_table.proofs.Restarts.{bounds_are, members_same, restarted, starting_many}
use Rattle.fraction_table.proofs.table.Table.restart.Goals as goal

pub put_start-requires-clause-long : goal.put_start-requires-clause-long
put_start-requires-clause-long c = ap length c.as_mut_slice.ensures.value ∙ c.requires.shape.basis ∙ sym c.requires.ranges.low_count

pub start_lines-requires : goal.start_lines-requires
start_lines-requires c =
    let t = c.args.self.now in
    let costs = c.args.costs.now in
    let s = c.requires.shape in
    let width = c.requires.ranges.low_count in
    let low_is : c.put_bounds.new.bounds ≡ costs.low = c.put_bounds.ensures ∙ c.as_slice.ensures in
    let high_is : c.put_bounds-2.new.bounds ≡ costs.high = c.put_bounds-2.ensures ∙ c.as_slice-2.ensures in
    let low_long : length c.put_bounds.new.bounds ≡ length t.costs.low = ap length low_is ∙ width in
    let counted : length c.put_start.new.basis ≡ length t.basis.items = ap length c.put_start.ensures ∙ starting_many costs ∙ width ∙ sym s.basis in
    let basis_is = with_items_is t.basis c.put_start.new.basis (omega (arith, counted, t.basis.ok.0)) in
    record {
      costs = bounds_are costs c.put_bounds.new.bounds c.put_bounds-2.new.bounds low_is high_is;
      ranges = subst (λ (n : ℕ). IsBox n costs) (sym width) c.requires.ranges;
      fits = c.requires.fits;
      shape =
          record {
            high = ap length high_is ∙ c.requires.ranges.high_count ∙ sym low_long;
            basis = ap length basis_is ∙ counted ∙ s.basis ∙ sym low_long;
            lines = subst (λ (n : ℕ). AreTableLines t.top (suc n) t.lines.items) (sym low_long) s.lines;
            many = s.many ∙ members_same t.costs
                (record { low = c.put_bounds.new.bounds; high = c.put_bounds-2.new.bounds }) (length t.rows.items)
                (sym low_long);
            room = record {
              few = omega (arith, low_long, s.room.few);
              quotients = s.room.quotients
                  ∙ ap suc (sym low_long);
              scratch = s.room.scratch ∙ ap suc (sym low_long);
            };
          };
    }

pub returns-clause-costs : goal.returns-clause-costs
returns-clause-costs c =
    let costs = c.args.costs.now in
    c.start_lines.ensures.keeps.costs
    ∙ bounds_are costs c.put_bounds.new.bounds c.put_bounds-2.new.bounds (c.put_bounds.ensures ∙ c.as_slice.ensures)
    (c.put_bounds-2.ensures ∙ c.as_slice-2.ensures)

pub returns-clause-basis : goal.returns-clause-basis
returns-clause-basis c =
    let t = c.args.self.now in
    let costs = c.args.costs.now in
    let counted : length c.put_start.new.basis ≡ length t.basis.items = ap length c.put_start.ensures
    ∙ starting_many costs ∙ c.requires.ranges.low_count ∙ sym c.requires.shape.basis in
    let basis_is = with_items_is t.basis c.put_start.new.basis (omega (arith, counted, t.basis.ok.0)) in
    ap (λ basis. basis.items) c.start_lines.ensures.keeps.basis ∙ basis_is ∙ c.put_start.ensures

pub returns-clause-tableau : goal.returns-clause-tableau
returns-clause-tableau c =
    let t = c.args.self.now in
    let costs = c.args.costs.now in
    let counted : length c.put_start.new.basis ≡ length t.basis.items = ap length c.put_start.ensures
    ∙ starting_many costs ∙ c.requires.ranges.low_count ∙ sym c.requires.shape.basis in
    let basis_is = with_items_is t.basis c.put_start.new.basis (omega (arith, counted, t.basis.ok.0)) in
    restarted c.start_lines.new.self costs t.rows.items
    (c.start_lines.ensures.keeps.costs
    ∙ bounds_are costs c.put_bounds.new.bounds c.put_bounds-2.new.bounds (c.put_bounds.ensures
    ∙ c.as_slice.ensures) (c.put_bounds-2.ensures ∙ c.as_slice-2.ensures))
    (ap (λ rows. rows.items) c.start_lines.ensures.keeps.rows) (ap (λ basis. basis.items) c.start_lines.ensures.keeps.basis ∙ basis_is ∙ c.put_start.ensures)
    c.start_lines.ensures.lines c.start_lines.ensures.shape
    (subst (λ (n : ℕ). IsBox n costs) (sym c.requires.ranges.low_count) c.requires.ranges) c.requires.fits

pub returns-clause-room : goal.returns-clause-room
returns-clause-room c = c.start_lines.ensures.shape.room

pub returns-clause-keeps : goal.returns-clause-keeps
returns-clause-keeps c =
    let keeps = c.start_lines.ensures.keeps in
    record {
      top = keeps.top;
      rows = ap (λ rows. rows.items) keeps.rows;
      width = ap (λ (box : CostBox). length box.low) keeps.costs ∙ ap length (c.put_bounds.ensures ∙ c.as_slice.ensures) ∙ c.requires.ranges.low_count;
    }
