-- The line of a member is started.
use Rattle.std.proofs.Common.{◌≡◌, ◌<◌, suc, ◌∙◌, ap, sym, subst, List, length, arith}
use Rattle.std.specs.Prelude.{All, slice_set}
use Rattle.std.proofs.lemmas.List.{length-set}
use Rattle.whole_numbers.specs.Fractions.{Fraction}
use Rattle.design_problem.specs.declared.form.Form.{Form}
use Rattle.design_problem.specs.declared.boxes.CostBox.{CostBox}
use Rattle.design_problem.specs.declared.tree.Member.{Member}
use Rattle.design_problem.specs.declared.tree.Member.TheVariants.{Low}
use Rattle.design_problem.specs.Basis.{IsFormOf}
use Rattle.design_problem.specs.Boxes.{IsBox}
use Rattle.fraction_table.specs.ValidTables.{members_of_box, starting_line}
use Rattle.fraction_table.specs.Tableaus.{FitsBox}
use Rattle.fraction_table.specs.Pivots.{member_at}
use Rattle.fraction_lines.proofs.TableLineLaws.{lines_at, lines_set}
use Rattle.fraction_table.proofs.StartingTables.{members_are}
use Rattle.fraction_table.proofs.Restarts.{line_long}
use Rattle.fraction_table.proofs.table.Table.start_line.Goals as goal

pub member_at-member-requires : goal.member_at-member-requires
member_at-member-requires c =
    record {
      ranges = (subst (λ (box : CostBox). IsBox (length box.low) box) (sym c.requires.costs) c.requires.ranges).high_count;
      room = c.requires.shape.room;
      line = omega (arith, c.requires.line, c.requires.shape.many);
    }

pub put_line-requires : goal.put_line-requires
put_line-requires c =
    let t = c.args.self.now in
    let costs = c.args.costs.now in
    let line_in : c.args.line < length (members_of_box t.costs (length t.rows.items)) = omega (arith, c.requires.line, c.requires.shape.many) in
    let form : IsFormOf t.costs t.rows.items (member_at t c.args.line) = members_are t.costs t.rows.items c.args.line (Low 0 0) line_in in
    let here = lines_at t.top (suc (length t.costs.low)) t.lines.items c.args.line c.index_mut.result.now c.requires.shape.lines c.requires.line in
    record {
      form =
          subst (λ (rows : List Form). IsFormOf costs rows c.member_at-member.result) (sym c.as_slice-rows.ensures.value)
          (subst (λ (m : Member). IsFormOf costs t.rows.items m) (sym c.member_at-member.ensures)
          (subst (λ (box : CostBox). IsFormOf box t.rows.items (member_at t c.args.line)) c.requires.costs form));
      ranges = c.requires.ranges;
      fits = subst (λ (rows : List Form). All (FitsBox costs) rows) (sym c.as_slice-rows.ensures.value) c.requires.fits;
      few = omega (arith, c.requires.shape.room.few, ap (λ (box : CostBox). length box.low) c.requires.costs);
      width = ap length c.index_mut.ensures.value ∙ here.0 ∙ ap (λ (box : CostBox). suc (length box.low)) c.requires.costs;
    }

pub returns-clause-lines : goal.returns-clause-lines
returns-clause-lines c =
    let t = c.args.self.now in
    ap (λ (line : List Fraction). slice_set t.lines.items c.args.line line)
    (c.put_line.ensures.line ∙ ap (λ (rows : List Form). starting_line c.args.costs.now rows c.member_at-member.result) c.as_slice-rows.ensures.value
    ∙ ap (starting_line c.args.costs.now t.rows.items) c.member_at-member.ensures)

pub returns-clause-shape : goal.returns-clause-shape
returns-clause-shape c =
    let t = c.args.self.now in
    let costs = c.args.costs.now in
    let s = c.requires.shape in
    let line_in : c.args.line < length (members_of_box t.costs (length t.rows.items)) = omega (arith, c.requires.line, s.many) in
    let form : IsFormOf t.costs t.rows.items (member_at t c.args.line) = members_are t.costs t.rows.items c.args.line (Low 0 0) line_in in
    let line_is = c.put_line.ensures.line ∙ ap (λ (rows : List Form). starting_line costs rows c.member_at-member.result) c.as_slice-rows.ensures.value
    ∙ ap (starting_line costs t.rows.items) c.member_at-member.ensures in
    let long : length c.put_line.new.line ≡ suc (length t.costs.low) =
    ap length line_is
    ∙ line_long costs t.rows.items (member_at t c.args.line) c.requires.fits
    (subst (λ (box : CostBox). IsFormOf box t.rows.items (member_at t c.args.line)) c.requires.costs form)
    ∙ ap (λ (box : CostBox). suc (length box.low)) (sym c.requires.costs) in
    record {
      high = s.high;
      basis = s.basis;
      lines = lines_set t.top (suc (length t.costs.low)) t.lines.items c.args.line c.put_line.new.line s.lines long c.put_line.ensures.numbers;
      many = length-set t.lines.items c.args.line c.put_line.new.line ∙ s.many;
      room = record { few = s.room.few; quotients = s.room.quotients; scratch = s.room.scratch };
    }
