use Rattle.std.proofs.Common.{length, inl, subst, sym}
use Rattle.std.specs.Prelude.{All, List}
use Rattle.std.proofs.lemmas.List.Elements.{All-push}
use Rattle.cost_base.proofs.ListLemmas.{map_put}
use Rattle.design_problem.specs.Rows.{IsRow, form_of_row}
use Rattle.design_problem.specs.Forms.{Form, IsSmallForm}
use Rattle.evidence_checker.specs.Numbers.{check_fault_number}
use Rattle.evidence_checker.proofs.RowLaws.{first_goes_on, first_is_here, rows_more, at_none, at_some}
use Rattle.evidence_checker.proofs.rows.forms_of.Goals as goal

pub returns-in-Some-clause-first : goal.returns-in-Some-clause-first
returns-in-Some-clause-first c =
    rw c.at.ensures (inl (first_is_here c.args.problem.now c.args.rows.now c.loop-index.index (check_fault_number c.in-Some.fault)
    c.index-rows-index.result c.loop-index-test.true c.index-rows-index.is
    (at_some _ _ c.in_ok-fault.field-0 c.in-Some.fault c.in-Some.is c.in_ok-fault.ensures) c.loop-index.invariant.first))

pub loop-index-preserved : goal.loop-index-preserved
loop-index-preserved c =
    let p = c.args.problem.now in
    let rows = c.args.rows.now in
    let k = c.loop-index.index in
    let row = c.index-rows-index.result in
    let is_row : IsRow p row = at_none _ _ c.in_ok-fault.field-0 c.in_default.is c.in_ok-fault.ensures in
    let n = length p.low in
    record {
      rows = rows_more p rows k row c.loop-index-test.true c.index-rows-index.is is_row c.loop-index.invariant.rows;
      forms = map_put (form_of_row p) rows k row c.loop-index-test.true c.index-rows-index.is c.loop-index.forms.items
          c.loop-index.invariant.forms c.in_ok-form.form c.in_ok-form.ensures.form c.push_last.new.things.items
          c.in_ok-push_last.ensures.added;
      small = subst (λ (fs : List Form). All (IsSmallForm n) fs) (sym c.in_ok-push_last.ensures.added)
          (All-push (IsSmallForm n) c.loop-index.forms.items c.in_ok-form.form c.loop-index.invariant.small
          c.in_ok-form.ensures.small);
      first = first_goes_on p rows k row c.loop-index-test.true c.index-rows-index.is is_row c.loop-index.invariant.first;
    }
