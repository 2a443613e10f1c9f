use Rattle.std.proofs.Common.{◌<◌, refl, sym, subst, List, length}
use Rattle.std.specs.Prelude.{pos, ◌<ℤ◌}
use Rattle.design_problem.specs.Forms.{Form}
use Rattle.design_problem.specs.Boxes.{greatest}
use Rattle.design_problem.specs.Forms.{form_at}
use Rattle.design_problem.specs.declared.tree.Entry.{Entry}
use Rattle.form_search.specs.declared.desk.Next.TheVariants.{Entry as ByEntry}
use Rattle.form_search.specs.NextEntries.{IsUnsplit}
use Rattle.form_search.proofs.NextEntries.{next_refute, row_next}
use Rattle.form_search.proofs.one_point.at_one_point.Goals as goal

pub returns-in_ok-refute_by-in-Some-clause-next : goal.returns-in_ok-refute_by-in-Some-clause-next
returns-in_ok-refute_by-in-Some-clause-next g c =
    let pool = c.args.pool.now in
    let costs = c.args.costs.now in
    let row = c.in-Some.row in
    let entry = c.in_ok-refute_by-in-Some.field-0 in
    let found = subst (λ (fs : List Form). (row < length fs) × (greatest (form_at fs row) costs <ℤ pos 0)) c.as_slice.ensures c.in-Some.ensures in
    record {
      step = λ top since.
          row_next (g.S.FormSource.accepted c.args.source.now) top pool (record { box = costs; since = since }) entry
          (next_refute pool row (record { box = costs; since = since }) (form_at pool row) costs entry found.0 refl refl found.1
          c.in_ok-refute_by-in-Some.ensures);
      unsplit = subst (λ (e : Entry). IsUnsplit (ByEntry e)) (sym c.in_ok-refute_by-in-Some.ensures) tt;
    }
