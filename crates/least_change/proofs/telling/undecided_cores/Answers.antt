-- The trees are printed, and all but the last put together with their cores.
use Rattle.std.proofs.Common.{◌∙◌, sym, subst, refl, List, [], ◌∷◌, ◌++◌}
use Rattle.design_problem.specs.declared.form.Row.{Row}
use Rattle.printed_rows.specs.NewNumbers.{AreAllPrinted}
use Rattle.least_change.proofs.ShownLaws.{undecided_front}
use Rattle.least_change.proofs.telling.undecided_cores.Goals as goal

pub printed_undecided-requires : goal.printed_undecided-requires
printed_undecided-requires c = c.requires.names

pub gathered-requires : goal.gathered-requires
gathered-requires c =
    let sheet = c.in_ok-rows.ensures in
    undecided_front c.args.pool.rows c.in_ok-rows.field-0.rows.items c.args.named.trees.items sheet.new_trees c.in_ok-rows.field-0.trees.items
    c.args.undecided.tree
    sheet.printed sheet.rest ∙ c.requires.counted

pub returns : goal.returns
returns c =
    let sheet = c.in_ok-rows.ensures in
    let told = c.in_ok-evidence.ensures in
    record {
      new_trees = sheet.new_trees;
      rest = c.in_ok-rows.field-0.trees.items;
      printed = subst (λ (rs : List Row). AreAllPrinted c.args.pool.rows (c.args.named.trees.items ++ c.args.undecided.tree ∷ []) rs sheet.new_trees)
          (sym told.rows_are) sheet.printed;
      rest_is = sheet.rest;
      last = sheet.last;
      kept = refl;
      zipped = told.zipped;
      cover_is = told.cover_is;
    }
