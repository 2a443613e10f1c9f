-- The tree that was put behind the others is the last one that is printed.
use Rattle.std.proofs.Common.{◌≡◌, ℕ, ◌<◌, ◌-◌, sym, ◌∙◌, ap, subst, length, length-append, take, List, [], ◌∷◌, ◌++◌, get_or, arith}
use Rattle.std.specs.Prelude.{All, Option, Some}
use Rattle.std.proofs.lemmas.List.{length-map}
use Rattle.design_problem.specs.declared.form.Row.{Row}
use Rattle.design_problem.specs.declared.tree.Entry.{Entry}
use Rattle.printed_rows.specs.NamedRows.{NamesBelow, is_row_named_in}
use Rattle.printed_rows.specs.NewNumbers.{AreAllPrinted, with_new_numbers}
use Rattle.least_change.proofs.telling.printed_undecided.Goals as goal

tree_is : {X : Type 0} (o : Option X) (x y : X) → o ≡ Some x → o ≡ Some y → x ≡ y
tree_is o x y first second = cc

pub printed_all-requires : goal.printed_all-requires
printed_all-requires c =
    subst (λ (rs : List Row). All (All (NamesBelow (length rs))) c.as_slice.result.now) (sym c.into_rows.ensures)
    (subst (λ (ts : List (List Entry)). All (All (NamesBelow (length c.args.pool.rows))) ts) (sym (c.as_slice.ensures.value ∙ c.in_ok-push.ensures.items))
    c.requires)

pub returns : goal.returns
returns c =
    let sheet = c.in_ok-rows.field-0 in
    let both = c.args.trees.items ++ c.args.undecided ∷ [] in
    let printed : AreAllPrinted c.args.pool.rows both sheet.rows.items sheet.trees.items =
    subst (λ (rs : List Row). AreAllPrinted rs both sheet.rows.items sheet.trees.items) c.into_rows.ensures
    (subst (λ (ts : List (List Entry)). AreAllPrinted c.into_rows.result.items ts sheet.rows.items sheet.trees.items)
    (c.as_slice.ensures.value ∙ c.in_ok-push.ensures.items) c.in_ok-rows.ensures) in
    let e : sheet.trees.len ≡ length sheet.trees.items = omega (arith, sheet.trees.ok.0) in
    let longer = ap length printed.trees_are ∙ length-map both (with_new_numbers (is_row_named_in both))
    ∙ length-append c.args.trees.items (c.args.undecided ∷ []) in
    let some : 0 < sheet.trees.len = omega (arith, e, longer) in
    record {
      new_trees = sheet.trees.items;
      printed = printed;
      rest = c.pop.ensures.rest ∙ ap (λ (n : ℕ). take (n - 1) sheet.trees.items) e;
      last = tree_is c.pop.result c.in-Some.tree _ c.in-Some.is (c.pop.ensures.value c.in-Some.tree some
          ∙ ap (λ (n : ℕ). Some (get_or sheet.trees.items (n - 1) c.in-Some.tree)) e);
    }
