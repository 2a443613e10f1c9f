use Rattle.std.proofs.Common.{ℕ, refl, sym, ◌∙◌, ap, List, Some}
use Rattle.design_problem.specs.declared.form.Row.{Row}
use Rattle.cost_branching.specs.Rivals.{KnownRows}
use Rattle.cost_branching.proofs.Asked.{told_cheap, told_leads, too_cheap_as}
use Rattle.cost_branching.proofs.rivals.ask_one.Goals as goal

pub returns-in_ok-push_row-in-Some-clause-one : goal.returns-in_ok-push_row-in-Some-clause-one
returns-in_ok-push_row-in-Some-clause-one c = λ point are.
    record {
      kept = c.keeps_problem_on_graph.ensures;
      row = c.in_ok-row-in-Some.row;
      request_is = c.in_ok-row-in-Some.ensures.request;
      cheap = too_cheap_as c.args.problem.now point c.args.request c.in_ok-row-in-Some.row.request
          c.as_slice.result.now c.in_ok-row-in-Some.row.rival c.in_ok-row-in-Some.ensures.request
          c.in_ok-row-in-Some.ensures.edges
          (told_cheap c.args.problem.now point c.args.request c.args.rivals.now c.told_of.result.now c.as_slice.result.now are c.requires.request
          c.told_of.ensures (c.in-Some.is ∙ ap (λ (es : List ℕ). Some es) (sym c.as_slice.ensures)));
      rows = ap (λ (rows : List Row). let known : KnownRows = record { problem = c.args.problem.now; rows = rows } in known)
          c.in_ok-push_row-in-Some.ensures.row;
      forms = c.in_ok-push_row-in-Some.ensures.form;
    }

pub returns-in-None-clause-one : goal.returns-in-None-clause-one
returns-in-None-clause-one c = λ point are.
    record {
      leads = told_leads c.args.problem.now point c.args.request c.args.rivals.now c.told_of.result.now are c.requires.request c.told_of.ensures c.in-None.is;
      rows = refl;
      forms = refl;
    }
