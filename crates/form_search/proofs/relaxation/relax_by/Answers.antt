use Rattle.std.proofs.Common.{◌<◌, ℕ, refl, sym, subst, List, Option, rules}
use Rattle.design_problem.specs.Forms.{Form}
use Rattle.form_search.specs.declared.relaxation.Relaxed.{Relaxed}
use Rattle.form_search.specs.Tables.{IsRoundTold, StandsAt, StandsWithNew}
use Rattle.form_search.proofs.MissingForms.{missing}
use Rattle.form_search.proofs.Relaxing.{new_falls}
use Rattle.form_search.proofs.SourceLaws.{in_step_then, leaves_none, leaves_then}
use Rattle.form_search.proofs.relaxation.relax_by.Goals.{In_default}
use Rattle.form_search.proofs.relaxation.relax_by.Goals as goal

-- a round that goes on
goes_on : (g : _) (c : In_default g) → StandsWithNew c.rounds.table.tableau.top c.args.costs.now c.rounds.pool c.relax_once.new.pool c.relax_once.new.table
goes_on g c =
    subst (λ (found : Option Relaxed). IsRoundTold (g.S.FormSource.accepted c.rounds.source) c.rounds.table.tableau.top c.args.costs.now
    c.rounds.pool c.relax_once.new.pool c.relax_once.new.point c.relax_once.new.table found) c.in_default.is c.in_ok-relaxed.ensures.round

pub rounds-init : goal.rounds-init
rounds-init g c = record {
  left = leaves_none g.S.FormSource c.args.source.now c.args.pool.now c.requires.in_step.lists;
  stands = c.requires.stands;
  places = refl;
}

pub relax_once-requires-clause-in_step : goal.relax_once-requires-clause-in_step
relax_once-requires-clause-in_step g c =
    in_step_then g.S.FormSource c.args.source.now c.rounds.source c.args.pool.now c.rounds.pool c.requires.in_step c.rounds.invariant.left

pub returns-in_err-relaxed-clause-left : goal.returns-in_err-relaxed-clause-left
returns-in_err-relaxed-clause-left g c =
    leaves_then g.S.FormSource c.args.source.now c.rounds.source c.relax_once.new.source c.args.pool.now c.rounds.pool
    c.relax_once.new.pool c.rounds.invariant.left c.relax_once.ensures.left (search rules)

pub returns-in-Some-clause-left : goal.returns-in-Some-clause-left
returns-in-Some-clause-left g c =
    leaves_then g.S.FormSource c.args.source.now c.rounds.source c.relax_once.new.source c.args.pool.now c.rounds.pool
    c.relax_once.new.pool c.rounds.invariant.left c.relax_once.ensures.left (search rules)

pub rounds-smaller : goal.rounds-smaller
rounds-smaller g c =
    let source = c.rounds.source in
    let pool = c.relax_once.new.pool in
    let left = c.relax_once.ensures.left in
    let before = missing (g.S.FormSource.possible_forms source) c.rounds.pool in
    subst (λ (possible_forms : List Form). missing possible_forms pool < before) (sym left.same.same_possible_forms)
    (new_falls (g.S.FormSource.true_form source) (g.S.FormSource.possible_forms source) c.rounds.pool pool
    (g.met.S.FormSource.true_forms_listed source) left.grows (goes_on g c).has_new)

pub rounds-preserved : goal.rounds-preserved
rounds-preserved g c =
    let was = c.rounds.invariant in
    record {
      left = leaves_then g.S.FormSource c.args.source.now c.rounds.source c.relax_once.new.source c.args.pool.now
          c.rounds.pool c.relax_once.new.pool was.left c.relax_once.ensures.left c.in_ok-relaxed.ensures.left.lists;
      stands = subst (λ (top : ℕ). StandsAt top c.args.costs.now c.relax_once.new.pool c.relax_once.new.table)
          was.stands.over.is_held.same_top (goes_on g c).stands;
      places = cc;
    }
