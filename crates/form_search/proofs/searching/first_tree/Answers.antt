use Rattle.std.proofs.Common.{ℕ, ◌≤◌, ◌<◌, List, subst, arith, rules}
use Rattle.std.specs.Prelude.{slice_index}
use Rattle.std.proofs.lemmas.List.{get_or_default}
use Rattle.std.proofs.lemmas.Result.{IfOk-weaker}
use Rattle.form_search.proofs.searching.first_tree.Goals as goal

pub returns-clause-ranges : goal.returns-clause-ranges
returns-clause-ranges c =
    IfOk-weaker c.start.result _ _
    (λ tree is. record {
      is_box = c.requires.ranges;
      lows = c.requires.lows;
      highs = λ k d k_in.
          let read : slice_index c.as_slice-highs.result.now k < 65536 = search rules in
          let here : slice_index c.args.costs.now.high k < 65536 = subst (λ (hs : List ℕ). slice_index hs k < 65536) c.as_slice-highs.ensures read in
          subst (λ (x : ℕ). x ≤ 65535) (get_or_default c.args.costs.now.high k 0 d k_in) (omega (arith, here));
      few = omega (arith, c.ranges.variables);
    })
    c.start.ensures
