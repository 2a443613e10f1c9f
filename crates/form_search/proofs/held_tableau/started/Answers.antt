use Rattle.std.proofs.Common.{length, ap, refl, sym, subst, arith}
use Rattle.fraction_table.specs.declared.stage.Stage.{Stage}
use Rattle.fraction_table.specs.Tableaus.{Held, IsGoing}
use Rattle.form_search.proofs.held_tableau.started.Goals as goal

pub returns : goal.returns
returns c forms =
    let is = c.in_ok-start.ensures.held in
    record {
      over = record {
        is_held = record {
          same_top = ap (λ (held : Held). held.top) is;
          noted_top = refl;
          width = ap (λ (held : Held). length held.costs.low) is;
          noted_width = ap length c.as_slice.ensures;
          taken = 0;
          few = omega arith;
          rows = ap (λ (held : Held). held.rows) is;
          all = λ going. refl;
        };
        costs = ap (λ (held : Held). held.costs) is;
      };
      going = subst (λ (stage : Stage). IsGoing stage) (sym (ap (λ (held : Held). held.stage) is)) tt;
    }
