-- The new kernel is one, and may be left for its table in fractions.
use Rattle.std.proofs.Common.{ℕ, ◌≤◌, ◌∙◌, refl, ap, subst, [], length, map}
use Rattle.std.specs.Prelude.{pos, vec_capacity}
use Rattle.cost_base.specs.Lists.{numbers_from}
use Rattle.table_kernel.specs.declared.kernel.Kernel.{Kernel}
use Rattle.table_kernel.proofs.ParkedKernels.{started_parked}
use Rattle.table_kernel.proofs.StartKernels.{IsStarting, started}
use Rattle.table_kernel.proofs.start.starting_kernel.Goals.{In_ok-starting_table}
use Rattle.table_kernel.proofs.start.starting_kernel.Goals as goal

abbrev made : In_ok-starting_table → Kernel
made c = record {
  table = c.in_ok-starting_table.field-0;
  common = pos 1;
  lows = c.in_ok-lows.lows;
  leads = c.in_ok-lows.leads;
  constants = c.in_ok-lows.constants;
  uses = c.in_ok-uses.uses;
  turns = c.in_ok-uses.turns;
  left = c.in_ok-uses.left;
  entering = c.in_ok-uses.entering;
}

is_starting : (c : In_ok-starting_table) → IsStarting (made c) c.args.costs.now
is_starting c =
    let same = ap length c.as_slice.ensures in
    record {
      common = refl;
      lows = c.in_ok-lows.ensures.lows;
      leads = c.in_ok-lows.ensures.leads;
      constants = c.in_ok-lows.ensures.constants;
      small = c.in_ok-lows.ensures.small;
      uses = c.in_ok-uses.ensures.uses ∙ ap (λ (n : ℕ). map (λ v. []) (numbers_from 0 n)) same;
      turns = c.in_ok-uses.ensures.turns ∙ same;
      left = subst (λ (n : ℕ). n ≤ vec_capacity c.in_ok-uses.left) same c.in_ok-uses.ensures.left;
      entering = c.in_ok-uses.ensures.entering ∙ same;
    }

pub returns-clause-kernel : goal.returns-clause-kernel
returns-clause-kernel c =
    let a = (goal.at.returns-clause-kernel c).In_ok-starting_table in
    started (made a) c.args.costs.now c.args.top c.in_ok-starting_table.ensures.held c.in_ok-starting_table.ensures.sound (is_starting a)

pub returns-clause-parked : goal.returns-clause-parked
returns-clause-parked c =
    let a = (goal.at.returns-clause-parked c).In_ok-starting_table in
    started_parked (made a) c.args.costs.now c.args.top c.in_ok-starting_table.ensures.held c.in_ok-starting_table.ensures.sound (is_starting a)
