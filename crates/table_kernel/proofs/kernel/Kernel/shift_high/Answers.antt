-- The constants of lines are short.
use Rattle.std.proofs.Common.{◌≤◌, ◌^◌, List, refl, subst, sym}
use Rattle.std.specs.Prelude.{nat_abs, All}
use Rattle.integer_pivots.specs.declared.line.Line.{Line}
use Rattle.integer_pivots.specs.Lines.{IsLine}
use Rattle.table_kernel.proofs.Shares.{constants_short}
use Rattle.table_kernel.proofs.kernel.Kernel.shift_high.Goals as goal

pub raise-requires-clause-constants : goal.raise-requires-clause-constants
raise-requires-clause-constants c =
    subst (λ (lines : List Line). All (λ (line : Line). nat_abs line.constant ≤ 2 ^ 44) lines) (sym c.as_mut_slice.ensures.value)
    (constants_short c.args.self.now c.requires.kernel.bounded)

pub raise-requires-clause-lines : goal.raise-requires-clause-lines
raise-requires-clause-lines c = subst (All IsLine) (sym c.as_mut_slice.ensures.value) c.requires.kernel.bounded.lines

pub returns-in-Some-clause-keeps : goal.returns-in-Some-clause-keeps
returns-in-Some-clause-keeps c =
    record {
      top = refl;
      rows = refl;
      lines = refl;
      quotients = refl;
      scratch = refl;
      common = refl;
      leads = refl;
      constants = refl;
      uses = refl;
      turns = refl;
      left = refl;
      entering = refl;
    }

pub returns-in_default-clause-keeps : goal.returns-in_default-clause-keeps
returns-in_default-clause-keeps c =
    record {
      top = refl;
      rows = refl;
      lines = refl;
      quotients = refl;
      scratch = refl;
      common = refl;
      leads = refl;
      constants = refl;
      uses = refl;
      turns = refl;
      left = refl;
      entering = refl;
    }

pub returns-in-Some-clause-costs : goal.returns-in-Some-clause-costs
returns-in-Some-clause-costs c = refl

pub returns-in_default-clause-costs : goal.returns-in_default-clause-costs
returns-in_default-clause-costs c = refl
