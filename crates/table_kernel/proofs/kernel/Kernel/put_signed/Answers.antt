-- The variable's line is put with the sign.
use Rattle.std.proofs.Common.{◌∙◌, refl, sym, ap, arith, w64}
use Rattle.std.specs.Prelude.{ℤ, ◌*ℤ◌, nat_abs}
use Rattle.std.proofs.lemmas.Int.{to_z-of_z}
use Rattle.whole_numbers.specs.Lists.{number_at}
use Rattle.integer_pivots.specs.declared.line.Line.{Line}
use Rattle.integer_pivots.proofs.Sizes.{read}
use Rattle.table_kernel.proofs.Lines.{IsLineRead, line_read, signed_line}
use Rattle.table_kernel.proofs.kernel.Kernel.put_signed.Goals as goal
use Rattle.table_kernel.proofs.kernel.Kernel.put_signed.Goals.{After-index}

line : (c : After-index) → IsLineRead c.args.self.now c.args.var c.index.result.now
line c =
    let m = c.requires.kernel in
    line_read c.args.self.now m.shaped m.bounded c.args.var c.index.result.now c.requires.var c.index.ensures

pub index-requires : goal.index-requires
index-requires c = let k = c.args.self.now in omega (arith, c.requires.var, c.requires.kernel.shaped.lows, k.lows.ok.0)

pub put_signed_line-requires-clause-line : goal.put_signed_line-requires-clause-line
put_signed_line-requires-clause-line c = (line (goal.at.put_signed_line-requires-clause-line c).After-index).small

pub put_signed_line-requires-clause-count : goal.put_signed_line-requires-clause-count
put_signed_line-requires-clause-count c =
    c.requires.kernel.shaped.entering ∙ sym (line (goal.at.put_signed_line-requires-clause-count c).After-index).long

pub returns-clause-numbers : goal.returns-clause-numbers
returns-clause-numbers c k k_in =
    let l = line (goal.at.returns-clause-numbers c).After-index in
    c.put_signed_line.ensures.numbers k (omega (arith, k_in, l.long))
    ∙ ap (λ (z : ℤ). z *ℤ number_at c.index.result.now.numbers k) (to_z-of_z w64 c.args.sign c.ranges.sign)
    ∙ ap (λ (m : Line). c.args.sign *ℤ number_at m.numbers k) l.is

pub returns-clause-denominator : goal.returns-clause-denominator
returns-clause-denominator c =
    c.put_signed_line.ensures.denominator ∙ ap (λ (m : Line). m.denominator) (line (goal.at.returns-clause-denominator c).After-index).is

pub returns-clause-constant : goal.returns-clause-constant
returns-clause-constant c = c.put_signed_line.ensures.constant ∙ to_z-of_z w64 c.args.constant c.ranges.constant

pub returns-clause-line : goal.returns-clause-line
returns-clause-line c =
    let l = line (goal.at.returns-clause-line c).After-index in
    let same = to_z-of_z w64 c.args.sign c.ranges.sign in
    signed_line c.index.result.now c.put_signed_line.new.into (read c.args.sign) l.small (ap nat_abs same ∙ c.requires.sign)
    c.put_signed_line.ensures.count c.put_signed_line.ensures.numbers c.put_signed_line.ensures.denominator c.put_signed_line.ensures.reach

pub returns-clause-keeps : goal.returns-clause-keeps
returns-clause-keeps c =
    record {
      table = refl;
      common = refl;
      lows = refl;
      leads = refl;
      constants = refl;
      uses = refl;
      turns = refl;
      left = omega arith;
      entering = c.put_signed_line.ensures.count ∙ (line (goal.at.returns-clause-keeps c).After-index).long ∙ sym c.requires.kernel.shaped.entering;
    }
