-- The line's denominator goes into the common one.
use Rattle.std.proofs.Common.{◌≡◌, ◌/◌, ◌^◌, ◌∙◌, sym, ap, subst}
use mathlib.Core.Path.{ap₂}
use Rattle.std.specs.Prelude.{ℤ, pos, ◌*ℤ◌, ◌<ℤ◌, ◌≤ℤ◌, nat_abs}
use Prim.Native.Nat.{◌∣◌}
use Rattle.integer_pivots.specs.declared.line.Line.{Line}
use Rattle.integer_pivots.proofs.Sizes.{read}
use Rattle.integer_pivots.proofs.LineReads.{denominator_read}
use Rattle.table_kernel.specs.Numbers.{share_of}
use Rattle.table_kernel.specs.Turns.{line_of}
use Rattle.table_kernel.proofs.Lines.{IsLineRead, common_read, line_read, read_share}
use Rattle.table_kernel.proofs.kernel.Kernel.share.Goals as goal
use Rattle.table_kernel.proofs.kernel.Kernel.share.Goals.{After-index, After-share_in}

line : (c : After-index) → IsLineRead c.args.self.now c.args.var c.index.result.now
line c =
    let m = c.requires.kernel in
    line_read c.args.self.now m.shaped m.bounded c.args.var c.index.result.now c.requires.var c.index.ensures

pub share_in-requires-clause-common : goal.share_in-requires-clause-common
share_in-requires-clause-common c =
    let b = c.requires.kernel.bounded in
    subst (λ (z : ℤ). (pos 0 <ℤ z) × (z ≤ℤ pos (2 ^ 30))) (sym (common_read c.args.self.now b)) (b.positive, b.common)

pub share_in-requires-clause-denominator : goal.share_in-requires-clause-denominator
share_in-requires-clause-denominator c =
    let l = line (goal.at.share_in-requires-clause-denominator c).After-index in
    subst (λ (z : ℤ). pos 0 <ℤ z) (sym (denominator_read c.index.result.now l.small).1) l.small.positive

pub share_in-requires-clause-divides : goal.share_in-requires-clause-divides
share_in-requires-clause-divides c =
    let l = line (goal.at.share_in-requires-clause-divides c).After-index in
    subst (λ (z : ℤ). nat_abs z ∣ nat_abs (read c.args.self.now.common)) (sym (denominator_read c.index.result.now l.small).1)
    (subst (λ (z : ℤ). nat_abs c.index.result.now.denominator ∣ nat_abs z) (sym (common_read c.args.self.now c.requires.kernel.bounded)) l.divides)

-- the result as it is read
is_read : (c : After-share_in) → read c.share_in.result ≡ c.share_in.result
is_read c = read_share c.share_in.result c.share_in.ensures.positive c.share_in.ensures.size

pub returns-clause-share : goal.returns-clause-share
returns-clause-share c =
    let k = c.args.self.now in
    let l = line (goal.at.returns-clause-share c).After-index in
    is_read (goal.at.returns-clause-share c).After-share_in
    ∙ c.share_in.ensures.share
    ∙ ap₂ (λ (y z : ℤ). pos (nat_abs y / nat_abs z)) (common_read k c.requires.kernel.bounded) (denominator_read c.index.result.now l.small).1
    ∙ ap (λ (m : Line). pos (share_of (nat_abs k.common) m)) l.is

pub returns-clause-times : goal.returns-clause-times
returns-clause-times c =
    let k = c.args.self.now in
    let l = line (goal.at.returns-clause-times c).After-index in
    ap (λ (z : ℤ). z *ℤ (line_of k c.args.var).denominator) (is_read (goal.at.returns-clause-times c).After-share_in)
    ∙ ap (λ (m : Line). c.share_in.result *ℤ m.denominator) (sym l.is)
    ∙ ap (λ (z : ℤ). c.share_in.result *ℤ z) (sym (denominator_read c.index.result.now l.small).1)
    ∙ c.share_in.ensures.times
    ∙ common_read k c.requires.kernel.bounded

pub returns-clause-positive : goal.returns-clause-positive
returns-clause-positive c =
    subst (λ (z : ℤ). pos 1 ≤ℤ z) (sym (is_read (goal.at.returns-clause-positive c).After-share_in)) c.share_in.ensures.positive

pub returns-clause-size : goal.returns-clause-size
returns-clause-size c =
    subst (λ (z : ℤ). z ≤ℤ pos (2 ^ 30)) (sym (is_read (goal.at.returns-clause-size c).After-share_in)) c.share_in.ensures.size
