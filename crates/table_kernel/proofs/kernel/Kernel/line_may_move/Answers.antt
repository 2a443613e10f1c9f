-- The limit is tested as it is.
use Rattle.std.proofs.Common.{◌≡◌, ℕ, ◌+◌, ◌*◌, ◌≤◌, ◌<◌, ◌^◌, ◌∙◌, ap, subst, sym, arith}
use Rattle.std.specs.Prelude.{nat_abs}
use Rattle.std.proofs.lemmas.Bool.{le-leb, leb-true}
use Rattle.std.proofs.lemmas.Int.{ints}
use Rattle.std.proofs.lemmas.List.{get_or_default}
use Rattle.std.proofs.Math.Nat.{mul-le-mul}
use Rattle.integer_pivots.specs.declared.line.Line.{Line}
use Rattle.integer_pivots.specs.Lines.{no_line, step_of}
use Rattle.integer_pivots.proofs.Sizes.{read, read_number}
use Rattle.table_kernel.specs.Numbers.{share_of}
use Rattle.table_kernel.specs.Turns.{line_of}
use Rattle.table_kernel.proofs.AtBasis.{kernel_moves}
use Rattle.table_kernel.proofs.Shares.{constants_short}
use Rattle.table_kernel.proofs.kernel.Kernel.line_may_move.Goals.{After-share}
use Rattle.table_kernel.proofs.kernel.Kernel.line_may_move.Goals as goal

module _ (c : After-share) where
  line_is : c.index-line.result.now ≡ line_of c.args.self.now c.args.var
  line_is = c.index-line.ensures ∙ get_or_default c.args.self.now.lows.items c.args.var _ no_line (omega (arith, c.requires.var, c.requires.kernel.shaped.lows))

  far_is : nat_abs (read c.args.far) ≡ nat_abs c.args.far
  far_is = ap nat_abs (read_number c.args.far (omega (arith, ints, c.requires.far.0, c.requires.far.1)))

  step_is : nat_abs (read c.step.result) ≡ step_of (line_of c.args.self.now c.args.var)
  step_is =
      ap nat_abs (read_number c.step.result (omega (arith, ints, c.step.ensures.size.0, c.step.ensures.size.1)))
      ∙ ap nat_abs c.step.ensures.exact
      ∙ ap step_of line_is

  share_is : nat_abs (read c.share.result) ≡ share_of (nat_abs c.args.self.now.common) (line_of c.args.self.now c.args.var)
  share_is =
      ap nat_abs (read_number c.share.result (omega (arith, ints, c.share.ensures.positive, c.share.ensures.size)))
      ∙ ap nat_abs c.share.ensures.share

  constant_is : c.from.result ≡ nat_abs (line_of c.args.self.now c.args.var).constant
  constant_is =
      let short = constants_short c.args.self.now c.requires.kernel.bounded c.args.var no_line (omega (arith, c.requires.var, c.requires.kernel.shaped.lows)) in
      c.from.ensures
      ∙ c.unsigned_abs.ensures.value
      ∙ ap nat_abs (ap (λ (line : Line). read line.constant) line_is ∙ read_number (line_of c.args.self.now c.args.var).constant (omega (arith, short)))

  whole_is : (c.from.result + nat_abs (read c.args.far) * nat_abs (read c.step.result)) * nat_abs (read c.share.result)
      ≡ (nat_abs (line_of c.args.self.now c.args.var).constant + nat_abs c.args.far * step_of (line_of c.args.self.now c.args.var))
      * share_of (nat_abs c.args.self.now.common) (line_of c.args.self.now c.args.var)
  whole_is =
      ap (λ (n : ℕ). (n + nat_abs (read c.args.far) * nat_abs (read c.step.result)) * nat_abs (read c.share.result)) constant_is
      ∙ ap (λ (n : ℕ). (nat_abs (line_of c.args.self.now c.args.var).constant + n * nat_abs (read c.step.result)) * nat_abs (read c.share.result)) far_is
      ∙ ap (λ (n : ℕ). (nat_abs (line_of c.args.self.now c.args.var).constant + nat_abs c.args.far * n) * nat_abs (read c.share.result)) step_is
      ∙ ap (λ (n : ℕ). (nat_abs (line_of c.args.self.now c.args.var).constant + nat_abs c.args.far * step_of (line_of c.args.self.now c.args.var)) * n) share_is

  whole_small : (c.from.result + nat_abs (read c.args.far) * nat_abs (read c.step.result)) * nat_abs (read c.share.result) < 2 ^ 127
  whole_small =
      let short = constants_short c.args.self.now c.requires.kernel.bounded c.args.var no_line (omega (arith, c.requires.var, c.requires.kernel.shaped.lows)) in
      let far_small : nat_abs (read c.args.far) ≤ 2 ^ 61 = omega (arith, ints, far_is, c.requires.far.0, c.requires.far.1) in
      let step_small : nat_abs (read c.step.result) ≤ 2 ^ 30 =
      omega (
        arith,
        ints,
        ap nat_abs (read_number c.step.result (omega (arith, ints, c.step.ensures.size.0, c.step.ensures.size.1))),
        c.step.ensures.size.0,
        c.step.ensures.size.1,
      ) in
      let share_small : nat_abs (read c.share.result) ≤ 2 ^ 30 =
      omega (
        arith,
        ints,
        ap nat_abs (read_number c.share.result (omega (arith, ints, c.share.ensures.positive, c.share.ensures.size))),
        c.share.ensures.positive,
        c.share.ensures.size,
      ) in
      let moved : nat_abs (read c.args.far) * nat_abs (read c.step.result) ≤ 2 ^ 61 * 2 ^ 30 = mul-le-mul far_small step_small in
      let most : c.from.result + nat_abs (read c.args.far) * nat_abs (read c.step.result) ≤ 2 ^ 92 = omega (arith, moved, constant_is, short) in
      let all : (c.from.result + nat_abs (read c.args.far) * nat_abs (read c.step.result)) * nat_abs (read c.share.result) ≤ 2 ^ 92 * 2 ^ 30 = mul-le-mul most
      share_small in
      omega (arith, all)

pub overflow_mul-result : goal.overflow_mul-result
overflow_mul-result c = record { fits = let small = whole_small (goal.at.overflow_mul-result c).After-share in omega (arith, small) }

pub returns : goal.returns
returns c =
    let a = (goal.at.returns c).After-share in (
      λ holds. subst (λ (n : ℕ). n ≤ 2 ^ 44) (whole_is a) (leb-true _ (2 ^ 44) holds),
      λ may. le-leb _ (2 ^ 44) (subst (λ (n : ℕ). n ≤ 2 ^ 44) (sym (whole_is a)) may),
    )

pub share-requires-clause-kernel : goal.share-requires-clause-kernel
share-requires-clause-kernel c = kernel_moves c.args.self.now c.requires.kernel

pub share-requires-clause-var : goal.share-requires-clause-var
share-requires-clause-var c = c.requires.var
