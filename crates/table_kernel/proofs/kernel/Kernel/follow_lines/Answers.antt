-- One variable's constants more follow.
use Rattle.std.proofs.Common.{rules, ◌^◌, ◌+◌, ◌<◌, subst, sym, arith}
use Rattle.std.specs.Int.Signed.{mag}
use Rattle.table_kernel.specs.declared.kernel.Kernel.{Kernel}
use Rattle.table_kernel.proofs.FollowedLines.{AreFollowedTo, all_followed, first_meanwhile, kept_bounded, kept_by_first, kept_fit, kept_high, kept_shaped, kept_width, none_followed, one_followed, one_stays, read_factor}
use Rattle.table_kernel.proofs.kernel.Kernel.follow_lines.Goals.{then-index-ne0, else-index-ne0}
use Rattle.table_kernel.proofs.kernel.Kernel.follow_lines.Goals as goal

pub loop-var-init : goal.loop-var-init
loop-var-init c = none_followed c.args.self.now c.requires.kernel.bounded c.requires.made.others

pub follow-requires-clause-kernel : goal.follow-requires-clause-kernel
follow-requires-clause-kernel c =
    let k = c.args.self.now in
    let now = c.loop-var.self in
    let f = c.loop-var.invariant in
    record {
      shaped = kept_shaped k now f.keeps f.by_first.count c.requires.kernel.shaped;
      bounded = kept_bounded k now f.keeps f.small c.requires.kernel.bounded;
      fit = kept_fit k now f.keeps c.requires.kernel.fit;
      high = kept_high k now f.keeps c.requires.kernel.high;
    }

pub follow-requires-clause-var : goal.follow-requires-clause-var
follow-requires-clause-var c =
    let k = c.args.self.now in
    omega (
      arith,
      c.loop-var-test.true,
      c.len-var-end.ensures,
      k.lows.ok.0,
      c.requires.kernel.shaped.lows,
      kept_width k c.loop-var.self c.loop-var.invariant.keeps,
    )

pub follow-requires-clause-made : goal.follow-requires-clause-made
follow-requires-clause-made c =
    let k = c.args.self.now in
    let now = c.loop-var.self in
    let f = c.loop-var.invariant in
    record {
      small = first_meanwhile k now c.loop-var.var c.requires.kernel.shaped c.requires.kernel.bounded c.requires.made.small f;
      others = kept_by_first k now f.keeps f.by_first;
    }

pub loop-var-preserved : goal.loop-var-preserved
loop-var-preserved c =
    let k = c.args.self.now in
    let now = c.loop-var.self in
    let v = c.loop-var.var in
    let f = c.loop-var.invariant in
    elim c.if-index-ne0.branch [
      | then-index-ne0 w ↦
          subst (λ (n : Kernel). AreFollowedTo k n (v + 1)) (sym w.self-is)
          (one_followed k now w.follow.new.self v f w.follow.ensures.keeps w.follow.ensures.own w.follow.ensures.others
          w.follow.ensures.by_first w.follow.ensures.small)
      | else-index-ne0 w ↦
          let fits : mag c.index.result.now.factor < 2 ^ 63 = search rules in
          subst (λ (n : Kernel). AreFollowedTo k n (v + 1)) (sym w.self-is)
          (one_stays k now v f (λ v_in. c.requires.stays v v_in
          (read_factor k now v c.index.result.now f.keeps c.requires.kernel.shaped v_in c.index.ensures fits w.if-index-ne0.false)))
    ]

pub returns-clause-constants : goal.returns-clause-constants
returns-clause-constants c =
    let k = c.args.self.now in
    all_followed k c.loop-var.self c.loop-var.var c.requires.kernel.shaped c.requires.kernel.bounded c.requires.kernel.fit
    (omega (arith, c.loop-var-test.false, c.len-var-end.ensures, k.lows.ok.0, c.requires.kernel.shaped.lows)) c.loop-var.invariant

pub returns-clause-small : goal.returns-clause-small
returns-clause-small c = c.loop-var.invariant.small

pub returns-clause-keeps : goal.returns-clause-keeps
returns-clause-keeps c = c.loop-var.invariant.keeps
