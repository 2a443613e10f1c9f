-- The use by one more term is put.
use Rattle.std.specs.declared.alloc.Global.{Global}
use Rattle.std.proofs.Common.{Vec, ◌^◌, ◌<◌, get_or, length, subst, sym, arith}
use Rattle.std.specs.Prelude.{nat_abs, vec_capacity, vec_len}
use Rattle.design_problem.specs.Forms.{no_term}
use Rattle.integer_pivots.specs.declared.uses.Use.{Use}
use Rattle.integer_pivots.proofs.Sizes.{read_number}
use Rattle.integer_pivots.proofs.UsePushes.{all_pushed, next_list, none_pushed, push_next, term_within}
use Rattle.integer_pivots.proofs.uses.push_uses.Goals as goal

pub loop-term-init : goal.loop-term-init
loop-term-init c = none_pushed c.args.row c.terms-term-items.result.now c.args.uses.now

pub push_reserved-requires : goal.push_reserved-requires
push_reserved-requires c =
    let list = c.index-uses-term.result in
    let index = c.loop-term.term-index in
    let t = get_or c.terms-term-items.result.now index no_term in
    let known : t.var < length c.args.form.now.coefficients = c.terms-term-items.ensures.known index no_term c.loop-term-test.true in
    subst (λ (l : Vec Use Global). vec_len l < vec_capacity l)
    (sym (next_list c.args.row c.args.form.now c.terms-term-items.result.now index c.args.uses.now c.loop-term.uses list
    c.terms-term-items.ensures.terms c.loop-term-test.true c.loop-term.invariant))
    (c.requires.room t.var list (omega (arith, known, c.requires.count)))

pub loop-term-preserved : goal.loop-term-preserved
loop-term-preserved c =
    let ts = c.terms-term-items.result.now in
    let index = c.loop-term.term-index in
    let t = get_or ts index no_term in
    let small = term_within c.args.form.now ts index (2 ^ 26) c.terms-term-items.ensures.terms c.loop-term-test.true c.requires.sizes in
    push_next c.args.row c.args.form.now ts index c.args.uses.now c.loop-term.uses c.push_reserved.new.self
    c.index-uses-term.result _ c.terms-term-items.ensures.terms c.loop-term-test.true c.requires.count
    c.loop-term.auto.uses
    c.push_reserved.ensures.items (read_number t.coefficient (let e : nat_abs t.coefficient < 2 ^ 63 = omega (arith, small) in e)) c.loop-term.invariant

pub returns : goal.returns
returns c = λ v v_in.
    all_pushed c.args.row c.args.form.now c.terms-term-items.result.now c.loop-term.term-index c.args.uses.now
    c.loop-term.uses v c.terms-term-items.ensures.terms c.loop-term-test.false c.loop-term.auto.term-index-end
    c.loop-term.auto.uses v_in
    c.loop-term.invariant
