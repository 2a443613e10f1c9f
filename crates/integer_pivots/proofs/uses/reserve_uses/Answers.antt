-- One more list has room.
use Rattle.std.specs.declared.alloc.Global.{Global}
use Rattle.std.proofs.Common.{Vec, ℕ, ◌<◌, ◌∙◌, get_or, set, subst, sym, arith, below_more}
use Rattle.std.specs.Prelude.{vec_capacity, vec_len}
use Rattle.std.proofs.Math.Seq.{map-set_same}
use Rattle.std.proofs.lemmas.Grind.{common_steps}
use Rattle.std.proofs.lemmas.List.{get_or-set_other, get_or-set_same}
use Rattle.integer_pivots.specs.declared.uses.Use.{Use}
use Rattle.integer_pivots.proofs.uses.reserve_uses.Goals as goal

pub returns-then-is_err-clause-same : goal.returns-then-is_err-clause-same
returns-then-is_err-clause-same c =
    map-set_same (λ (list : Vec Use Global). list.items) c.loop-var.uses c.loop-var.var c.reserve.new.self
    c.index-uses-var.result c.reserve.ensures.items ∙ c.loop-var.invariant.same

pub loop-var-preserved : goal.loop-var-preserved
loop-var-preserved c =
    let lists = c.loop-var.uses in
    let var = c.loop-var.var in
    let list = c.reserve.new.self in
    let room : vec_len list < vec_capacity list = grind (arith, common_steps) in
    record {
      same = map-set_same (λ (list : Vec Use Global). list.items) lists var list c.index-uses-var.result c.reserve.ensures.items ∙ c.loop-var.invariant.same;
      room = λ k d k_in.
          below_more (λ (j : ℕ). vec_len (get_or (set lists var list) j d) < vec_capacity (get_or (set lists var list) j d)) var
          (λ j j_in. subst (λ (l : Vec Use Global). vec_len l < vec_capacity l)
          (sym (get_or-set_other lists var j list d (λ same. absurd (omega (arith, same, j_in)))))
          (c.loop-var.invariant.room j d j_in))
          (subst (λ (l : Vec Use Global). vec_len l < vec_capacity l)
          (sym (get_or-set_same lists var list d (omega (arith, c.loop-var-test.true, c.loop-var.auto.uses))))
          room)
          k k_in;
    }
