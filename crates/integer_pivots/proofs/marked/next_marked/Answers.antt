-- The first mark stands in the rest of the column's word, or in a word behind it.
use Rattle.std.proofs.Common.{◌*◌, ◌/◌, ◌%◌, ◌^◌, ◌+◌, ◌∙◌, ap, sym, inl, inr, arith}
use Rattle.std.proofs.lemmas.Bool.{cases_lt}
use Rattle.integer_pivots.proofs.MarkLaws.{none_to_end, none_up_to}
use Rattle.integer_pivots.proofs.marked.next_marked.Goals as goal

pub returns-then-rest-eq0-clause-passed : goal.returns-then-rest-eq0-clause-passed
returns-then-rest-eq0-clause-passed c k behind before =
    let column = c.args.column in
    elim (cases_lt k ((column / 64 + 1) * 64)) [
      | inl here ↦
          none_to_end c.args.first.now c.args.second.now column
          (ap (λ marks. marks / 2 ^ (column % 64)) (sym c.in_either.ensures) ∙ omega (arith, c.if-rest-eq0.true)) k behind here
      | inr later ↦ c.next_word.ensures.passed k later before
    ]

pub returns-clause-passed : goal.returns-clause-passed
returns-clause-passed c =
    let column = c.args.column in
    none_up_to c.args.first.now c.args.second.now column (column / 64) (column % 64) c.in_either.result c.column_of.result
    c.in_either.ensures c.in_either.type_inv (omega (arith, c.if-rest-eq0.false)) (omega arith)
    (λ k behind before. absurd (omega (arith, behind, before)))
    (omega (arith, c.column_of.ensures))
