use Rattle.std.proofs.Common.{arith}
use Rattle.std.proofs.lemmas.Result.{err_from_is_err_and}
use Rattle.form_search.proofs.held_tableau.HeldTableau.parts_of.Goals as goal

pub multipliers-requires : goal.multipliers-requires
multipliers-requires c = record { solved = c.requires }

pub returns-in_err-multipliers-clause-told : goal.returns-in_err-multipliers-clause-told
returns-in_err-multipliers-clause-told c = λ point. let p = err_from_is_err_and c.from_residual.result c.from_residual.ensures.1 in rw p.1 tt

pub returns-clause-told : goal.returns-clause-told
returns-clause-told c = λ point. record { refutes = c.in_ok-multipliers.ensures.refutes; few = omega (arith, c.in_ok-multipliers.ensures.few) }

pub returns-clause-wide : goal.returns-clause-wide
returns-clause-wide c = tt
