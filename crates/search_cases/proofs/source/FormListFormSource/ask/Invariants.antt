use Rattle.search_cases.specs.SmallForms.{AreFormsAsked}
use Rattle.search_cases.proofs.source.FormListFormSource.ask.Given as goal

abbrev pub invariant-loop-place : goal.invariant-loop-place
invariant-loop-place l = AreFormsAsked l.self l.point l.place l.fn.pool l.pool l.asked
