use Rattle.std.proofs.Common.{◌∙◌, ap}
use Rattle.std.specs.Prelude.{length, ◌<◌}
use Rattle.design_problem.specs.declared.form.Term.{Term}
use Rattle.design_problem.specs.Forms.{terms_of}
use Rattle.design_problem.proofs.TermLaws.{terms_known}
use Rattle.std.proofs.lemmas.List.Elements.{All-same}
use Rattle.design_problem.proofs.form.Form.terms.Goals as goal

pub returns-clause-known : goal.returns-clause-known
returns-clause-known c =
    All-same (λ (t : Term). t.var < length c.args.self.now.coefficients) c.as_slice.result.now (terms_of c.args.self.now)
    (c.as_slice.ensures.value ∙ c.self.invariant ∙ ap terms_of c.self.view_is) (terms_known c.args.self.now)
