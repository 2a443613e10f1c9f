use Rattle.std.proofs.Common.{◌∙◌, sym, ap, length}
use Rattle.std.proofs.lemmas.List.{length-map}
use Rattle.cost_base.specs.Lists.{numbers_from}
use Rattle.cost_base.proofs.ListLemmas.{length-numbers_from}
use Rattle.design_problem.specs.Forms.{Form, coefficient_of}
use Rattle.design_problem.proofs.form.Form.variables.Goals as goal

pub returns : goal.returns
returns c =
    sym (length-numbers_from 0 c.self.inside.variables)
    ∙ sym (length-map (numbers_from 0 c.self.inside.variables) (coefficient_of c.self.inside.terms.items))
    ∙ ap (λ (f : Form). length f.coefficients) c.self.view_is
