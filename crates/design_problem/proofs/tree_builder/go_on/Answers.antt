use Rattle.std.proofs.Common.{inl, inr, sym, ap, subst, [], ◌∷◌, ◌++◌}
use Rattle.design_problem.specs.declared.tree.Entry.{Entry}
use Rattle.design_problem.specs.Builders.{KeepsMarks, last_run}
use Rattle.design_problem.proofs.tree_builder.go_on.Goals as goal

pub returns-in-Tighten-clause-marks : goal.returns-in-Tighten-clause-marks
returns-in-Tighten-clause-marks c n entries marked counted =
    subst (λ (e : Entry). KeepsMarks n (entries ++ e ∷ []) c.mark.new.self) (sym c.in-Tighten.is)
    (c.mark.ensures n entries c.in-Tighten.value c.in-Tighten.row marked counted)

pub returns-in-Split-clause-marks : goal.returns-in-Split-clause-marks
returns-in-Split-clause-marks c n entries marked counted =
    c.clear.ensures n entries c.args.entry.now marked counted (elim c.in-Split.is [
      | inl cut ↦ ap (λ (e : Entry). last_run (e ∷ [])) cut.2
      | inr other ↦ elim other [
        | inl halved ↦ ap (λ (e : Entry). last_run (e ∷ [])) halved.3
        | inr last ↦ elim last [
          | inl refuted ↦ ap (λ (e : Entry). last_run (e ∷ [])) refuted.1
          | inr undone ↦ ap (λ (e : Entry). last_run (e ∷ [])) undone
        ]
      ]
    ])
