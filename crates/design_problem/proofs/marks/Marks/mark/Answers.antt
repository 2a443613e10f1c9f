use Rattle.std.proofs.Common.{refl, sym, subst, [], ◌∷◌, ◌++◌}
use Rattle.design_problem.specs.declared.tree.Side.{Side}
use Rattle.design_problem.specs.declared.tree.Entry.TheVariants.{Tighten}
use Rattle.design_problem.specs.Builders.{KeepsMarks}
use Rattle.std.specs.Vec.{with_item}
use Rattle.design_problem.proofs.MarkLaws.{marked_low, marked_high}
use Rattle.design_problem.proofs.marks.Marks.mark.Goals as goal

pub returns-in-Low : goal.returns-in-Low
returns-in-Low c n entries value row marked counted =
    let old = c.args.self.now in
    subst (λ (s : Side). KeepsMarks n (entries ++ Tighten c.args.var s value row ∷ [])
    (record { begun = old.begun; low = with_item old.low c.args.var c.args.count; high = old.high }))
    (sym c.in-Low.is)
    (marked_low n entries c.args.var value row c.args.count old
    (record { begun = old.begun; low = with_item old.low c.args.var c.args.count; high = old.high }) refl refl
    refl marked counted)

pub returns-in-High : goal.returns-in-High
returns-in-High c n entries value row marked counted =
    let old = c.args.self.now in
    subst (λ (s : Side). KeepsMarks n (entries ++ Tighten c.args.var s value row ∷ [])
    (record { begun = old.begun; low = old.low; high = with_item old.high c.args.var c.args.count }))
    (sym c.in-High.is)
    (marked_high n entries c.args.var value row c.args.count old
    (record { begun = old.begun; low = old.low; high = with_item old.high c.args.var c.args.count }) refl refl
    refl marked counted)
