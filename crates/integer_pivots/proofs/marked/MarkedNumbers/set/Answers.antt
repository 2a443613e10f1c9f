-- The number's mark is put, or taken away where it is 0.
use Rattle.std.proofs.Common.{◌≡◌, arith, ap, subst, sym, of_z, to_z, w64, length, ◌<◌, List}
use Rattle.std.specs.Prelude.{ℤ}
use Rattle.integer_pivots.proofs.MarkLaws.{stays_marked}
use Rattle.integer_pivots.proofs.marked.MarkedNumbers.set.Goals as goal

pub invariant_of-self : goal.invariant_of-self
invariant_of-self c =
    stays_marked c.self.inside.numbers.items c.self.inside.marks.items c.put_mark.new.marks.items c.args.column _ _
    c.self.invariant c.put_mark.ensures.count
    (subst (λ (xs : List ℤ). c.args.column < length xs) (sym c.self.view_is) c.requires) (λ none. let zero : of_z w64 c.args.number ≡ 0 = grind (arith, none) in
    ap (to_z w64) zero) c.put_mark.ensures.own c.put_mark.ensures.others
