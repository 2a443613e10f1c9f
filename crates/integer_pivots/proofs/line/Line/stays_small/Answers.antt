-- Where numbers of the sizes that are told stay small, those of the line do.
use Rattle.std.proofs.Common.{◌≡◌, ℕ, ◌+◌, ◌*◌, ◌^◌, ◌≤◌, refl, sym, ◌∙◌, ap, subst, arith}
use Rattle.std.specs.Prelude.{ℤ, pos, ◌≤ℤ◌, nat_abs}
use Rattle.std.proofs.lemmas.Int.{ints}
use mathlib.Core.Path.{ap₂}
use Rattle.integer_pivots.specs.Numbers.{AllWithin, greatest_of}
use Rattle.integer_pivots.proofs.FailedTests.{failed, never}
use Rattle.integer_pivots.proofs.Sizes.{positive_size, read, read_known, read_number, size_of, wider}
use Rattle.integer_pivots.proofs.TurnLaws.{greatest_is, greatest_least, own_kept, own_told, sizes_kept}
use Rattle.integer_pivots.proofs.line.Line.stays_small.Goals as goal

pub returns-then-not-keeps : goal.returns-then-not-keeps
returns-then-not-keeps c =
    let e = c.requires.entering in
    never
    (λ small. failed c.keeps.result c.if-not-keeps.true c.keeps.ensures
    (own_kept (nat_abs c.args.turn.multiplier) (nat_abs c.args.turn.factor) c.args.entering.now.denominator
    (positive_size c.args.entering.now.denominator (2 ^ 30) (e.positive, e.denominator)) small.own))

pub returns-then-keeps : goal.returns-then-keeps
returns-then-keeps c =
    let m = nat_abs c.args.turn.multiplier in
    let f = nat_abs c.args.turn.factor in
    let line = c.args.self.now in
    let entering = c.args.entering.now in
    let l = c.requires.line in
    let e = c.requires.entering in
    let first = size_of line.reach (2 ^ 30) (l.reach_positive, l.reach) in
    let second = size_of entering.reach (2 ^ 30) (e.reach_positive, e.reach) in (
      λ holds. record {
        numbers = sizes_kept m f (greatest_of line.numbers) (nat_abs (read line.reach)) (greatest_of entering.numbers)
            (nat_abs (read entering.reach))
            (omega (arith, greatest_least line.numbers (nat_abs line.reach) l.numbers, ap nat_abs (read_number line.reach (omega (arith, first)))))
            (omega (
              arith,
              greatest_least entering.numbers (nat_abs entering.reach) e.numbers,
              ap nat_abs (read_number entering.reach (omega (arith, second))),
            ))
            (c.keeps-2.ensures.0 c.if-keeps.true);
        own = own_told m f entering.denominator (positive_size entering.denominator (2 ^ 30) (e.positive, e.denominator))
            (c.keeps.ensures.0 c.if-not-keeps.false);
      },
      λ small. refl,
    )

pub greatest-requires : goal.greatest-requires
greatest-requires c =
    let l = c.requires.line in
    subst (AllWithin (2 ^ 62)) (sym c.as_slice.ensures)
    (wider (nat_abs c.args.self.now.reach) (2 ^ 62) c.args.self.now.numbers
    (omega (arith, size_of c.args.self.now.reach (2 ^ 30) (l.reach_positive, l.reach))) l.numbers)

pub greatest-requires-2 : goal.greatest-requires-2
greatest-requires-2 c =
    let e = c.requires.entering in
    subst (AllWithin (2 ^ 62)) (sym c.as_slice-2.ensures)
    (wider (nat_abs c.args.entering.now.reach) (2 ^ 62) c.args.entering.now.numbers
    (omega (arith, size_of c.args.entering.now.reach (2 ^ 30) (e.reach_positive, e.reach))) e.numbers)

pub keeps-requires-3-clause-most : goal.keeps-requires-3-clause-most
keeps-requires-3-clause-most c =
    let l = c.requires.line in
    let least = c.greatest.ensures.least (nat_abs c.args.self.now.reach)
    (subst (AllWithin (nat_abs c.args.self.now.reach)) (sym c.as_slice.ensures) l.numbers) in
    let small = size_of c.args.self.now.reach (2 ^ 30) (l.reach_positive, l.reach) in
    subst (λ (z : ℤ). (pos 0 ≤ℤ z) × (z ≤ℤ pos (2 ^ 30))) (sym (read_known c.greatest.result c.greatest.type_inv))
    (c.greatest.ensures.from_zero, omega (arith, ints, least, small, c.greatest.ensures.from_zero))

pub keeps-requires-3-clause-entering : goal.keeps-requires-3-clause-entering
keeps-requires-3-clause-entering c =
    let e = c.requires.entering in
    let least = c.greatest-2.ensures.least (nat_abs c.args.entering.now.reach)
    (subst (AllWithin (nat_abs c.args.entering.now.reach)) (sym c.as_slice-2.ensures) e.numbers) in
    let small = size_of c.args.entering.now.reach (2 ^ 30) (e.reach_positive, e.reach) in
    subst (λ (z : ℤ). (pos 0 ≤ℤ z) × (z ≤ℤ pos (2 ^ 30))) (sym (read_known c.greatest-2.result c.greatest-2.type_inv))
    (c.greatest-2.ensures.from_zero, omega (arith, ints, least, small, c.greatest-2.ensures.from_zero))

pub returns : goal.returns
returns c =
    let m = nat_abs c.args.turn.multiplier in
    let f = nat_abs c.args.turn.factor in
    let e = c.requires.entering in
    let first : nat_abs (read c.greatest.result) ≡ greatest_of c.args.self.now.numbers =
    ap nat_abs (read_known c.greatest.result c.greatest.type_inv)
    ∙ greatest_is c.as_slice.result.now (nat_abs c.greatest.result) c.greatest.ensures.within c.greatest.ensures.least
    ∙ ap greatest_of c.as_slice.ensures in
    let second : nat_abs (read c.greatest-2.result) ≡ greatest_of c.args.entering.now.numbers =
    ap nat_abs (read_known c.greatest-2.result c.greatest-2.type_inv)
    ∙ greatest_is c.as_slice-2.result.now (nat_abs c.greatest-2.result) c.greatest-2.ensures.within c.greatest-2.ensures.least
    ∙ ap greatest_of c.as_slice-2.ensures in
    let same = ap₂ (λ (a b : ℕ). m * a + f * b) first second in (
      λ holds. record {
        numbers = subst (λ (n : ℕ). n ≤ 2 ^ 30) same (c.keeps-3.ensures.0 holds);
        own = own_told m f c.args.entering.now.denominator (positive_size c.args.entering.now.denominator (2 ^ 30) (e.positive, e.denominator))
            (c.keeps.ensures.0 c.if-not-keeps.false);
      },
      λ small. c.keeps-3.ensures.1 (subst (λ (n : ℕ). n ≤ 2 ^ 30) (sym same) small.numbers),
    )
