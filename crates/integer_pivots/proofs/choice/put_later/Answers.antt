-- A column is passed over, joins those that lead where it does, or stands alone.
use Rattle.std.proofs.Common.{◌≡◌, ℕ, ◌+◌, refl, sym, ◌∙◌, subst, List, [], ◌∷◌, ◌++◌, arith, SFits, w64, rules, true, false, ap}
use Rattle.std.specs.Prelude.{pos, ◌<ℤ◌, ◌≤ℤ◌, slice_index}
use Rattle.std.proofs.lemmas.Int.{ints, to_z-of_z}
use lib.Signed.{le_z}
use Rattle.whole_numbers.specs.Lists.{number_at}
use Rattle.integer_pivots.specs.Choices.{AreLatest}
use Rattle.integer_pivots.proofs.Narrowing.{latest_alone, latest_joins, latest_stays}
use Rattle.integer_pivots.proofs.choice.put_later.Goals as goal
use Rattle.integer_pivots.proofs.choice.put_later.Goals.{else-latest-lead, then-latest-lead, then-line-column-le0-via-else-line-column-le0+then-lead-latest, then-line-column-le0-via-then-line-column-le0}

pub returns-then-line-column-le0-clause-latest : goal.returns-then-line-column-le0-clause-latest
returns-then-line-column-le0-clause-latest c =
    let line = c.args.line.now in
    let column = c.args.column in
    let fits : SFits w64 (number_at line column) = search rules in
    elim c.then-line-column-le0.branch [
      | then-line-column-le0-via-then-line-column-le0 w ↦
          let tested = subst (λ y. le_z y (pos 0) ≡ true) (to_z-of_z w64 (number_at line column) fits) w.if-line-column-le0.true in
          let low : number_at line column ≤ℤ pos 0 = omega (arith, ints, tested) in
          latest_stays line c.args.leads.now column c.args.latest c.args.left.now.items c.requires.before
          (λ positive. absurd (omega (arith, ints, low, positive)))
      | then-line-column-le0-via-else-line-column-le0+then-lead-latest w ↦
          latest_stays line c.args.leads.now column c.args.latest c.args.left.now.items c.requires.before (λ positive. w.if-lead-latest.true)
    ]

pub returns-clause-latest : goal.returns-clause-latest
returns-clause-latest c =
    let line = c.args.line.now in
    let leads = c.args.leads.now in
    let column = c.args.column in
    let fits : SFits w64 (number_at line column) = search rules in
    let tested = subst (λ y. le_z y (pos 0) ≡ false) (to_z-of_z w64 (number_at line column) fits) c.if-line-column-le0.false in
    let positive : pos 0 <ℤ number_at line column = omega (arith, ints, tested) in
    let old = c.args.left.now.items in
    subst (AreLatest line leads (column + 1) (slice_index leads column)) (sym c.push_reserved.ensures.items)
    (elim c.if-latest-lead.branch [
      | then-latest-lead w ↦
          let cleared : c.if-latest-lead.left.items ≡ [] = ap (λ v. v.items) w.left-is ∙ w.clear.ensures.items in
          subst (λ (xs : List ℕ). AreLatest line leads (column + 1) (slice_index leads column) (xs ++ column ∷ [])) (sym cleared)
          (latest_alone line leads column c.args.latest (slice_index leads column) old c.requires.before
          (c.requires.column, positive) refl w.if-latest-lead.true)
      | else-latest-lead w ↦
          let same : slice_index leads column ≡ c.args.latest = omega (arith, c.if-lead-latest.false, w.if-latest-lead.false) in
          subst (λ (xs : List ℕ). AreLatest line leads (column + 1) (slice_index leads column) (xs ++ column ∷ [])) (sym (ap (λ v. v.items) w.left-is))
          (subst (λ (l : ℕ). AreLatest line leads (column + 1) l (old ++ column ∷ [])) (sym same)
          (latest_joins line leads column c.args.latest old c.requires.before (c.requires.column, positive) same))
    ])
