use Rattle.std.proofs.Common.{◌≡◌, ◌∙◌, ◌+◌, ◌<◌, ◌≤◌, Bool, Option, None, ℕ, List, [], length, sym, ap, subst, arith}
use Rattle.std.specs.Prelude.{slice_index_or}
use Rattle.std.proofs.lemmas.List.{get_or_default}
use Rattle.std.proofs.lemmas.List.Elements.{All-from_get_or}
use Rattle.design_problem.specs.Problems.{DesignProblem}
use Rattle.form_search.specs.declared.source.Asked.{Asked}
use Rattle.form_search.specs.declared.source.Asked.TheVariants.{Nothing}
use Rattle.spread_sets.specs.Spreads.{AreTied}
use Rattle.spread_sets.specs.Sources.{KnownSets, set_at}
use Rattle.spread_sets.specs.Asking.{AreSetsAsked, IsSetAsked}
use Rattle.spread_sets.specs.SetAskers.{IsOutsiderIfAny}
use Rattle.spread_sets.proofs.AskedSets.{all_asked, more_share, none_asked, one_added}
use Rattle.spread_sets.proofs.Ties.{tied_there}
use Rattle.spread_sets.proofs.source.Spreads.ask_each.Given.{Over}
use Rattle.spread_sets.proofs.source.Spreads.ask_each.Goals.{After-index}
use Rattle.spread_sets.proofs.source.Spreads.ask_each.Goals as goal
use Rattle.spread_sets.proofs.source.Spreads.ask_each.Goals.{then-branch, else-branch}

pub cheap_outsiders-requires-clause-tied : goal.cheap_outsiders-requires-clause-tied
cheap_outsiders-requires-clause-tied g c =
    let old = c.args.self.now in
    All-from_get_or (AreTied old.problem c.args.point.now) old.sets []
    (λ k k_in. tied_there old c.args.pool.now c.args.point.now k c.keeps.ensures.kept.problem c.requires.point.count c.requires.in_step c.requires.met k_in)

-- the answer on the set at the place of the loop
told : (g : Over) (c : After-index g) → IsOutsiderIfAny c.loop-place.self.problem c.args.point.now (set_at c.loop-place.self.sets c.loop-place.place)
    c.index.result.now
told g c =
    let old = c.args.self.now in
    let point = c.args.point.now in
    let now = c.loop-place.self in
    let place = c.loop-place.place in
    let is = c.loop-place.invariant in
    let inside : place < length old.sets = omega (
      arith,
      c.count-place-end.ensures,
      c.loop-place-test.true,
      ap (λ (s : KnownSets). length s.sets) c.cheap_outsiders.ensures.same,
    ) in
    let items = c.in_ok-outsiders.outsiders.items in
    let count = c.in_ok-outsiders.ensures.told.count in
    let read : c.index.result.now ≡ slice_index_or items place None =
    c.index.ensures ∙ get_or_default items place c.index.result.now None (omega (arith, inside, count)) in
    subst (λ (outsider : Option (List ℕ)). IsOutsiderIfAny now.problem point (set_at now.sets place) outsider) (sym read)
    (subst (λ (p : DesignProblem). IsOutsiderIfAny p point (set_at now.sets place) (slice_index_or items place None)) (sym is.problem)
    (subst (λ (sets : List (List ℕ)). IsOutsiderIfAny old.problem point (set_at sets place) (slice_index_or items place None)) (sym is.sets)
    (c.in_ok-outsiders.ensures.told.each place inside)))

pub take_outsider-requires-clause-told : goal.take_outsider-requires-clause-told
take_outsider-requires-clause-told g c = (c.args.point.now, told g (goal.at.take_outsider-requires-clause-told g c).After-index)

pub loop-place-init : goal.loop-place-init
loop-place-init g c =
    subst (λ (s : KnownSets). AreSetsAsked c.args.point.now 0 c.args.self.now c.args.pool.now s c.args.pool.now Nothing) (sym c.cheap_outsiders.ensures.same)
    (none_asked c.args.point.now c.args.self.now c.args.pool.now c.requires.in_step c.requires.met)

pub loop-place-preserved : goal.loop-place-preserved
loop-place-preserved g c =
    let point = c.args.point.now in
    let place = c.loop-place.place in
    let old = c.args.self.now in
    let forms = c.args.pool.now in
    let now = c.loop-place.self in
    let now_forms = c.loop-place.pool in
    let new = c.take_outsider.new.self in
    let new_forms = c.take_outsider.new.pool in
    let inside : place < length old.sets = omega (
      arith,
      c.count-place-end.ensures,
      c.loop-place-test.true,
      ap (λ (s : KnownSets). length s.sets) c.cheap_outsiders.ensures.same,
    ) in
    let IsOne : Bool → Type 0 = λ b. IsSetAsked point place now now_forms new new_forms b in
    let one = c.in_ok-take_outsider.ensures.one point (told g (goal.at.loop-place-preserved g c).After-index) in
    let Then : Asked → Type 0 = λ a. AreSetsAsked point (place + 1) old forms new new_forms a in
    elim c.if-branch.branch [
      | then-branch w ↦
          subst Then (sym w.asked-is)
          (one_added point place old forms now now_forms new new_forms c.loop-place.asked c.loop-place.invariant c.requires.met c.requires.point.count inside
          (subst IsOne w.if-branch.true one))
      | else-branch w ↦
          subst Then (sym w.asked-is)
          (more_share point place old forms now now_forms new new_forms c.loop-place.asked c.loop-place.invariant
          (subst IsOne w.if-branch.false one))
    ]

pub returns-clause-asked : goal.returns-clause-asked
returns-clause-asked g c =
    let all : length c.args.self.now.sets ≤ c.loop-place.place =
    omega (arith, c.count-place-end.ensures, c.loop-place-test.false, ap (λ (s : KnownSets). length s.sets) c.cheap_outsiders.ensures.same) in
    all_asked c.args.point.now c.loop-place.place c.args.self.now c.args.pool.now c.loop-place.self c.loop-place.pool
    c.loop-place.asked all c.loop-place.invariant
