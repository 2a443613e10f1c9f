-- The steps that cost lines make, line by line and link by link.
use Rattle.std.proofs.Common.{◌≡◌, ℕ, zero, suc, ◌+◌, ◌<◌, ◌≤◌, refl, sym, ◌∙◌, ap, subst, List, [], ◌∷◌, ◌++◌, length, map, filter, drop, get_or, arith, All, append_assoc, inl, inr, Bool, true, false, cond, Option, None, Some}
use Rattle.std.specs.Prelude.{◌==◌, ◌||◌, ◌⊎◌, slice_index, slice_set}
use Rattle.std.specs.List.{cons_option, list_any}
use Rattle.std.proofs.Math.Bool.{or_comm}
use Rattle.std.proofs.lemmas.Bool.{eqb-true}
use Rattle.std.proofs.lemmas.List.{at_drop_all, at_drop_more, get_or_default, length-set}
use Rattle.std.proofs.lemmas.List.Elements.{All-cons, All-filter, All-head, All-nil, All-set, All-tail, filter_map-append}
use Rattle.std.proofs.lemmas.Option.{slice_get_within}
use Rattle.cost_base.specs.Lists.{numbers_from, Has}
use Rattle.cost_base.proofs.ListLemmas.{all_kept, numbers_from-push}
use Rattle.cost_base.specs.Marks.{is_marked, is_one_of}
use Rattle.cost_base.proofs.MarkLaws.{written_mark}
use Rattle.lsdb_build.specs.declared.Linked.{Linked}
use Rattle.lsdb_build.specs.Graphs.{Database, router_of}
use Rattle.design_problem.specs.declared.answer.CostLine.{CostLine}
use Rattle.wanted_paths.specs.Paths.{link_number}
use Rattle.wanted_paths.specs.Resolution.{knows_link}
use Rattle.wanted_paths.proofs.RouteLaws.{link_known}
use Rattle.sections_reader.specs.declared.fault.CostsFault.{CostsFault}
use Rattle.sections_reader.specs.declared.fault.CostsFault.TheVariants.{LineTwice}
use Rattle.change_steps.specs.Rollouts.{AreMoves, IsInterfaceCost}
use Rattle.command_words.specs.declared.job.StepUnit.{StepUnit}
use Rattle.command_words.specs.declared.job.StepUnit.TheVariants as unit
use Rattle.change_commands.specs.SeenLinks.{AreSeen}
use Rattle.change_commands.specs.WantedMoves.{first_fault_after, first_line_fault, if_some, is_moved, or_first, link_of_line, links_of_router, line_fault, moved_links, moves_between, router_steps, steps_of, with_lines}

-- One line.

-- a known interface has a link
pub known_within : (d : Database) (router interface : List ℕ) → knows_link d router interface ≡ true → link_number d router interface < length d.links
known_within d router interface known =
    let link = link_known d router interface known in
    slice_get_within d.links (link_number d router interface) link.link link.there

-- a line whose interface an earlier one names
pub fault_twice : (d : Database) (before : List ℕ) (line : CostLine) → knows_link d line.router line.interface ≡ true →
    list_any (λ l. l == link_of_line d line) before ≡ true → line_fault d before line ≡ Some LineTwice
fault_twice d before line known twice = rw (known, twice) refl

-- and one whose interface no earlier one names
pub fault_none : (d : Database) (before : List ℕ) (line : CostLine) → knows_link d line.router line.interface ≡ true →
    list_any (λ l. l == link_of_line d line) before ≡ false → line_fault d before line ≡ None
fault_none d before line known new = rw (known, new) refl

-- what is wrong with a line
pub ruleset line_faults = (known_within, fault_twice, fault_none)

-- Line after line.

-- one link more is marked
pub marked_more : (before : List ℕ) (seen : List Bool) (l : ℕ) → l < length seen → AreSeen before seen → AreSeen (l ∷ before) (slice_set seen l true)
marked_more before seen l within marked k =
    written_mark seen l k (λ same. within)
    ∙ ap (λ (b : Bool). b || (l == k)) (marked k) ∙ or_comm (is_one_of before k) (l == k)

-- how far the lines were taken: what the rest comes to is what all come to
pub record AreTakenTo (d : Database) (present : List ℕ) (lines : List CostLine) (i : ℕ) (costs : List ℕ) (seen : List Bool) : Type 0 where
  pub before : List ℕ
  pub marked : AreSeen before seen
  pub costs_count : length costs ≡ length d.links
  pub seen_count : length seen ≡ length d.links
  pub fault : first_fault_after d before (drop i lines) ≡ first_line_fault d lines
  pub rest : with_lines d costs (drop i lines) ≡ with_lines d present lines

-- no line is taken yet
pub none_taken : (d : Database) (present : List ℕ) (lines : List CostLine) (costs : List ℕ) (seen : List Bool) → costs ≡ present →
    length seen ≡ length present → ((k : ℕ) → is_marked seen k ≡ false) → length present ≡ length d.links →
    AreTakenTo d present lines 0 costs seen
none_taken d present lines costs seen same counted none count = record {
  before = [];
  marked = none;
  costs_count = ap length same ∙ count;
  seen_count = counted ∙ count;
  fault = refl;
  rest = ap (λ (cs : List ℕ). with_lines d cs lines) same;
}

-- a line that is without a fault
pub line_taken : (d : Database) (present : List ℕ) (lines : List CostLine) (i : ℕ) (costs : List ℕ) (seen : List Bool)
    (line : CostLine) (new_costs : List ℕ) (new_seen : List Bool) (taken : AreTakenTo d present lines i costs seen) →
    i < length lines → line ≡ get_or lines i line →
    (line_fault d taken.before line ≡ None)
    × (new_costs ≡ slice_set costs (link_of_line d line) line.cost)
    × (new_seen ≡ slice_set seen (link_of_line d line) true)
    × (link_of_line d line < length d.links) →
    AreTakenTo d present lines (i + 1) new_costs new_seen
line_taken d present lines i costs seen line new_costs new_seen taken within at is =
    let l = link_of_line d line in
    let next : drop i lines ≡ line ∷ drop (i + 1) lines = at_drop_more (λ ls. ls) lines i line within ∙
    ap (λ (x : CostLine). x ∷ drop (i + 1) lines) (sym at) in
    record {
      before = l ∷ taken.before;
      marked = subst (AreSeen (l ∷ taken.before)) (sym is.2) (marked_more taken.before seen l (omega (arith, is.3, taken.seen_count)) taken.marked);
      costs_count = ap length is.1 ∙ length-set costs l line.cost ∙ taken.costs_count;
      seen_count = ap length is.2 ∙ length-set seen l true ∙ taken.seen_count;
      fault = sym (ap (first_fault_after d taken.before) next ∙ no_fault (line_fault d taken.before line) is.0) ∙ taken.fault;
      rest = ap (λ (cs : List ℕ). with_lines d cs (drop (i + 1) lines)) is.1 ∙ sym (ap (with_lines d costs) next) ∙ taken.rest;
    }
  where
    no_fault : (f : Option CostsFault) → f ≡ None → or_first f (first_fault_after d (link_of_line d line ∷ taken.before) (drop (i + 1) lines)) ≡
        first_fault_after d (link_of_line d line ∷ taken.before) (drop (i + 1) lines)
    no_fault None is = refl
    no_fault (Some fault) is = absurd cc

-- a line with a fault
pub line_refused : (d : Database) (present : List ℕ) (lines : List CostLine) (i : ℕ) (costs : List ℕ) (seen : List Bool)
    (line : CostLine) (fault : CostsFault) (taken : AreTakenTo d present lines i costs seen) →
    i < length lines → line ≡ get_or lines i line → line_fault d taken.before line ≡ Some fault → first_line_fault d lines ≡ Some fault
line_refused d present lines i costs seen line fault taken within at is =
    let next : drop i lines ≡ line ∷ drop (i + 1) lines = at_drop_more (λ ls. ls) lines i line within ∙
    ap (λ (x : CostLine). x ∷ drop (i + 1) lines) (sym at) in
    sym taken.fault ∙ ap (first_fault_after d taken.before) next
    ∙ ap (λ f. or_first f (first_fault_after d (link_of_line d line ∷ taken.before) (drop (i + 1) lines))) is

-- all lines are taken
pub all_taken : (d : Database) (present : List ℕ) (lines : List CostLine) (i : ℕ) (costs : List ℕ) (seen : List Bool) →
    AreTakenTo d present lines i costs seen → length lines ≤ i → (first_line_fault d lines ≡ None) × (costs ≡ with_lines d present lines)
all_taken d present lines i costs seen taken past =
    (sym taken.fault ∙ at_drop_all (first_fault_after d taken.before) lines i past, sym (at_drop_all (with_lines d costs) lines i past) ∙ taken.rest)

-- The links, and their steps.

-- one link of a router more
pub router_link_more : (links : List Linked) (moved : List ℕ) (router i l r : ℕ) (old new whole : List ℕ) →
    i < length moved → l ≡ get_or moved i 0 → r ≡ router_of links l → new ≡ cond (r == router) (old ++ l ∷ []) old →
    old ++ links_of_router links (drop i moved) router ≡ whole → new ++ links_of_router links (drop (i + 1) moved) router ≡ whole
router_link_more links moved router i l r old new whole within is of pushed so_far =
    let rest = links_of_router links (drop (i + 1) moved) router in
    ap (λ (xs : List ℕ). xs ++ rest) (pushed ∙ ap (λ n. cond (n == router) (old ++ l ∷ []) old) of)
    ∙ by_test (router_of links l == router) rest
    ∙ ap (λ n. old ++ links_of_router links (n ∷ drop (i + 1) moved) router) is
    ∙ ap (λ (xs : List ℕ). old ++ xs) (sym (at_drop_more (λ xs. links_of_router links xs router) moved i 0 within))
    ∙ so_far
  where
    by_test : (b : Bool) (rest : List ℕ) → cond b (old ++ l ∷ []) old ++ rest ≡ old ++ cond b (l ∷ rest) rest
    by_test true rest = append_assoc old (l ∷ []) rest
    by_test false rest = refl

-- one router more, and its step
pub router_more : (links : List Linked) (moved : List ℕ) (router : ℕ) (of_router : List ℕ) (old new : List (List ℕ)) →
    of_router ≡ links_of_router links moved router → new ≡ old ++ cons_option (if_some of_router) [] →
    old ≡ router_steps links moved (numbers_from 0 router) → new ≡ router_steps links moved (numbers_from 0 (router + 1))
router_more links moved router of_router old new is pushed so_far =
    pushed ∙ ap (λ (ls : List ℕ). old ++ cons_option (if_some ls) []) is
    ∙ ap (λ (steps : List (List ℕ)). steps ++ cons_option (if_some (links_of_router links moved router)) []) so_far
    ∙ sym (ap (router_steps links moved) (numbers_from-push 0 router)
    ∙ filter_map-append (λ r. if_some (links_of_router links moved r)) (numbers_from 0 router) ((0 + router) ∷ [])
    ∙ ap (λ n. router_steps links moved (numbers_from 0 router) ++ router_steps links moved (n ∷ [])) none_more)
  where
    none_more : 0 + router ≡ router
    none_more = omega arith

-- What the moves keep.

-- the links that move have costs
moved_known : (present wanted : List ℕ) → All (λ v. v < length present) (moved_links present wanted)
moved_known present wanted = all_kept (λ v. v < length present) (is_moved present wanted) 0 (length present) (λ k above below moved. omega (arith, below))

singles_known : (n : ℕ) (moved : List ℕ) → All (λ v. v < n) moved → All (λ (step : List ℕ). All (λ v. v < n) step) (map (λ l. l ∷ []) moved)
singles_known n [] known = All-nil (λ (step : List ℕ). All (λ v. v < n) step)
singles_known n (l ∷ moved) known =
    All-cons (λ (step : List ℕ). All (λ v. v < n) step) (l ∷ []) (map (λ l. l ∷ []) moved)
    (All-cons (λ v. v < n) l [] (All-head (λ v. v < n) l moved known) (All-nil (λ v. v < n)))
    (singles_known n moved (All-tail (λ v. v < n) l moved known))

routers_known : (n : ℕ) (links : List Linked) (moved routers : List ℕ) → All (λ v. v < n) moved →
    All (λ (step : List ℕ). All (λ v. v < n) step) (router_steps links moved routers)
routers_known n links moved [] known = All-nil (λ (step : List ℕ). All (λ v. v < n) step)
routers_known n links moved (r ∷ routers) known =
    with_step (links_of_router links moved r) (All-filter (λ l. router_of links l == r) (λ v. v < n) moved known)
    (routers_known n links moved routers known)
  where
    with_step : (ls : List ℕ) → All (λ v. v < n) ls → All (λ (step : List ℕ). All (λ v. v < n) step) (router_steps links moved routers) →
        All (λ (step : List ℕ). All (λ v. v < n) step) (cons_option (if_some ls) (router_steps links moved routers))
    with_step [] each rest = rest
    with_step (l ∷ ls) each rest = All-cons (λ (step : List ℕ). All (λ v. v < n) step) (l ∷ ls) (router_steps links moved routers) each rest

steps_known : (by : StepUnit) (d : Database) (present wanted : List ℕ) →
    All (λ (step : List ℕ). All (λ v. v < length present) step) (steps_of by d (moved_links present wanted))
steps_known unit.Line d present wanted = singles_known (length present) (moved_links present wanted) (moved_known present wanted)
steps_known unit.Router d present wanted =
    routers_known (length present) d.links (moved_links present wanted) (numbers_from 0 (length d.routers)) (moved_known present wanted)

-- the links of each step have one rank, from a on, and those of later steps have greater ones
abbrev RiseFrom : (ℕ → ℕ) → ℕ → List (List ℕ) → Type 0
RiseFrom rank a [] = Unit {0}
RiseFrom rank a (step ∷ steps) = (b : ℕ) × (a ≤ b) × ((v : ℕ) → Has step v → rank v ≡ b) × RiseFrom rank (b + 1) steps

rise_lower : (rank : ℕ → ℕ) (a b : ℕ) (steps : List (List ℕ)) → a ≤ b → RiseFrom rank b steps → RiseFrom rank a steps
rise_lower rank a b [] le rise = tt
rise_lower rank a b (step ∷ steps) le rise = (rise.0, omega (arith, le, rise.1), rise.2, rise.3)

rank_from : (rank : ℕ → ℕ) (a : ℕ) (steps : List (List ℕ)) (k v : ℕ) → RiseFrom rank a steps → Has (get_or steps k []) v → a ≤ rank v
rank_from rank a [] k v rise has = absurd has
rank_from rank a (step ∷ steps) zero v rise has = omega (arith, rise.1, rise.2 v has)
rank_from rank a (step ∷ steps) (suc k) v rise has = omega (arith, rise.1, rank_from rank (rise.0 + 1) steps k v rise.3 has)

stands_once : (rank : ℕ → ℕ) (a : ℕ) (steps : List (List ℕ)) → RiseFrom rank a steps →
    (i j v : ℕ) → Has (get_or steps i []) v → Has (get_or steps j []) v → i ≡ j
stands_once rank a [] rise i j v here there = absurd here
stands_once rank a (step ∷ steps) rise zero zero v here there = refl
stands_once rank a (step ∷ steps) rise zero (suc j) v here there =
    absurd (omega (arith, rise.2 v here, rank_from rank (rise.0 + 1) steps j v rise.3 there))
stands_once rank a (step ∷ steps) rise (suc i) zero v here there =
    absurd (omega (arith, rise.2 v there, rank_from rank (rise.0 + 1) steps i v rise.3 here))
stands_once rank a (step ∷ steps) rise (suc i) (suc j) v here there = ap suc (stands_once rank (rise.0 + 1) steps rise.3 i j v here there)

singles_rise : (p : ℕ → Bool) (a n : ℕ) → RiseFrom (λ v. v) a (map (λ l. l ∷ []) (filter p (numbers_from a n)))
singles_rise p a zero = tt
singles_rise p a (suc n) = by_test (p a) (singles_rise p (a + 1) n)
  where
    only : (v : ℕ) → Has (a ∷ []) v → v ≡ a
    only v (inl same) = same
    only v (inr none) = absurd none

    by_test : (b : Bool) → RiseFrom (λ v. v) (a + 1) (map (λ l. l ∷ []) (filter p (numbers_from (a + 1) n))) →
        RiseFrom (λ v. v) a (map (λ l. l ∷ []) (cond b (a ∷ filter p (numbers_from (a + 1) n)) (filter p (numbers_from (a + 1) n))))
    by_test true rest = (a, omega arith, only, rest)
    by_test false rest = rise_lower (λ v. v) a (a + 1) (map (λ l. l ∷ []) (filter p (numbers_from (a + 1) n))) (omega arith) rest

passes : (p : ℕ → Bool) (xs : List ℕ) (v : ℕ) → Has (filter p xs) v → p v ≡ true
passes p [] v has = absurd has
passes p (x ∷ xs) v has = by_test (p x) refl has (passes p xs v)
  where
    here : p x ≡ true → (v ≡ x) ⊎ Has (filter p xs) v → (Has (filter p xs) v → p v ≡ true) → p v ≡ true
    here passing (inl same) rest = ap p same ∙ passing
    here passing (inr later) rest = rest later

    by_test : (b : Bool) → p x ≡ b → Has (cond b (x ∷ filter p xs) (filter p xs)) v → (Has (filter p xs) v → p v ≡ true) → p v ≡ true
    by_test true is found rest = here is found rest
    by_test false is found rest = rest found

routers_rise : (links : List Linked) (moved : List ℕ) (a n : ℕ) → RiseFrom (router_of links) a (router_steps links moved (numbers_from a n))
routers_rise links moved a zero = tt
routers_rise links moved a (suc n) =
    with_step (links_of_router links moved a)
    (λ v has. eqb-true (router_of links v) a (passes (λ l. router_of links l == a) moved v has)) (routers_rise links moved (a + 1) n)
  where
    with_step : (ls : List ℕ) → ((v : ℕ) → Has ls v → router_of links v ≡ a) →
        RiseFrom (router_of links) (a + 1) (router_steps links moved (numbers_from (a + 1) n)) →
        RiseFrom (router_of links) a (cons_option (if_some ls) (router_steps links moved (numbers_from (a + 1) n)))
    with_step [] each rest = rise_lower (router_of links) a (a + 1) (router_steps links moved (numbers_from (a + 1) n)) (omega arith) rest
    with_step (l ∷ ls) each rest = (a, omega arith, each, rest)

steps_once : (by : StepUnit) (d : Database) (present wanted : List ℕ) (i j v : ℕ) →
    Has (get_or (steps_of by d (moved_links present wanted)) i []) v → Has (get_or (steps_of by d (moved_links present wanted)) j []) v → i ≡ j
steps_once unit.Line d present wanted i j v here there =
    stands_once (λ v. v) 0 (steps_of unit.Line d (moved_links present wanted)) (singles_rise (is_moved present wanted) 0 (length present)) i j v here there
steps_once unit.Router d present wanted i j v here there =
    stands_once (router_of d.links) 0 (steps_of unit.Router d (moved_links present wanted))
    (routers_rise d.links (moved_links present wanted) 0 (length d.routers)) i j v here there

-- the moves between costs are moves
are_moves : (by : StepUnit) (d : Database) (present wanted : List ℕ) → length wanted ≡ length present →
    All IsInterfaceCost present → All IsInterfaceCost wanted → AreMoves (moves_between by d present wanted)
are_moves by d present wanted count present_fits wanted_fits = record {
  count = count;
  present = present_fits;
  wanted = wanted_fits;
  known = steps_known by d present wanted;
  once = steps_once by d present wanted;
}

pub moves_kept : (by : StepUnit) (d : Database) (present wanted p w : List ℕ) (steps : List (List ℕ)) →
    p ≡ present → w ≡ wanted → steps ≡ steps_of by d (moved_links present wanted) → length wanted ≡ length present →
    All (λ cost. 0 < cost) present → ((k : ℕ) → k < length present → slice_index present k ≤ 65535) →
    All (λ cost. 0 < cost) wanted → ((k : ℕ) → k < length wanted → slice_index wanted k ≤ 65535) →
    AreMoves (record { present = p; wanted = w; steps = steps })
moves_kept by d present wanted p w steps p_is w_is steps_are count present_above present_most wanted_above wanted_most =
    rw (p_is, w_is, steps_are) (are_moves by d present wanted count (fit present present_above present_most) (fit wanted wanted_above wanted_most))
  where
    fit : (costs : List ℕ) → All (λ cost. 0 < cost) costs → ((k : ℕ) → k < length costs → slice_index costs k ≤ 65535) → All IsInterfaceCost costs
    fit costs above most k x within =
        let same : get_or costs k x ≡ get_or costs k 0 = get_or_default costs k x 0 within in
        (omega (arith, above k x within), omega (arith, same, most k within))

-- costs of lines that are above 0, put into such costs
pub lines_above : (d : Database) (costs : List ℕ) (lines : List CostLine) → All (λ cost. 0 < cost) costs →
    All (λ (line : CostLine). 0 < line.cost) lines → All (λ cost. 0 < cost) (with_lines d costs lines)
lines_above d costs [] above each = above
lines_above d costs (line ∷ lines) above each =
    lines_above d (slice_set costs (link_of_line d line) line.cost) lines
    (All-set (λ cost. 0 < cost) costs (link_of_line d line) line.cost (All-head (λ (x : CostLine). 0 < x.cost) line lines each) above)
    (All-tail (λ (x : CostLine). 0 < x.cost) line lines each)

-- and as many
pub lines_length : (d : Database) (costs : List ℕ) (lines : List CostLine) → length (with_lines d costs lines) ≡ length costs
lines_length d costs [] = refl
lines_length d costs (line ∷ lines) =
    lines_length d (slice_set costs (link_of_line d line) line.cost) lines ∙ length-set costs (link_of_line d line) line.cost

-- costs of 16 bits under another name
pub most_as : (costs seen : List ℕ) → seen ≡ costs → ((k : ℕ) → k < length seen → slice_index seen k ≤ 65535) →
    (k : ℕ) → k < length costs → slice_index costs k ≤ 65535
most_as costs seen same most = subst (λ (xs : List ℕ). (k : ℕ) → k < length xs → slice_index xs k ≤ 65535) same most
