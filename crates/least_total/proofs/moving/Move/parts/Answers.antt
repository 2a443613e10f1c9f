-- The other parts and then the own one rise by their new numbers.
use Rattle.std.proofs.Common.{◌∙◌, subst, sym, ℕ, ◌<◌, List, arith}
use Rattle.std.specs.Prelude.{All, AllPairs}
use Rattle.least_total.proofs.MovedParts.{pairs_are, positive_last, rising_last}
use Rattle.least_total.proofs.moving.Move.parts.Goals as goal

pub from_items-requires-clause-rising : goal.from_items-requires-clause-rising
from_items-requires-clause-rising c =
    let place = c.args.self.place in
    let others = c.args.self.others in
    let parts = c.args.parts.now in
    let same = pairs_are place others parts c.as_slice.result.now c.as_slice-2.result.now c.new-pairs.result.items
    c.push_parts.new.pairs.items c.push_parts-2.new.pairs.items c.as_slice.ensures.parts c.as_slice-2.ensures.parts
    c.new-pairs.ensures.items c.in_ok-push_parts.ensures c.in_ok-push_parts-2.ensures in
    subst (λ (ps : List (ℕ × ℕ)). AllPairs (λ a b. a.0 < b.0) ps) (sym same)
    (rising_last place others parts c.requires.place (λ k d k_in. (let here = c.requires.known k d k_in in omega arith)) c.as_slice.ensures.rising)

pub from_items-requires-clause-positive : goal.from_items-requires-clause-positive
from_items-requires-clause-positive c =
    let place = c.args.self.place in
    let others = c.args.self.others in
    let parts = c.args.parts.now in
    let same = pairs_are place others parts c.as_slice.result.now c.as_slice-2.result.now c.new-pairs.result.items
    c.push_parts.new.pairs.items c.push_parts-2.new.pairs.items c.as_slice.ensures.parts c.as_slice-2.ensures.parts
    c.new-pairs.ensures.items c.in_ok-push_parts.ensures c.in_ok-push_parts-2.ensures in
    subst (λ (ps : List (ℕ × ℕ)). All (λ part. 0 < part.1) ps) (sym same) (positive_last place others parts c.as_slice.ensures.positive)

pub returns : goal.returns
returns c =
    let same = pairs_are c.args.self.place c.args.self.others c.args.parts.now c.as_slice.result.now
    c.as_slice-2.result.now c.new-pairs.result.items c.push_parts.new.pairs.items c.push_parts-2.new.pairs.items
    c.as_slice.ensures.parts c.as_slice-2.ensures.parts c.new-pairs.ensures.items c.in_ok-push_parts.ensures
    c.in_ok-push_parts-2.ensures in
    c.from_items.ensures ∙ same
