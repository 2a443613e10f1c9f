use Rattle.std.proofs.Common.{◌∙◌, ap, subst, sym, ℕ, ◌<◌, List, map}
use Rattle.std.specs.Prelude.{All, AllPairs}
use Rattle.design_problem.specs.Renumbering.{renumbered_multiplier}
use Rattle.printed_rows.specs.NewNumbers.{number_given}
use Rattle.printed_rows.proofs.NumberLaws.{parts_positive}
use Rattle.printed_rows.proofs.new_numbers.new_parts.Goals as goal

pub from_items-requires : goal.from_items-requires
from_items-requires c =
    let numbers = c.args.numbers.now in
    let same = sym (c.in_ok-pairs.ensures ∙ ap (λ (ps : List (ℕ × ℕ)). map (renumbered_multiplier (number_given numbers)) ps) c.as_slice.ensures.parts) in
    record {
      rising = subst (λ (ps : List (ℕ × ℕ)). AllPairs (λ a b. a.0 < b.0) ps) same (c.requires.order c.as_slice.ensures.rising);
      positive = subst (λ (ps : List (ℕ × ℕ)). All (λ part. 0 < part.1) ps) same
          (parts_positive (number_given numbers) c.args.parts.now c.as_slice.ensures.positive);
    }

pub returns : goal.returns
returns c = c.from_items.ensures ∙ c.in_ok-pairs.ensures
    ∙ ap (λ (ps : List (ℕ × ℕ)). map (renumbered_multiplier (number_given c.args.numbers.now)) ps) c.as_slice.ensures.parts
