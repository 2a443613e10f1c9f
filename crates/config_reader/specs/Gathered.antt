-- What the code's drafts are, for heads and lines. No public clause cites it.
use Rattle.std.specs.Prelude.{◌≡◌, ℕ, List, [], ◌∷◌, map, false}
use Rattle.std.specs.List.{list_any}
use Rattle.cost_base.specs.Lists.{same_bytes}
use Rattle.config_reader.specs.declared.drafts.Drafts.{Drafts}
use Rattle.config_reader.specs.declared.networks.NetworkLine.{NetworkLine}
use Rattle.config_reader.specs.Settings.{Said}
use Rattle.config_reader.specs.Configs.{firsts}
use Rattle.config_reader.specs.Drafting.{new_draft, draft_after}

-- no name stands again behind itself
abbrev pub NamesApart : List (List ℕ) → Type 0
NamesApart [] = Unit {0}
NamesApart (name ∷ names) = (list_any (same_bytes name) names ≡ false) × NamesApart names

-- the drafts are those of the heads so far, one for each name, and found by their names
pub record IsOpened (heads : List (List ℕ × ℕ)) (d : Drafts) : Type 0 where
  pub drafts : d.drafts.items ≡ map new_draft (firsts [] heads)
  pub names : d.names ≡ map (λ head. head.0) (firsts [] heads)

-- the drafts hold what the lines so far say of each interface
pub record IsGathered (nets : List NetworkLine) (heads : List (List ℕ × ℕ)) (all : List Said) (d : Drafts) : Type 0 where
  pub drafts : d.drafts.items ≡ map (λ head. draft_after nets all (new_draft head)) (firsts [] heads)
  pub names : d.names ≡ map (λ draft. draft.interface.name) d.drafts.items
