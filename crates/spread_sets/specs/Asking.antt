-- What the answer on one set does to the rows and to the pool of forms, and what the answers on the first sets do. No
-- public clause cites it.
use Rattle.std.specs.Prelude.{◌≡◌, ◌⊎◌, ℕ, ◌<◌, pos, ◌≤ℤ◌, List, [], ◌∷◌, ◌++◌, All, Bool, true, false, Contains, length}
use Rattle.area_graph.specs.declared.Point.{Point}
use Rattle.design_problem.specs.Forms.{Form, value_at}
use Rattle.form_search.specs.Sources.{Grows, HasNewForm, IsSourceAnswer}
use Rattle.form_search.specs.declared.source.Asked.{Asked}
use Rattle.form_search.specs.declared.source.Asked.TheVariants.{Nothing, Added}
use Rattle.design_problem.specs.Problems.{IsProblemOnGraph}
use Rattle.spread_sets.specs.declared.source.MemberPair.{MemberPair}
use Rattle.spread_sets.specs.declared.spread.SetRow.{SetRow}
use Rattle.spread_sets.specs.declared.spread.SetRow.TheVariants.{Outsider}
use Rattle.spread_sets.specs.Spreads.{Shares, SharesEach, name_of_set, form_of_set_row, name_of}
use Rattle.spread_sets.specs.MemberSets.{AreMemberSets}
use Rattle.spread_sets.specs.Sources.{IsPoolOfSets, IsOutsiderTooCheap, IsTrueOfSets, KnownSets, set_at}

-- two paths are members of the set at the place
pub record IsPairIn (sets : List (List ℕ)) (pair : MemberPair) : Type 0 where
  pub place : pair.place < length sets
  pub first : Contains (set_at sets pair.place) pair.first
  pub second : Contains (set_at sets pair.place) pair.second

-- the members of the set at a place share, and nothing came
pub record NoSetRow (point : Point) (place : ℕ) (old : KnownSets) (old_forms : List Form) (new : KnownSets) (new_forms : List Form) : Type 0 where
  pub shares : Shares old.problem point (set_at old.sets place)
  pub rows : new ≡ old
  pub forms : new_forms ≡ old_forms

-- an outsider of the set that is too cheap came as a row
pub record OneSetRow (point : Point) (place : ℕ) (old : KnownSets) (old_forms : List Form) (new : KnownSets) (new_forms : List Form) : Type 0 where
  pub kept : IsProblemOnGraph old.problem
  pub are : AreMemberSets old.problem old.sets
  pub outsider : List ℕ
  pub cheap : IsOutsiderTooCheap old.problem point (set_at old.sets place) outsider
  pub rows : new ≡ record old { rows = old.rows ++ Outsider (name_of_set (set_at old.sets place)) outsider ∷ [] }
  pub forms : new_forms ≡ old_forms ++ form_of_set_row old.problem (Outsider (name_of_set (set_at old.sets place)) outsider) ∷ []

-- a set was asked: its members share and nothing came, or an outsider that is too cheap came as a row
abbrev pub IsSetAsked : Point → ℕ → KnownSets → List Form → KnownSets → List Form → Bool → Type 0
IsSetAsked point place old old_forms new new_forms true = OneSetRow point place old old_forms new new_forms
IsSetAsked point place old old_forms new new_forms false = NoSetRow point place old old_forms new new_forms

-- nothing was added where the first sets share, and something where one doesn't
abbrev pub AnswersSetsBelow : KnownSets → Point → ℕ → List Form → List Form → Asked → Type 0
AnswersSetsBelow old point count old_forms new_forms Nothing = (new_forms ≡ old_forms) × ((k : ℕ) → k < count → Shares old.problem point (set_at old.sets k))
AnswersSetsBelow old point count old_forms new_forms Added = (SharesEach old.problem old.sets point → ⊥) × HasNewForm point old_forms new_forms

-- a row that came while sets were asked: it is of one of the first sets, or its form is at least 0 at the point
abbrev pub IsPassed : KnownSets → Point → ℕ → SetRow → Type 0
IsPassed s point count row =
    ((k : ℕ) × (k < count) × (name_of row ≡ name_of_set (set_at s.sets k))) ⊎ (pos 0 ≤ℤ value_at (form_of_set_row s.problem row) point)

-- The first sets were asked: rows and forms are in step, and true forms came. Each row is of one of these sets, or its
-- form is at least 0 at the point.
pub record AreSetsAsked (point : Point) (count : ℕ) (old : KnownSets) (old_forms : List Form) (new : KnownSets)
    (new_forms : List Form) (asked : Asked) : Type 0 where
  pub problem : new.problem ≡ old.problem
  pub sets : new.sets ≡ old.sets
  pub in_step : IsPoolOfSets new new_forms
  pub grows : Grows (IsTrueOfSets old.problem old.sets) old_forms new_forms
  pub passed : All (IsPassed old point count) new.rows
  pub answer : AnswersSetsBelow old point count old_forms new_forms asked

-- all sets were asked: rows and forms are in step, true forms came, and nothing came only where each set shares
pub record AreAllSetsAsked (point : Point) (old : KnownSets) (old_forms : List Form) (new : KnownSets) (new_forms : List Form) (asked : Asked) : Type 0 where
  pub in_step : IsPoolOfSets new new_forms
  pub answer : IsSourceAnswer (SharesEach old.problem old.sets) point old_forms new_forms asked
