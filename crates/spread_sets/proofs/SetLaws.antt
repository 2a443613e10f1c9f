-- The sets of a problem are sets of members.
use Rattle.std.proofs.Common.{◌≡◌, ℕ, ◌<◌, refl, get_or, List, [], ◌∷◌, length, arith, Bool, true, false, if◌then◌else◌}
use Rattle.std.specs.Prelude.{All, Contains}
use Rattle.std.proofs.lemmas.List.{get_or_default}
use Rattle.std.proofs.lemmas.List.Elements.{All-cons, All-head, All-map, All-nil, All-tail}
use Rattle.cost_base.proofs.ListLemmas.{all_kept}
use Rattle.design_problem.specs.Problems.{DesignProblem, request_ends, request_at}
use Rattle.set_reader.specs.Reading.{stands_in}
use Rattle.set_reader.specs.SpreadSets.{AreSetsOf, IsSetOf}
use Rattle.spread_sets.specs.Spreads.{all_sets, ends_in, name_of_set, is_first, set_of}
use Rattle.spread_sets.specs.MemberSets.{AreMemberSets, IsMemberSet}
use Rattle.spread_sets.specs.SourceLaws.{first_listed}

pub listed_at : {X : Type 0} (xs : List X) (k : ℕ) (d : X) → k < length xs → Contains xs (get_or xs k d)
listed_at xs k d k_in = (k, k_in, get_or_default xs k (get_or xs k d) d k_in)

-- a set of a line
line_set : (p : DesignProblem) (set : List ℕ) → IsSetOf p set → IsMemberSet p set
line_set p set is =
    let some : 0 < length set = (let several = is.several in omega arith) in
    record {
      some = some;
      known = is.known;
      ends = λ k d k_in. is.ends (get_or set k d) (name_of_set set) (listed_at set k d k_in) (first_listed set some);
    }

-- a path by itself
lone_set : (p : DesignProblem) (path : ℕ) → path < length p.requests → IsMemberSet p (path ∷ [])
lone_set p path known = record {
  some = omega arith;
  known = All-cons (λ i. i < length p.requests) path [] known (All-nil (λ i. i < length p.requests));
  ends = All-cons (λ i. request_ends (request_at p.requests i) ≡ ends_in p (path ∷ [])) path [] refl
      (All-nil (λ i. request_ends (request_at p.requests i) ≡ ends_in p (path ∷ [])));
}

set_kept : (p : DesignProblem) (lines : List (List ℕ)) (path : ℕ) → All (IsSetOf p) lines → path < length p.requests → IsMemberSet p (set_of lines path)
set_kept p [] path are known = lone_set p path known
set_kept p (set ∷ lines) path are known = by_place (stands_in path set) (set_kept p lines path (All-tail (IsSetOf p) set lines are) known)
  where
    by_place : (stands : Bool) → IsMemberSet p (set_of lines path) → IsMemberSet p (if stands then set else set_of lines path)
    by_place true rest = line_set p set (All-head (IsSetOf p) set lines are)
    by_place false rest = rest

pub all_sets_are : (p : DesignProblem) (lines : List (List ℕ)) → AreSetsOf p lines → AreMemberSets p (all_sets p lines)
all_sets_are p lines are =
    All-map (IsMemberSet p) (set_of lines) _
    (all_kept (λ path. IsMemberSet p (set_of lines path)) (is_first lines) 0 (length p.requests) (λ k from below is. set_kept p lines k are.each (omega arith)))
