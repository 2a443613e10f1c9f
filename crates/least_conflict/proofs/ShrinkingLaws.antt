-- A conflict that is made smaller, and what comes of it.
use Rattle.std.proofs.Common.{◌≡◌, ◌⊎◌, ◌==◌, false, ℕ, suc, ◌+◌, ◌-◌, ◌<◌, sym, ◌∙◌, ap, subst, inl, inr, List, [], ◌∷◌, ◌++◌, length, length-append, get_or, arith}
use Rattle.std.specs.Prelude.{All, Contains, slice_index}
use Rattle.std.specs.List.{list_any, remove}
use Rattle.std.proofs.lemmas.Bool.{cases_lt}
use Rattle.std.proofs.lemmas.List.{get_or_append_left, get_or-append-add}
use Rattle.std.proofs.lemmas.List.Edits.{length-remove}
use Rattle.design_problem.specs.Problems.{DesignProblem, IsProblem, restricted}
use Rattle.design_problem.specs.declared.form.Row.{Row}
use Rattle.design_problem.specs.Rows.{IsFit}
use Rattle.least_conflict.specs.declared.deciding.SetTree.{SetTree}
use Rattle.least_conflict.specs.declared.shrinking.Shrunk.{Shrunk}
use Rattle.least_conflict.specs.declared.telling.Told.{Told}
use Rattle.least_conflict.specs.Conflicts.{IsConflictLessOne, IsLeastConflictShown, IsRequestSet, IsTreeOfRequests, IsUndecidedConflict, all_requests}
use Rattle.least_conflict.specs.Deciding.{AreConflictRows, AreFitWithout, IsRefutedSet, IsShrunk, IsUndecidedSet, IsSetTreeTold}
use Rattle.least_conflict.proofs.Sets.{fit_fewer, none_of, refuted_conflict, rest_contained, rest_set, rows_conflict, still_contained, taken_out}

-- what a tree of a set shows of its rows
pub told_conflict : (p : DesignProblem) (top nodes : ℕ) (t : SetTree) (told : Told) → IsProblem p → IsRefutedSet p top nodes t →
    IsSetTreeTold p top nodes t told → AreConflictRows p told.rows
told_conflict p top nodes t told kept refuted is =
    rows_conflict p told.rows told.tree kept is.of_set.sheet.true_rows
    is.of_set.printed.earnest.sound (is.closed refuted.closed)

-- no member was tried yet
pub not_tried : (p : DesignProblem) (top nodes : ℕ) (t : SetTree) (told : Told) (s : Shrunk) → IsProblem p → IsRefutedSet p top nodes t →
    t.members.items ≡ all_requests p → IsSetTreeTold p top nodes t told → s.members ≡ told.members → s.rows ≡ told.rows → s.without.items ≡ [] → IsShrunk p s
not_tried p top nodes t told s kept refuted all is members_are rows_are none =
    let same = members_are ∙ is.members in
    record {
      set = subst (IsRequestSet p) (sym same) refuted.tree.set;
      conflict = subst (AreConflictRows p) (sym rows_are) (told_conflict p top nodes t told kept refuted is);
      of_members = subst (λ (ms : List ℕ). All (λ row. Contains ms row.request) s.rows) (sym members_are)
          (subst (λ (rs : List Row). All (λ row. Contains told.members row.request) rs) (sym rows_are) is.of_set.of_members);
      tried = inl (same ∙ all);
      few = omega (arith, ap length none);
      fits = λ k k_in. absurd (omega (arith, ap length none));
    }

-- costs were found without the next member
pub more_costs : (p : DesignProblem) (old new : Shrunk) (w : List ℕ) → IsShrunk p old →
    length old.without.items < length old.members → IsFit (restricted p (remove old.members (length old.without.items))) w →
    new.members ≡ old.members → new.rows ≡ old.rows → new.without.items ≡ old.without.items ++ w ∷ [] →
    IsShrunk p new × (length new.members + length old.without.items < length old.members + length new.without.items)
more_costs p old new w was left fit same rows_are pushed =
    let members = old.members in
    let lists = old.without.items in
    let longer : length new.without.items ≡ length lists + 1 = omega (arith, ap length pushed, length-append lists (w ∷ [])) in
    let same_members : length new.members ≡ length members = ap (λ (ms : List ℕ). length ms) same in
    let at_last : (k : ℕ) → k ≡ length lists → get_or (lists ++ w ∷ []) k [] ≡ w =
    λ k is. let e : k ≡ length lists + 0 = omega arith in ap (λ (i : ℕ). get_or (lists ++ w ∷ []) i []) e ∙ get_or-append-add lists (w ∷ []) 0 [] in
    let fits : (k : ℕ) → k < length lists + 1 → IsFit (restricted p (remove members k)) (get_or (lists ++ w ∷ []) k []) =
    λ k k_in.
    elim (cases_lt k (length lists)) [
      | inl below ↦ subst (IsFit (restricted p (remove members k))) (sym (get_or_append_left lists (w ∷ []) [] k below)) (was.fits k below)
      | inr from ↦ (let is : k ≡ length lists = omega arith in
          subst (λ (i : ℕ). IsFit (restricted p (remove members i)) (get_or (lists ++ w ∷ []) k [])) (sym is)
          (subst (IsFit (restricted p (remove members (length lists)))) (sym (at_last k is)) fit))
    ] in (
      record {
        set = subst (IsRequestSet p) (sym same) was.set;
        conflict = subst (AreConflictRows p) (sym rows_are) was.conflict;
        of_members = subst (λ (ms : List ℕ). All (λ row. Contains ms row.request) new.rows) (sym same)
            (subst (λ (rs : List Row). All (λ row. Contains members row.request) rs) (sym rows_are) was.of_members);
        tried = subst (λ (ms : List ℕ). (ms ≡ all_requests p) ⊎ IsConflictLessOne p ms) (sym same) was.tried;
        few = omega (arith, longer, same_members);
        fits = λ k k_in.
            subst (λ (ms : List ℕ). IsFit (restricted p (remove ms k)) (get_or new.without.items k [])) (sym same)
            (subst (λ (ws : List (List ℕ)). IsFit (restricted p (remove members k)) (get_or ws k [])) (sym pushed) (fits k (omega (arith, longer))));
      },
      omega (arith, longer, same_members),
    )

-- a conflict without one of its members
pub less_one : (p : DesignProblem) (s : Shrunk) (members : List ℕ) (place : ℕ) → IsShrunk p s → place < length s.members → members ≡ remove s.members place →
    IsConflictLessOne p members
less_one p s members place was within same = record {
  larger = s.members;
  set = was.set;
  conflict = was.conflict s.members was.set was.of_members;
  place = place;
  known = within;
  same = same;
}

-- the others are a conflict without it, by these rows
pub smaller : (p : DesignProblem) (old new : Shrunk) → IsShrunk p old →
    length old.without.items < length old.members → AreConflictRows p new.rows → All (λ row. Contains new.members row.request) new.rows →
    new.members ≡ remove old.members (length old.without.items) → new.without.items ≡ old.without.items →
    IsShrunk p new × (length new.members + length old.without.items < length old.members + length new.without.items)
smaller p old new was left conflict contained rest same =
    let members = old.members in
    let place = length old.without.items in
    let shorter : length new.members + 1 ≡ length members = ap (λ (ms : List ℕ). length ms + 1) rest ∙ length-remove members place left in
    let as_many : length new.without.items ≡ place = ap length same in (
      record {
        set = subst (IsRequestSet p) (sym rest) (rest_set p members place left was.set);
        conflict = conflict;
        of_members = contained;
        tried = inr (less_one p old new.members place was left rest);
        few = omega (arith, shorter, as_many);
        fits = λ k k_in.
            let before : k < place = omega (arith, as_many) in
            let next : suc (place - 1) ≡ place = omega arith in
            let within : suc (place - 1) < length members = omega arith in
            let fewer : length (remove members k) + 1 ≡ length members = length-remove members k (omega arith) in
            let swapped : remove (remove members place) k ≡ remove (remove members k) (place - 1) =
            subst (λ (n : ℕ). remove (remove members n) k ≡ remove (remove members k) (place - 1)) next
            (taken_out members k (place - 1) (omega arith) within) in
            let contained : All (Contains (remove members k)) (remove (remove members place) k) =
            subst (λ (ms : List ℕ). All (Contains (remove members k)) ms) (sym swapped)
            (rest_contained (remove members k) (place - 1) (omega arith)) in
            let fit = fit_fewer p (remove members k) (remove (remove members place) k) (get_or old.without.items k []) contained (was.fits k before) in
            subst (λ (ms : List ℕ). IsFit (restricted p (remove ms k)) (get_or new.without.items k [])) (sym rest)
            (subst (λ (ws : List (List ℕ)). IsFit (restricted p (remove (remove members place) k)) (get_or ws k [])) (sym same) fit);
      },
      omega (arith, shorter, as_many),
    )

-- the rows do without the member, so the others are a conflict too
pub not_used : (p : DesignProblem) (old new : Shrunk) → IsShrunk p old → length old.without.items < length old.members →
    list_any (λ row. row.request == slice_index old.members (length old.without.items)) old.rows ≡ false →
    new.members ≡ remove old.members (length old.without.items) → new.rows ≡ old.rows → new.without.items ≡ old.without.items →
    IsShrunk p new × (length new.members + length old.without.items < length old.members + length new.without.items)
not_used p old new was left unused rest rows_are same =
    smaller p old new was left (subst (AreConflictRows p) (sym rows_are) was.conflict)
    (subst (λ (rs : List Row). All (λ row. Contains new.members row.request) rs) (sym rows_are)
    (λ k d k_in. subst (λ (ms : List ℕ). Contains ms (get_or old.rows k d).request) (sym rest)
    (still_contained old.members (length old.without.items) (get_or old.rows k d).request left (was.of_members k d k_in)
    (none_of (slice_index old.members (length old.without.items)) old.rows unused k d k_in))))
    rest same

-- the others are a conflict by a tree of their own
pub refuted_less : (p : DesignProblem) (top nodes : ℕ) (t : SetTree) (told : Told) (old new : Shrunk) → IsProblem p → IsShrunk p old →
    length old.without.items < length old.members → IsRefutedSet p top nodes t → t.members.items ≡ remove old.members (length old.without.items) →
    IsSetTreeTold p top nodes t told → new.members ≡ told.members → new.rows ≡ told.rows → new.without.items ≡ old.without.items →
    IsShrunk p new × (length new.members + length old.without.items < length old.members + length new.without.items)
refuted_less p top nodes t told old new kept was left refuted rest is members_are rows_are same =
    smaller p old new was left (subst (AreConflictRows p) (sym rows_are) (told_conflict p top nodes t told kept refuted is))
    (subst (λ (ms : List ℕ). All (λ row. Contains ms row.request) new.rows) (sym members_are)
    (subst (λ (rs : List Row). All (λ row. Contains told.members row.request) rs) (sym rows_are) is.of_set.of_members))
    (members_are ∙ is.members ∙ rest) same

-- a least conflict: for each member there are costs
pub least_found : (p : DesignProblem) (top nodes : ℕ) (t : SetTree) (without : List (List ℕ)) (told : Told) → IsProblem p → IsRefutedSet p top nodes t →
    length without ≡ length t.members.items → AreFitWithout p t.members.items without → IsSetTreeTold p top nodes t told →
    IsLeastConflictShown p top nodes told.members told.rows told.tree without
least_found p top nodes t without told kept refuted counted fits is =
    let members = t.members.items in
    subst (λ (ms : List ℕ). IsLeastConflictShown p top nodes ms told.rows told.tree without) (sym is.members)
    (record {
      least = record {
        set = refuted.tree.set;
        conflict = refuted_conflict p top nodes t kept refuted;
        least = λ k k_in. (get_or without k [], fits k (omega (arith, counted)));
      };
      told = subst (λ (ms : List ℕ). IsTreeOfRequests p top nodes ms told.rows told.tree) is.members is.of_set;
      closed = is.closed refuted.closed;
      counted = counted;
      fits = λ k k_in. fits k (omega (arith, counted));
    })

-- the budget was used up
pub undecided_found : (p : DesignProblem) (top nodes : ℕ) (t : SetTree) (told : Told) → IsUndecidedSet p top nodes t →
    (t.members.items ≡ all_requests p) ⊎ IsConflictLessOne p t.members.items → IsSetTreeTold p top nodes t told →
    IsUndecidedConflict p top nodes told.members told.rows told.tree
undecided_found p top nodes t told used_up tried is =
    subst (λ (ms : List ℕ). IsUndecidedConflict p top nodes ms told.rows told.tree) (sym is.members)
    (record {
      set = used_up.tree.set;
      tried = tried;
      told = subst (λ (ms : List ℕ). IsTreeOfRequests p top nodes ms told.rows told.tree) is.members is.of_set;
      undone = is.undone used_up.undone;
      used_up = is.counted ∙ used_up.used_up;
    })
