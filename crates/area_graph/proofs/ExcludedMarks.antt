-- Marks for the edges that are excluded.
use Rattle.std.proofs.Common.{◌≡◌, ℕ, ◌+◌, ◌<◌, ◌≤◌, sym, ◌∙◌, ap, subst, inl, inr, take, List, [], ◌∷◌, ◌++◌, length, get_or, set, replicate, Bool, true, false, arith, get_or-set_same, get_or-set_other, length-set}
use Rattle.std.proofs.lemmas.Bool.{cases_lt}
use Rattle.std.proofs.lemmas.List.{get_or-replicate, length-replicate, set_past, take_more}
use native.Mathlib.Decide.{ℕ_discrete}
use Rattle.area_graph.specs.Distances.{AreEdgeMarks}
use Rattle.cost_base.proofs.ListLemmas.{lacks_push, lacks_first, lacks_seam}

-- no mark is set, and nothing is excluded
pub no_marks : (n : ℕ) → AreEdgeMarks [] (replicate n false)
no_marks n e within = (λ clear. tt, λ lacks. get_or-replicate n e false true (let count = length-replicate n false in omega arith))

-- one number more is excluded, which stands for an edge past the end
pub marks_past : (excluded : List ℕ) (y : ℕ) (marks : List Bool) → AreEdgeMarks excluded marks → length marks ≤ y → AreEdgeMarks (excluded ++ y ∷ []) marks
marks_past excluded y marks are past e within =
    (λ clear. lacks_push excluded y e ((are e within).0 clear) (λ same. other same), λ lacks. (are e within).1 (lacks_first excluded (y ∷ []) e lacks))
  where
    other : e ≡ y → ⊥
    other same = omega arith

-- one number more is excluded, and its mark is set
pub marks_more : (excluded : List ℕ) (y : ℕ) (marks : List Bool) → AreEdgeMarks excluded marks → y < length marks →
    AreEdgeMarks (excluded ++ y ∷ []) (set marks y true)
marks_more excluded y marks are known e within =
    elim (ℕ_discrete e y) [
      | yes same ↦ (λ clear. absurd (set_here same clear), λ lacks. absurd (lacks_seam excluded y [] e lacks same))
      | no other ↦ (
        λ clear. lacks_push excluded y e ((are e before).0 (sym (get_or-set_other marks y e true true other) ∙ clear)) other,
        λ lacks. get_or-set_other marks y e true true other ∙ (are e before).1 (lacks_first excluded (y ∷ []) e lacks),
      )
    ]
  where
    before : e < length marks
    before = let count = length-set marks y true in omega arith

    set_here : e ≡ y → get_or (set marks y true) e true ≡ false → ⊥
    set_here same clear = let here = get_or-set_same marks y true true known in let moved = ap (λ (i : ℕ). get_or (set marks y true) i true) same in cc

-- one number more is excluded, and its mark is set if there is one
pub marks_within : (excluded : List ℕ) (y : ℕ) (marks : List Bool) → AreEdgeMarks excluded marks → AreEdgeMarks (excluded ++ y ∷ []) (set marks y true)
marks_within excluded y marks are = elim (cases_lt y (length marks)) [
  | inl known ↦ marks_more excluded y marks are known
  | inr past ↦ subst (AreEdgeMarks (excluded ++ y ∷ [])) (sym (set_past marks y true past)) (marks_past excluded y marks are past)
]

-- the marks of some excluded numbers, where those of the first so many are set
pub marks_next : (excluded : List ℕ) (i y : ℕ) (marks news : List Bool) → i < length excluded → y ≡ get_or excluded i y →
    AreEdgeMarks (take i excluded) marks → news ≡ set marks y true → AreEdgeMarks (take (i + 1) excluded) news
marks_next excluded i y marks news within is are put =
    subst (λ (ms : List Bool). AreEdgeMarks (take (i + 1) excluded) ms) (sym put)
    (subst (λ (es : List ℕ). AreEdgeMarks es (set marks y true))
    (ap (λ (e : ℕ). take i excluded ++ e ∷ []) is ∙ sym (take_more excluded i y within)) (marks_within (take i excluded) y marks are))
