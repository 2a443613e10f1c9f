-- Whether a list of states has one.
use Rattle.std.proofs.Common.{◌≡◌, refl, sym, ◌∙◌, ap, subst, List, [], ◌∷◌, ◌++◌, get_or, map, Bool, true, false, cond, Vec, Global}
use Rattle.std.specs.Prelude.{Contains, ◌↔◌}
use Rattle.std.specs.Bool.{Decides}
use Rattle.std.specs.List.{list_any}
use lib.Pointwise.{pointwise}
use mathlib.Core.Bool.{beq}
use Rattle.std.proofs.lemmas.Bool.{cond-false, false_from_ne_true, false≢true}
use Rattle.std.proofs.lemmas.List.{map-append}
use Rattle.std.proofs.lemmas.List.Folds.{Any-from_list_any, list_any_at}
use Rattle.std.proofs.lemmas.Slice.Eq.{slice_eq-Decides}
use Rattle.cost_base.proofs.ListLemmas.{list_any-map}

marks_decide : (a b : Bool) → Decides (beq a b) (a ≡ b)
marks_decide true true = (λ is. refl, λ same. refl)
marks_decide true false = (λ is. absurd (false≢true is), λ same. absurd (false≢true (sym same)))
marks_decide false true = (λ is. absurd (false≢true is), λ same. absurd (false≢true same))
marks_decide false false = (λ is. refl, λ same. refl)

any_contains : (xs : List (List Bool)) (marks : List Bool) → list_any (pointwise beq marks) xs ≡ true → Contains xs marks
any_contains xs marks any =
    let found = Any-from_list_any (pointwise beq marks) xs any in
    let same : marks ≡ found.1 = (slice_eq-Decides marks_decide marks found.1 (pointwise beq marks found.1) refl).0 found.4 in
    subst (λ (m : List Bool). Contains xs m) (sym same) (found.0, found.2, found.3)

contains_any : (xs : List (List Bool)) (marks : List Bool) → Contains xs marks → list_any (pointwise beq marks) xs ≡ true
contains_any xs marks has =
    list_any_at (pointwise beq marks) xs has.0 marks has.1
    ((slice_eq-Decides marks_decide marks (get_or xs has.0 marks) (pointwise beq marks (get_or xs has.0 marks)) refl).1 (sym has.2))

abbrev pub items_of : Vec Bool Global → List Bool
items_of v = v.items

pub has_state : (keys : List (Vec Bool Global)) (marks : List Bool) →
    list_any (λ (v : Vec Bool Global). pointwise beq marks v.items) keys ≡ true ↔ Contains (map items_of keys) marks
has_state keys marks = (
  λ any. any_contains (map items_of keys) marks (list_any-map (pointwise beq marks) items_of keys ∙ any),
  λ has. sym (list_any-map (pointwise beq marks) items_of keys) ∙ contains_any (map items_of keys) marks has,
)

pub state_added : (keys new : List (Vec Bool Global)) (v : Vec Bool Global) (marks : List Bool) → v.items ≡ marks → (Contains (map items_of keys) marks → ⊥) →
    new ≡ cond (list_any (λ (w : Vec Bool Global). pointwise beq v.items w.items) keys) keys (keys ++ v ∷ []) →
    map items_of new ≡ map items_of keys ++ marks ∷ []
state_added keys new v marks same lacks is =
    ap (map items_of) (is ∙ cond-false (list_any (λ (w : Vec Bool Global). pointwise beq v.items w.items) keys) keys (keys ++ v ∷ [])
    (false_from_ne_true (list_any (λ (w : Vec Bool Global). pointwise beq v.items w.items) keys)
    (λ any. lacks (subst (λ (m : List Bool). Contains (map items_of keys) m) same ((has_state keys v.items).0 any)))))
    ∙ map-append items_of keys (v ∷ []) ∙ ap (λ (m : List Bool). map items_of keys ++ m ∷ []) same
