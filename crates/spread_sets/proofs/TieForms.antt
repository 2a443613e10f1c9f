-- The form of a tie is that of two paths with 1 more.
use Rattle.std.proofs.Common.{◌≡◌, ◌≢◌, ℕ, zero, suc, ◌^◌, ◌<◌, sym, ◌∙◌, ap, subst, List, [], ◌∷◌, length, arith, SFits, w64, to_z, of_z}
use Rattle.std.specs.Prelude.{ℤ, pos, negsuc, ◌+ℤ◌, ◌-ℤ◌, nat_abs, All, slice_get}
use Rattle.std.proofs.lemmas.Int.{ints, to_z-of_z}
use Rattle.std.proofs.lemmas.List.Elements.{All-nil, All-cons}
use Rattle.design_problem.specs.declared.form.Row.{Row}
use Rattle.design_problem.specs.declared.form.Term.{Term}
use Rattle.design_problem.specs.Forms.{Form}
use Rattle.design_problem.specs.Forms.{AreTerms, form_by, terms_from, terms_of}
use Rattle.design_problem.specs.Problems.{DesignProblem, no_request}
use Rattle.design_problem.specs.Rows.{IsRouteOf, fixed_cost, form_between, form_of_row, path_edges}
use Rattle.design_problem.proofs.PathBounds.{request_of_route}
use Rattle.design_problem.proofs.TermLaws.{form_by_terms, rising_from, terms_known}
use Rattle.spread_sets.specs.Spreads.{edges_of, form_of_tie}

abbrev IsSome : Term → Type 0
IsSome t = t.coefficient ≢ pos 0

some_from : (first : ℕ) (cs : List ℤ) → All IsSome (terms_from first cs)
some_from first [] = All-nil IsSome
some_from first (pos zero ∷ cs) = some_from (suc first) cs
some_from first (pos (suc n) ∷ cs) =
    All-cons IsSome (record { var = first; coefficient = pos (suc n) }) (terms_from (suc first) cs)
    (λ same. omega (arith, ints)) (some_from (suc first) cs)
some_from first (negsuc n ∷ cs) =
    All-cons IsSome (record { var = first; coefficient = negsuc n }) (terms_from (suc first) cs)
    (λ same. omega (arith, ints)) (some_from (suc first) cs)

-- a form's terms are terms
pub terms_again : (f : Form) (n : ℕ) (ts : List Term) → n ≡ length f.coefficients → ts ≡ terms_of f → AreTerms n ts
terms_again f n ts count same =
    subst (λ (k : ℕ). AreTerms k ts) (sym count)
    (subst (AreTerms (length f.coefficients)) (sym same)
    (record { known = terms_known f; rising = rising_from 0 f.coefficients; some = some_from 0 f.coefficients }))

-- and with another constant they make the form with that constant
pub form_again : (f : Form) (n : ℕ) (constant : ℤ) (ts : List Term) → n ≡ length f.coefficients → ts ≡ terms_of f →
    form_by n constant ts ≡ record f { constant = constant }
form_again f n constant ts count same = form_by_terms n constant ts f.coefficients count same

-- 1 more than a small constant, as code adds it
pub one_more : (z : ℤ) → nat_abs z < 2 ^ 27 → to_z w64 (of_z w64 (to_z w64 (of_z w64 z) +ℤ pos 1)) ≡ (z +ℤ pos 1)
one_more z small =
    ap (λ (x : ℤ). to_z w64 (of_z w64 (x +ℤ pos 1))) (to_z-of_z w64 z (fits z (let e : nat_abs z < 2 ^ 28 = omega arith in e)))
    ∙ to_z-of_z w64 (z +ℤ pos 1) (fits (z +ℤ pos 1) (let e : nat_abs (z +ℤ pos 1) < 2 ^ 28 = omega (arith, ints) in e))
  where
    fits : (z : ℤ) → nat_abs z < 2 ^ 28 → SFits w64 z
    fits (pos n) small = record { sfits = omega arith }
    fits (negsuc n) small = record { sfits = omega arith }

one_back : (a b : ℤ) → (((a -ℤ b) -ℤ pos 1) +ℤ pos 1) ≡ (a -ℤ b)
one_back a b = omega (arith, ints)

form_one_more : (p : DesignProblem) (first second : List ℕ) →
    (let f : Form = form_between p.graph (length p.low) first second in record f { constant = f.constant +ℤ pos 1 })
    ≡ form_of_tie p.graph (length p.low) first second
form_one_more p first second =
    ap (λ (c : ℤ). let f : Form = record {
      constant = c;
      coefficients = (form_of_tie p.graph (length p.low) first second).coefficients;
    } in f)
    (one_back (pos (fixed_cost p.graph second)) (pos (fixed_cost p.graph first)))

pub tie_is : (p : DesignProblem) (row : Row) (first second : ℕ) (form more : Form) → row.request ≡ first →
    row.rival ≡ edges_of p second → IsRouteOf p.graph (slice_get p.requests first) (edges_of p second) →
    form ≡ form_of_row p row → more ≡ record form { constant = form.constant +ℤ pos 1 } →
    more ≡ form_of_tie p.graph (length p.low) (edges_of p first) (edges_of p second)
tie_is p row first second form more is_first is_second route is_form is_more =
    let found = request_of_route p.graph p.requests first no_request (edges_of p second) route in
    let wanted : path_edges (slice_get p.requests row.request) ≡ edges_of p first =
    ap (λ (k : ℕ). path_edges (slice_get p.requests k)) is_first ∙ ap path_edges found.is_there in
    let between : form ≡ form_between p.graph (length p.low) (edges_of p first) (edges_of p second) =
    is_form ∙ ap (λ (es : List ℕ). form_between p.graph (length p.low) es row.rival) wanted
    ∙ ap (λ (es : List ℕ). form_between p.graph (length p.low) (edges_of p first) es) is_second in
    is_more ∙ ap (λ (f : Form). let g : Form = record f { constant = f.constant +ℤ pos 1 } in g) between
    ∙ form_one_more p (edges_of p first) (edges_of p second)
