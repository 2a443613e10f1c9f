-- How many members of a list of forms a pool lacks: a pool of which each round takes one more in comes to an end.
use Rattle.std.proofs.Common.{◌≡◌, ℕ, zero, suc, ◌+◌, ◌<◌, ◌≤◌, refl, sym, ap, subst, List, [], ◌∷◌, ◌++◌, length, Bool, true, false, cond, ◌&&◌, int_eq, arith}
use Rattle.std.specs.Prelude.{Contains, slice_index_or}
use Rattle.std.specs.Bool.{Decides}
use Rattle.std.specs.Set.{is_member}
use Rattle.std.specs.Cmp.Lexicographic.{pointwise}
use Rattle.std.specs.Cmp.Rules.{signed_items}
use Rattle.std.proofs.lemmas.Bool.{false≢true}
use Rattle.std.proofs.lemmas.Bool.Decides.{Decides-and, Decides-int_eq, Decides-like}
use Rattle.std.proofs.lemmas.List.Elements.{Contains-append_left}
use Rattle.std.proofs.lemmas.Map.Made.{is_member-Decides}
use Rattle.design_problem.specs.Forms.{Form}

abbrev pub same_form : Form → Form → Bool
same_form f g = int_eq f.constant g.constant && pointwise int_eq f.coefficients g.coefficients

same_form_decides : (f g : Form) → Decides (same_form f g) (f ≡ g)
same_form_decides f g =
    Decides-like (same_form f g) (λ same i. record { constant = same.0 i; coefficients = same.1 i })
    (λ same. (ap (λ (h : Form). h.constant) same, ap (λ (h : Form). h.coefficients) same))
    (Decides-and (int_eq f.constant g.constant) (pointwise int_eq f.coefficients g.coefficients)
    (Decides-int_eq f.constant g.constant) (signed_items f.coefficients g.coefficients))

-- whether the pool has the form
abbrev pub has_form : List Form → Form → Bool
has_form pool form = is_member same_form pool form

-- how many of the possible forms stand not in the pool
abbrev pub missing : List Form → List Form → ℕ
missing [] pool = 0
missing (form ∷ possible_forms) pool = cond (has_form pool form) 0 1 + missing possible_forms pool

has_decides : (pool : List Form) (form : Form) → Decides (has_form pool form) (Contains pool form)
has_decides pool form = is_member-Decides same_form_decides pool form

-- what a pool has, it has with more forms
has_more : (old new more : List Form) (form : Form) → new ≡ old ++ more → has_form old form ≡ true → has_form new form ≡ true
has_more old new more form same has =
    (has_decides new form).1 (subst (λ (fs : List Form). Contains fs form) (sym same) (Contains-append_left old more form ((has_decides old form).0 has)))

one_rises_not : (before after : Bool) → (before ≡ true → after ≡ true) → cond after 0 1 ≤ cond before 0 1
one_rises_not true true keeps = omega arith
one_rises_not true false keeps = absurd (false≢true (keeps refl))
one_rises_not false true keeps = omega arith
one_rises_not false false keeps = omega arith

-- with more forms in the pool no more are missing
pub missing_never_rises : (possible_forms old new more : List Form) → new ≡ old ++ more → missing possible_forms new ≤ missing possible_forms old
missing_never_rises [] old new more same = omega arith
missing_never_rises (form ∷ possible_forms) old new more same =
    let here = one_rises_not (has_form old form) (has_form new form) (has_more old new more form same) in
    let rest = missing_never_rises possible_forms old new more same in
    omega arith

one_falls : (before after : Bool) → before ≡ false → after ≡ true → cond after 0 1 < cond before 0 1
one_falls false true old new = omega arith
one_falls true after old new = absurd (false≢true (sym old))
one_falls false false old new = absurd (false≢true new)

lacks : (pool : List Form) (form : Form) → (Contains pool form → ⊥) → has_form pool form ≡ false
lacks pool form not = by (has_form pool form) (has_decides pool form).0
  where
    by : (b : Bool) → (b ≡ true → Contains pool form) → b ≡ false
    by true has = absurd (not (has refl))
    by false has = refl

-- with a possible form that the pool lacked fewer are missing
pub missing_falls : (possible_forms old new : List Form) (form : Form) (more : List Form) → new ≡ old ++ more →
    Contains possible_forms form → Contains new form → (Contains old form → ⊥) →
    missing possible_forms new < missing possible_forms old
missing_falls possible_forms old new form more same listed is_new not_old = at possible_forms listed.0 listed.1 listed.2
  where
    at : (cs : List Form) (k : ℕ) → k < length cs → slice_index_or cs k form ≡ form → missing cs new < missing cs old
    at [] k k_in is = absurd (omega arith)
    at (c ∷ cs) zero k_in is =
        let here = subst (λ (f : Form). cond (has_form new f) 0 1 < cond (has_form old f) 0 1) (sym is)
        (one_falls (has_form old form) (has_form new form) (lacks old form not_old)
        ((has_decides new form).1 is_new)) in
        let rest = missing_never_rises cs old new more same in
        omega arith
    at (c ∷ cs) (suc k) k_in is =
        let here = one_rises_not (has_form old c) (has_form new c) (has_more old new more c same) in
        let rest = at cs k (omega arith) is in
        omega arith

one_at_most : (b : Bool) → cond b 0 1 ≤ 1
one_at_most true = omega arith
one_at_most false = omega arith

-- no more are missing than there are
pub missing_few : (possible_forms pool : List Form) → missing possible_forms pool ≤ length possible_forms
missing_few [] pool = omega arith
missing_few (form ∷ possible_forms) pool =
    let here = one_at_most (has_form pool form) in
    let rest = missing_few possible_forms pool in
    omega arith
