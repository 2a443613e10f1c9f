-- The greatest value of a form over two lists of ends, term by term.
use Rattle.std.proofs.Common.{◌≡◌, ℕ, ◌+◌, ◌*◌, ◌^◌, ◌<◌, ◌≤◌, arith, get_or, length, ap, ◌∙◌, w64, to_z, of_z, List, drop}
use Rattle.std.specs.Prelude.{ℤ, pos, nat_abs, ◌+ℤ◌, ◌≤ℤ◌, All}
use Rattle.std.proofs.lemmas.Int.{ints}
use Rattle.std.proofs.lemmas.List.{at_drop_all}
use Rattle.std.proofs.lemmas.List.Elements.{All-same}
use Rattle.design_problem.specs.declared.form.Term.{Term}
use Rattle.design_problem.specs.Forms.{Form, terms_of}
use Rattle.design_problem.specs.Boxes.{upper_term, upper_sum}
use Rattle.design_problem.proofs.TermLaws.{each_term, small_read, total, total_more, upper_by_terms, upper_in}

-- the sum over the first k terms, with the rest the whole, and not too great
pub record IsSummed (low high : List ℕ) (constant : ℤ) (terms : List Term) (k : ℕ) (sum : ℤ) : Type 0 where
  pub whole : (sum +ℤ total (upper_in low high) (drop k terms)) ≡ (constant +ℤ total (upper_in low high) terms)
  pub most : sum ≤ℤ pos (2 ^ 63 + k * 2 ^ 42)
  pub least : pos 0 ≤ℤ (sum +ℤ pos (2 ^ 63 + k * 2 ^ 42))

-- each term's coefficient is small
pub small_term : (form : Form) (terms : List Term) (k : ℕ) (d : Term) → terms ≡ terms_of form →
    All (λ z. nat_abs z ≤ 2 ^ 26) form.coefficients → k < length terms → nat_abs (get_or terms k d).coefficient ≤ 2 ^ 26
small_term form terms k d terms_are sizes k_in =
    All-same (λ (t : Term). nat_abs t.coefficient ≤ 2 ^ 26) terms (terms_of form) terms_are
    (each_term (λ z. nat_abs z ≤ 2 ^ 26) 0 form.coefficients sizes) k d k_in

-- and as code reads it
pub small_term_read : (form : Form) (terms : List Term) (k : ℕ) (d : Term) → terms ≡ terms_of form →
    All (λ z. nat_abs z ≤ 2 ^ 26) form.coefficients → k < length terms →
    nat_abs (to_z w64 (of_z w64 (get_or terms k d).coefficient)) ≤ 2 ^ 26
small_term_read form terms k d terms_are sizes k_in =
    let small = small_term form terms k d terms_are sizes k_in in
    rw (small_read (get_or terms k d).coefficient small) small

-- the sum with one more term's part
pub summed_more : (form : Form) (low high : List ℕ) (terms : List Term) (k : ℕ) (d : Term) (sum part next : ℤ) →
    terms ≡ terms_of form → All (λ z. nat_abs z ≤ 2 ^ 26) form.coefficients → k < length terms →
    part ≡ upper_term (to_z w64 (of_z w64 (get_or terms k d).coefficient)) (get_or low (get_or terms k d).var 0)
    (get_or high (get_or terms k d).var 0) → nat_abs part ≤ 2 ^ 42 → next ≡ (sum +ℤ part) →
    IsSummed low high form.constant terms k sum → IsSummed low high form.constant terms (k + 1) next
summed_more form low high terms k d sum part next terms_are sizes k_in part_is part_small next_is so_far =
    let t = get_or terms k d in
    let small = small_term form terms k d terms_are sizes k_in in
    let term = ap (λ (z : ℤ). upper_term z (get_or low t.var 0) (get_or high t.var 0)) (small_read t.coefficient small) in
    let more = total_more (upper_in low high) terms k d k_in in
    record {
      whole = omega (arith, ints, next_is, part_is, term, more, so_far.whole);
      most = omega (arith, ints, next_is, part_small, so_far.most);
      least = omega (arith, ints, next_is, part_small, so_far.least);
    }

-- past the last term it is the greatest value
pub summed_all : (form : Form) (low high : List ℕ) (terms : List Term) (k : ℕ) (sum : ℤ) → terms ≡ terms_of form →
    length form.coefficients ≡ length low → length form.coefficients ≡ length high → length terms ≤ k →
    IsSummed low high form.constant terms k sum → sum ≡ (form.constant +ℤ upper_sum form.coefficients low high)
summed_all form low high terms k sum terms_are low_count high_count past so_far =
    let none = at_drop_all (total (upper_in low high)) terms k past in
    let told = ap (total (upper_in low high)) terms_are ∙ upper_by_terms form.coefficients low high low_count high_count in
    omega (arith, ints, none, told, so_far.whole)
