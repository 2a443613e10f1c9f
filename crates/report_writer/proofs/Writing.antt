-- A text put piece by piece.
use Rattle.std.proofs.Common.{◌≡◌, ℕ, zero, suc, ◌+◌, ◌≤◌, List, [], ◌∷◌, ◌++◌, length, take, refl, sym, ap, ◌∙◌, subst, append_assoc, append-nil, arith, Result, Ok, Err, inl, inr}
use Rattle.std.proofs.Math.Seq.{take-append-add, take-append_seam}
use Rattle.std.proofs.lemmas.List.{take-append-le}
use Rattle.std.proofs.lemmas.Bool.{cases_lt, false≢true}
use Rattle.std.specs.Result.{IsErr}
use Rattle.cost_base.specs.Outside.{HasCause}
use Rattle.report_writer.specs.Reports.{IsHanded}

-- of the whole text the sink was handed all but what is left
pub record IsUnderway (handed : List ℕ → Type 0) (faults_before faults_now : ℕ) (left total : List ℕ) : Type 0 where
  pub so_far : List ℕ
  pub got : handed so_far
  pub later : faults_before ≤ faults_now
  pub same : so_far ++ left ≡ total

-- before the first piece
pub begin : (handed : List ℕ → Type 0) (f : ℕ) (total : List ℕ) → handed [] → IsUnderway handed f f total total
begin handed f total none = record { so_far = []; got = none; later = omega arith; same = refl }

-- the next piece was put
pub turn : {T E : Type 0} (Before Now Both : List ℕ → Type 0) (f0 f1 f2 : ℕ) (left total : List ℕ) (x : T)
    (piece rest : List ℕ) → ((xs ys : List ℕ) → Before xs → Now ys → Both (xs ++ ys)) → left ≡ piece ++ rest →
    IsUnderway Before f0 f1 left total → Now piece → HasCause {T = T} {E = E} f1 f2 (Ok x) → IsUnderway Both f0 f2 rest total
turn {T} {E} Before Now Both f0 f1 f2 left total x piece rest more e u put cause =
    record {
      so_far = u.so_far ++ piece;
      got = more u.so_far piece u.got put;
      later = omega (arith, u.later, cause.later);
      same = append_assoc u.so_far piece rest ∙ ap (λ bytes. u.so_far ++ bytes) (sym e) ∙ u.same;
    }

take-all : (xs : List ℕ) (n : ℕ) → length xs ≤ n → take n xs ≡ xs
take-all [] zero h = refl
take-all [] (suc n) h = refl
take-all (z ∷ xs) zero h = absurd (omega arith)
take-all (z ∷ xs) (suc n) h = ap (λ bytes. z ∷ bytes) (take-all xs n (omega arith))

-- a prefix of a piece is one of what begins with the piece
prefix_of : (piece rest : List ℕ) (n : ℕ) → (m : ℕ) × (take n piece ≡ take m (piece ++ rest))
prefix_of piece rest n =
    elim (cases_lt n (length piece)) [
      | inl short ↦ (n, sym (take-append-le n piece rest (omega arith)))
      | inr long ↦ (length piece, take-all piece n long ∙ sym (take-append_seam piece rest))
    ]

-- the sink refused the next piece
pub stop_at : {T E F : Type 0} (Before Now Both : List ℕ → Type 0) (f0 f1 f2 : ℕ) (left total : List ℕ) (x : E)
    (result : Result T F) → IsErr result → (piece rest : List ℕ) →
    ((xs ys : List ℕ) → Before xs → Now ys → Both (xs ++ ys)) → left ≡ piece ++ rest →
    IsUnderway Before f0 f1 left total → ((n : ℕ) × Now (take n piece)) → HasCause {T = T} {E = E} f1 f2 (Err x) → IsHanded Both f0 f2 total result
stop_at {T} {E} {F} Before Now Both f0 f1 f2 left total x (Ok y) err piece rest more e u put cause = absurd (false≢true err)
stop_at {T} {E} {F} Before Now Both f0 f1 f2 left total x (Err y) err piece rest more e u put cause =
    let p = prefix_of piece rest put.0 in
    let whole : u.so_far ++ (piece ++ rest) ≡ total = ap (λ bytes. u.so_far ++ bytes) (sym e) ∙ u.same in
    let same : u.so_far ++ take put.0 piece ≡ take (length u.so_far + p.0) total =
    ap (λ bytes. u.so_far ++ bytes) p.1 ∙ sym (take-append-add u.so_far (piece ++ rest) p.0) ∙ ap (λ bytes. take (length u.so_far + p.0) bytes) whole in
    record {
      bytes = (length u.so_far + p.0, subst Both same (more u.so_far (take put.0 piece) u.got put.1));
      cause = record { later = omega (arith, u.later, cause.later); failed = omega (arith, u.later, cause.failed) };
    }

-- every piece was put
pub finish : {T E : Type 0} (handed : List ℕ → Type 0) (f0 f1 : ℕ) (total : List ℕ) (x : T) →
    IsUnderway handed f0 f1 [] total → IsHanded {T = T} {E = E} handed f0 f1 total (Ok x)
finish {T} {E} handed f0 f1 total x u =
    record {
      bytes = subst handed (sym (append-nil u.so_far) ∙ u.same) u.got;
      cause = record { later = u.later; failed = tt };
    }
