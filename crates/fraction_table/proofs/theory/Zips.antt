-- Facts of two lists, place by place.
use Rattle.std.proofs.Common.{◌≡◌, ℕ, zero, suc, ◌<◌, List, [], ◌∷◌, length, arith}
use Rattle.std.specs.Prelude.{slice_index_or}
use Rattle.std.specs.List.{AllZip}

pub zip_at : {A B : Type 0} (R : A → B → Type 0) (xs : List A) (ys : List B) (k : ℕ) (d : A) (e : B) → AllZip R xs ys →
    k < length xs → R (slice_index_or xs k d) (slice_index_or ys k e)
zip_at R [] ys k d e all k_in = absurd (omega arith)
zip_at R (x ∷ xs) [] k d e all k_in = absurd all
zip_at R (x ∷ xs) (y ∷ ys) zero d e all k_in = all.0
zip_at R (x ∷ xs) (y ∷ ys) (suc k) d e all k_in = zip_at R xs ys k d e all.1 (omega arith)

pub zip_from : {A B : Type 0} (R : A → B → Type 0) (xs : List A) (ys : List B) (d : A) (e : B) → length xs ≡ length ys →
    ((k : ℕ) → k < length xs → R (slice_index_or xs k d) (slice_index_or ys k e)) → AllZip R xs ys
zip_from R [] [] d e same all = tt
zip_from R [] (y ∷ ys) d e same all = absurd (omega arith)
zip_from R (x ∷ xs) [] d e same all = absurd (omega arith)
zip_from R (x ∷ xs) (y ∷ ys) d e same all =
    (all 0 (omega arith), zip_from R xs ys d e (omega arith) (λ k k_in. all (suc k) (omega arith)))
