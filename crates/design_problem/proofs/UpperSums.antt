-- The greatest value over the first places, and one more.
use Rattle.std.proofs.Common.{◌≡◌, ℕ, zero, suc, ◌+◌, ◌<◌, sym, ◌∙◌, ap, List, [], ◌∷◌, length, take, get_or, add-one, arith}
use Rattle.std.specs.Prelude.{ℤ, pos, ◌+ℤ◌}
use lib.IntN.{+ℤ_assoc, +ℤ_idl, +ℤ_idr}
use Rattle.design_problem.specs.Boxes.{upper_term, upper_sum}

from_suc : (cs : List ℤ) (ls hs : List ℕ) (i : ℕ) → i < length cs → length cs ≡ length ls → length cs ≡ length hs →
    upper_sum (take (suc i) cs) (take (suc i) ls) (take (suc i) hs)
    ≡ (upper_sum (take i cs) (take i ls) (take i hs) +ℤ upper_term (get_or cs i (pos 0)) (get_or ls i 0) (get_or hs i 0))
from_suc [] ls hs i i_in low high = absurd (omega arith)
from_suc (c ∷ cs) [] hs i i_in low high = absurd (omega arith)
from_suc (c ∷ cs) (l ∷ ls) [] i i_in low high = absurd (omega arith)
from_suc (c ∷ cs) (l ∷ ls) (h ∷ hs) zero i_in low high = +ℤ_idr (upper_term c l h) ∙ sym (+ℤ_idl (upper_term c l h))
from_suc (c ∷ cs) (l ∷ ls) (h ∷ hs) (suc i) i_in low high =
    ap (λ z. upper_term c l h +ℤ z) (from_suc cs ls hs i (omega arith) (omega arith) (omega arith))
    ∙ sym (+ℤ_assoc (upper_term c l h) (upper_sum (take i cs) (take i ls) (take i hs)) (upper_term (get_or cs i (pos 0)) (get_or ls i 0) (get_or hs i 0)))

pub upper_sum-more : (cs : List ℤ) (ls hs : List ℕ) (i : ℕ) → i < length cs → length cs ≡ length ls →
    length cs ≡ length hs → upper_sum (take (i + 1) cs) (take (i + 1) ls) (take (i + 1) hs)
    ≡ (upper_sum (take i cs) (take i ls) (take i hs) +ℤ upper_term (get_or cs i (pos 0)) (get_or ls i 0) (get_or hs i 0))
upper_sum-more cs ls hs i i_in low high = rw add-one (from_suc cs ls hs i i_in low high)
