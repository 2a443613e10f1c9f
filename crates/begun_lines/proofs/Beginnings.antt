-- Bytes that lines begin with.
use Rattle.std.proofs.Common.{◌≡◌, ◌≢◌, ℕ, ◌≤◌, ◌⊎◌, ◌↔◌, IsTrue, MatchOption, Option, Some, None, is_some, List, [], ◌∷◌, ◌++◌, refl, sym, ap, ◌∙◌, arith, inl, inr, append_assoc, append-nil}
use Rattle.cost_base.specs.Decimal.{decimal}
use Rattle.begun_lines.specs.Begun.{IsLineFront, BeginsNumber}
use Rattle.begun_lines.proofs.BegunNumbers.{cut-decimal}

-- bytes go on into what stands behind a front
pub record GoesInto (rest more front tail : List ℕ) : Type 0 where
  pub cut : List ℕ
  pub some : cut ≢ []
  pub is : rest ≡ front ++ cut
  pub left : cut ++ more ≡ tail

-- bytes that a line of two parts begins with end in the first part, or go on into the second
pub two_parts : (rest more front tail : List ℕ) → rest ++ more ≡ front ++ tail → IsLineFront rest front ⊎ GoesInto rest more front tail
two_parts [] more front tail e = inl (front, refl)
two_parts (x ∷ xs) more [] tail e = inr (record { cut = x ∷ xs; some = λ none. cc; is = refl; left = e })
two_parts (x ∷ xs) more (y ∷ ys) tail e =
    let same : x ≡ y = cc in
    elim (two_parts xs more ys tail (cc)) [
      | inl front ↦ inl (front.0, ap (λ z. z ∷ (xs ++ front.0)) same ∙ ap (λ zs. y ∷ zs) front.1)
      | inr into ↦ inr (record { cut = into.cut; some = into.some; is = ap (λ z. z ∷ xs) same ∙ ap (λ zs. y ∷ zs) into.is; left = into.left })
    ]

-- a longer line has the same fronts
pub front-longer : (rest line tail : List ℕ) → IsLineFront rest line → IsLineFront rest (line ++ tail)
front-longer rest line tail front = (front.0 ++ tail, sym (append_assoc rest front.0 tail) ∙ ap (λ bytes. bytes ++ tail) front.1)

-- a line begins with itself
pub front-whole : (rest line : List ℕ) → rest ≡ line → IsLineFront rest line
front-whole rest line e = ([], append-nil rest ∙ e)

-- a line that ends in a number is begun before its number, or with a number that isn't greater
pub front-number : (rest front : List ℕ) (greatest n : ℕ) → n ≤ greatest → IsLineFront rest (front ++ decimal n) →
    IsLineFront rest front ⊎ ((m : ℕ) × (m ≤ greatest) × (rest ≡ front ++ decimal m))
front-number rest front greatest n small begun =
    elim (two_parts rest begun.0 front (decimal n) begun.1) [
      | inl before ↦ inl before
      | inr into ↦
          let found : (m : ℕ) × (m ≤ n) × (into.cut ≡ decimal m) = cut-decimal n into.cut begun.0 (sym into.left) into.some in
          inr (found.0, omega (arith, found.1), into.is ∙ ap (λ bytes. front ++ bytes) found.2)
    ]

-- where the front isn't begun, the number behind it tells
pub number-tested : (rest front : List ℕ) (greatest : ℕ) (found : Option ℕ) → (IsLineFront rest front → ⊥) →
    MatchOption found ((n : ℕ) → n ≤ greatest → rest ≢ front ++ decimal n)
    (λ n. (n ≤ greatest) × (rest ≡ front ++ decimal n)) → IsTrue (is_some found) ↔ BeginsNumber rest front greatest
number-tested rest front greatest None unbegun h = (
  λ yes. absurd (cc),
  λ begun. absurd (elim (front-number rest front greatest begun.0 begun.1 begun.2) [ inl before ↦ unbegun before | inr found ↦ h found.0 found.1 found.2 ]),
)
number-tested rest front greatest (Some n) unbegun h = (λ yes. (n, h.0, front-whole rest (front ++ decimal n) h.1), λ begun. refl)

-- some bytes that begin a space and what is behind it begin with the space
pub behind-space : (cut more tail : List ℕ) → cut ≢ [] → cut ++ more ≡ 32 ∷ tail → (left : List ℕ) × (cut ≡ 32 ∷ left) × (left ++ more ≡ tail)
behind-space [] more tail some e = absurd (some refl)
behind-space (x ∷ xs) more tail some e = (xs, cc, cc)
