-- What the line of a cost begins with: the cost is printed, and from 1.
use Rattle.std.proofs.Common.{◌≡◌, ◌≢◌, ℕ, zero, suc, Option, ◌<◌, ◌≤◌, ◌↔◌, List, [], ◌∷◌, ◌++◌, codes, refl, sym, ap, ◌∙◌, arith, inl, inr}
use Rattle.std.proofs.lemmas.List.{append_cancel_left}
use Rattle.cost_base.specs.Decimal.{decimal}
use Rattle.text_lines.specs.Reads.{begins_as_printed}
use Rattle.text_lines.proofs.Printed.{decimal-same, decimal-begins}
use Rattle.answer_lines.specs.declared.other_text.OtherText.{OtherText}
use Rattle.answer_lines.specs.Grammar.{AtCost, AtExit}
use Rattle.answer_lines.specs.Places.{BeginsLawful}
use Rattle.begun_lines.specs.Begun.{IsLineFront, BeginsNumber}
use Rattle.begun_lines.proofs.Beginnings.{two_parts, front-longer}
use Rattle.begun_lines.proofs.BegunPlaces.{begins-from, short_number}
use Rattle.answer_lines.proofs.ListParts.{not-both}

abbrev cost_front : List ℕ
cost_front = codes " ip ospf cost "

-- what begins one byte, and isn't empty, is that byte
alone : (cut more : List ℕ) (x : ℕ) → cut ≢ [] → cut ++ more ≡ x ∷ [] → cut ≡ x ∷ []
alone [] more x some e = absurd (some refl)
alone (y ∷ []) more x some e = cc
alone (y ∷ z ∷ zs) more x some e = cc

-- only zero begins with 0
zero_led : (n : ℕ) (more : List ℕ) → 48 ∷ more ≡ decimal n → n ≡ 0
zero_led n [] e = decimal-same n 0 (sym e)
zero_led n (d ∷ ds) e = absurd (not-both (begins_as_printed (decimal n)) (decimal-begins n) (ap begins_as_printed (sym e)))

-- a number that begins with these bytes can be one from 1
from_one : (rest : List ℕ) (n : ℕ) → n ≤ 65535 → IsLineFront rest (cost_front ++ decimal n) →
    rest ≢ codes " ip ospf cost 0" → (m : ℕ) × (0 < m) × (m ≤ 65535) × IsLineFront rest (cost_front ++ decimal m)
from_one rest (suc n) small begun other = (suc n, omega arith, small, begun)
from_one rest zero small begun other =
    elim (two_parts rest begun.0 cost_front (48 ∷ []) begun.1) [
      | inl started ↦ (1, omega arith, omega arith, front-longer rest cost_front (decimal 1) started)
      | inr into ↦ absurd (other (into.is ∙ ap (λ bytes. cost_front ++ bytes) (alone into.cut begun.0 48 into.some into.left)))
    ]

pub cost-begun : (text : Option OtherText) (rest router : List ℕ) →
    (BeginsNumber rest (codes " ip ospf cost ") 65535 × (rest ≢ codes " ip ospf cost 0")) ↔ BeginsLawful (AtCost text router) rest
cost-begun text rest router = (
  λ begun.
      let found : (m : ℕ) × (0 < m) × (m ≤ 65535) × IsLineFront rest (cost_front ++ decimal m) = from_one rest begun.0.0 begun.0.1 begun.0.2 begun.1 in
      begins-from (AtCost text router) (AtExit text router) rest (cost_front ++ decimal found.0)
      (record { cost = found.0; some = found.1; bounds = omega (arith, found.2); is = refl; leads = refl })
      (omega (arith, short_number cost_front found.0 (omega arith) (omega (arith, found.2)))) found.3,
  λ begins. (
    (begins.1.1.is.cost, omega (arith, begins.1.1.is.bounds), (begins.0, begins.1.1.is.is)),
    λ e.
        let led : 48 ∷ begins.0 ≡ decimal begins.1.1.is.cost =
        append_cancel_left cost_front (48 ∷ begins.0) (decimal begins.1.1.is.cost) (ap (λ bytes. bytes ++ begins.0) (sym e) ∙ begins.1.1.is.is) in
        omega (arith, zero_led begins.1.1.is.cost begins.0 led, begins.1.1.is.some),
  ),
)
