-- What the lawful lines at a place begin with.
use Rattle.std.proofs.Common.{◌≡◌, ℕ, ◌≤◌, ◌⊎◌, ◌↔◌, List, ◌++◌, length, codes, refl, sym, ap, subst, arith, inl, inr, Option, Some, None, length-append}
use Rattle.cost_base.specs.Decimal.{decimal}
use Rattle.design_problem.specs.declared.answer.Verdict.{Verdict}
use Rattle.design_problem.specs.declared.answer.Verdict.TheVariants.{Optimal, Impossible, Undecided}
use Rattle.design_problem.specs.declared.answer.Floor.{Floor}
use Rattle.design_problem.specs.declared.answer.Floor.TheVariants.{Absent, Empty, Var}
use Rattle.design_problem.specs.AnswerRanges.{BoundsVerdict, BoundsFloor}
use Rattle.text_lines.proofs.Digits.{length-decimal-le}
use Rattle.design_problem.specs.Text.{verdict_line, floor_line}
use Rattle.answer_lines.specs.declared.other_text.OtherText.{OtherText}
use Rattle.answer_lines.specs.Grammar.{TextPlace, AtVerdict, AtCosts, AtSections, AtInterface, AtCost, AtFloor, AtRows, AtRow, AtSectionsEnd, Next, IsInterfaceAgain}
use Rattle.answer_lines.proofs.FirstLines.{has-room}
use Rattle.answer_lines.specs.Places.{BeginsLawful}
use Rattle.begun_lines.specs.Begun.{IsLineFront, BeginsNumber, BeginsName, BeginsAgain, BeginsNextCost, BeginsEnd}

-- what begins a lawful line
pub begins-from : (place next : TextPlace) (rest line : List ℕ) → Next place line next → length line ≤ 65536 → IsLineFront rest line → BeginsLawful place rest
begins-from place next rest line is short front = (
  front.0,
  (
    next,
    record {
      is = subst (λ l. Next place l next) (sym front.1) is;
      short = has-room place (rest ++ front.0) (subst (λ l. length l ≤ 65536) (sym front.1) short);
    },
  ),
)

-- where one line alone is in the grammar
pub wanted-begun : (place next : TextPlace) (rest line : List ℕ) → length line ≤ 65536 → Next place line next →
    ((l : List ℕ) (n : TextPlace) → Next place l n → l ≡ line) → IsLineFront rest line ↔ BeginsLawful place rest
wanted-begun place next rest line short is only = (
  λ front. begins-from place next rest line is short front,
  λ begins. (begins.0, only (rest ++ begins.0) begins.1.0 begins.1.1.is),
)

-- a line of a short front with a number behind it is short
pub short_number : (front : List ℕ) (n : ℕ) → length front ≤ 100 → n ≤ 18446744073709551615 → length (front ++ decimal n) ≤ 130
short_number front n small bound = omega (arith, length-append front (decimal n), length-decimal-le 30 n (omega arith) (omega arith))

-- what begins a lawful line that ends in a number
numbered : (place : TextPlace) (next : ℕ → TextPlace) (rest front : List ℕ) (greatest : ℕ) → length front ≤ 100 → greatest ≤ 18446744073709551615 →
    ((n : ℕ) → n ≤ greatest → Next place (front ++ decimal n) (next n)) → BeginsNumber rest front greatest → BeginsLawful place rest
numbered place next rest front greatest small bound lawful begun =
    begins-from place (next begun.0) rest (front ++ decimal begun.0) (lawful begun.0 begun.1)
    (omega (arith, short_number front begun.0 small (omega (arith, begun.1)))) begun.2

pub verdict-begun : (rest : List ℕ) →
    ((IsLineFront rest (codes "verdict impossible") ⊎ BeginsNumber rest (codes "verdict optimal ") 65535)
    ⊎ BeginsNumber rest (codes "verdict undecided budget ") 65535) ↔ BeginsLawful AtVerdict rest
verdict-begun rest = (
  λ begun. elim begun [
    | inl (inl line) ↦ begins-from AtVerdict AtCosts rest (codes "verdict impossible")
        (record { verdict = Impossible; bounds = tt; is = refl; leads = refl }) (omega arith) line
    | inl (inr number) ↦
        numbered AtVerdict (λ _. AtCosts) rest (codes "verdict optimal ") 65535 (omega arith) (omega arith)
        (λ n small. record { verdict = Optimal n; bounds = omega (arith, small); is = refl; leads = refl }) number
    | inr number ↦
        numbered AtVerdict (λ _. AtCosts) rest (codes "verdict undecided budget ") 65535 (omega arith) (omega arith)
        (λ n small. record { verdict = Undecided n; bounds = omega (arith, small); is = refl; leads = refl }) number
  ],
  λ begins. parts begins.0 begins.1.1.is.verdict begins.1.1.is.bounds begins.1.1.is.is,
)
  where
    parts : (more : List ℕ) (verdict : Verdict) → BoundsVerdict verdict → rest ++ more ≡ verdict_line verdict →
        (IsLineFront rest (codes "verdict impossible") ⊎ BeginsNumber rest (codes "verdict optimal ") 65535)
        ⊎ BeginsNumber rest (codes "verdict undecided budget ") 65535
    parts more Impossible bounds is = inl (inl (more, is))
    parts more (Optimal k) bounds is = inl (inr (k, omega (arith, bounds), (more, is)))
    parts more (Undecided k) bounds is = inr (k, omega (arith, bounds), (more, is))

pub costs-begun : (rest : List ℕ) → (IsLineFront rest (codes "costs none") ⊎ BeginsNumber rest (codes "costs ") 65535) ↔ BeginsLawful AtCosts rest
costs-begun rest = (
  λ begun. elim begun [
    | inl line ↦ begins-from AtCosts AtFloor rest (codes "costs none") (inl (refl, refl)) (omega arith) line
    | inr number ↦
        numbered AtCosts (λ _. AtSections None None) rest (codes "costs ") 65535 (omega arith) (omega arith)
        (λ n small. inr (record { greatest = n; bounds = omega (arith, small); is = refl; leads = refl })) number
  ],
  λ begins. elim begins.1.1.is [ inl none ↦ inl (begins.0, none.0) | inr some ↦ inr (some.greatest, omega (arith, some.bounds), (begins.0, some.is)) ],
)

floor-parts : (rest more : List ℕ) (floor : Floor) → BoundsFloor floor → rest ++ more ≡ floor_line floor →
    (IsLineFront rest (codes "floor none") ⊎ IsLineFront rest (codes "floor empty")) ⊎ BeginsNumber rest (codes "floor ") 4294967295
floor-parts rest more Absent bounds is = inl (inl (more, is))
floor-parts rest more Empty bounds is = inl (inr (more, is))
floor-parts rest more (Var v) bounds is = inr (v, omega (arith, bounds), (more, is))

pub floor-begun : (rest : List ℕ) →
    ((IsLineFront rest (codes "floor none") ⊎ IsLineFront rest (codes "floor empty"))
    ⊎ BeginsNumber rest (codes "floor ") 4294967295) ↔ BeginsLawful AtFloor rest
floor-begun rest = (
  λ begun. elim begun [
    | inl (inl line) ↦ begins-from AtFloor AtRows rest (codes "floor none") (record { floor = Absent; bounds = tt; is = refl; leads = refl }) (omega arith) line
    | inl (inr line) ↦ begins-from AtFloor AtRows rest (codes "floor empty") (record { floor = Empty; bounds = tt; is = refl; leads = refl }) (omega arith) line
    | inr number ↦
        numbered AtFloor (λ _. AtRows) rest (codes "floor ") 4294967295 (omega arith) (omega arith)
        (λ n small. record { floor = Var n; bounds = omega (arith, small); is = refl; leads = refl }) number
  ],
  λ begins. floor-parts rest begins.0 begins.1.1.is.floor begins.1.1.is.bounds begins.1.1.is.is,
)

pub rows-begun : (rest : List ℕ) → BeginsNumber rest (codes "rows ") 18446744073709551615 ↔ BeginsLawful AtRows rest
rows-begun rest = (
  λ number. numbered AtRows AtRow rest (codes "rows ") 18446744073709551615 (omega arith) (omega arith)
      (λ n small. record { count = n; bounds = omega (arith, small); is = refl; leads = refl }) number,
  λ begins. (begins.1.1.is.count, omega (arith, begins.1.1.is.bounds), (begins.0, begins.1.1.is.is)),
)

pub interface-begun : (text : Option OtherText) (rest router : List ℕ) → BeginsName rest (codes "interface ") ↔ BeginsLawful (AtInterface text router) rest
interface-begun text rest router = (
  λ begun. begins-from (AtInterface text router) (AtCost text router) rest (codes "interface " ++ begun.0)
      (record { name = begun.0; word = begun.1; is = refl; leads = refl }) begun.3 begun.2,
  λ begins. (begins.1.1.is.name, begins.1.1.is.word, (begins.0, begins.1.1.is.is), omega (arith, ap length begins.1.1.is.is, begins.1.1.short)),
)

pub section-begun : (text : Option OtherText) (rest : List ℕ) (before : Option (List ℕ)) →
    (BeginsNextCost text before rest ⊎ BeginsEnd text rest) ↔ BeginsLawful (AtSections text before) rest
section-begun text rest before = (
  λ begun. elim begun [
    | inl (inl router) ↦
        begins-from (AtSections text before) (AtInterface text router.0) rest (codes "router " ++ router.0)
        (inl (record { name = router.0; word = router.1; other = router.2; is = refl; leads = refl }))
        router.4 router.3
    | inl (inr again) ↦ further before again
    | inr end ↦ (end.0, (end.1, record { is = inr (inr end.2); short = end.3 }))
  ],
  λ begins. elim begins.1.1.is [
    | inl router ↦ inl (inl (router.name, router.word, router.other, (begins.0, router.is), omega (arith, ap length router.is, begins.1.1.short)))
    | inr (inl again) ↦ inl (inr (back before begins.0 begins.1.0 again begins.1.1.short))
    | inr (inr end) ↦ inr (begins.0, begins.1.0, end, begins.1.1.short)
  ],
)
  where
    further : (before : Option (List ℕ)) → BeginsAgain text before rest → BeginsLawful (AtSections text before) rest
    further None again = absurd again
    further (Some router) again = (again.0, (again.1.0, record { is = inr (inl again.1.1.is); short = again.1.1.short }))

    back : (before : Option (List ℕ)) (more : List ℕ) (next : TextPlace) → IsInterfaceAgain text before (rest ++ more) next →
        length (rest ++ more) ≤ 65536 → BeginsAgain text before rest
    back None more next again short = absurd again
    back (Some router) more next again short = (more, (next, record { is = again; short = short }))

-- the floor is what ends the sections of an answer
pub floor-ends : (rest : List ℕ) → BeginsLawful AtFloor rest ↔ BeginsEnd None rest
floor-ends rest = (
  λ begins. (begins.0, begins.1.0, begins.1.1.is, begins.1.1.short),
  λ end. (end.0, (end.1, record { is = end.2; short = end.3 })),
)

-- and so is the line behind the costs of another text
pub other-ends : (text : OtherText) (rest : List ℕ) → BeginsLawful (AtSectionsEnd text) rest ↔ BeginsEnd (Some text) rest
other-ends text rest = (
  λ begins. (begins.0, begins.1.0, begins.1.1.is, begins.1.1.short),
  λ end. (end.0, (end.1, record { is = end.2; short = end.3 })),
)
