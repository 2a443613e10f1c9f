-- What the head of a tree begins with.
use Rattle.std.proofs.Common.{◌≡◌, ◌≢◌, ℕ, zero, ◌≤◌, ◌⊎◌, ◌↔◌, IsTrue, MatchOption, Option, Some, None, is_some, List, [], ◌∷◌, ◌++◌, length, codes, refl, sym, ap, ◌∙◌, arith, inl, inr, append_assoc, length-append}
use Rattle.std.proofs.lemmas.List.{append_cancel_left}
use Rattle.cost_base.specs.Decimal.{decimal}
use Rattle.text_lines.specs.Numbers.{split}
use Rattle.text_lines.proofs.Pieces.{split-some}
use Rattle.text_lines.proofs.Digits.{length-decimal-le}
use Rattle.evidence_text.specs.Parts.{no_tree_line, tree_line}
use Rattle.evidence_text.specs.declared.TreePart.{TreePart}
use Rattle.evidence_text.specs.declared.TreePart.TheVariants.{Proof, Undecided}
use Rattle.answer_lines.specs.Grammar.{TextPlace, AtRow, AtTree, IsPartNext, Next}
use Rattle.answer_lines.specs.Places.{BeginsLawful}
use Rattle.begun_lines.specs.Begun.{IsLineFront, IsNumberWord, BeginsNumber, BeginsTree, BeginsCount}
use Rattle.begun_lines.proofs.Beginnings.{two_parts, front-longer, behind-space}
use Rattle.begun_lines.proofs.BegunPlaces.{begins-from}
use Rattle.answer_lines.proofs.ListParts.{head-is}
use Rattle.answer_lines.proofs.LineFronts.{split-front}
use Rattle.answer_lines.proofs.SpacedWords.{decimal-spaceless}

-- the head is begun within its cap, or behind it
pub tree-begun : (rest front : List ℕ) → (BeginsNumber rest front 65535 ⊎ BeginsCount rest front) ↔ BeginsTree rest front
tree-begun rest front = (
  λ begun. elim begun [
    | inl number ↦
        let longer : IsLineFront rest ((front ++ decimal number.0) ++ 32 ∷ decimal 0) = front-longer rest (front ++ decimal number.0) (32 ∷ decimal 0) number.2
        in
        (number.0, 0, number.1, omega arith, (longer.0, longer.1 ∙ append_assoc front (decimal number.0) (32 ∷ decimal 0)))
    | inr count ↦ behind count.0 count.1 count.2 count.3 count.4
  ],
  λ begins. parts begins.0 begins.1 begins.2 begins.3 begins.4.0 begins.4.1,
)
  where
    behind : (cap : ℕ) (left : List ℕ) → cap ≤ 65535 → rest ≡ front ++ (decimal cap ++ 32 ∷ left) → BeginsNumber left [] 4294967295 → BeginsTree rest front
    behind cap left small is number = (
      cap,
      number.0,
      small,
      number.1,
      (
        number.2.0,
        ap (λ bytes. bytes ++ number.2.0) is
            ∙ append_assoc front (decimal cap ++ 32 ∷ left) number.2.0
            ∙ ap (λ bytes. front ++ bytes) (append_assoc (decimal cap) (32 ∷ left) number.2.0 ∙ ap (λ bytes. decimal cap ++ 32 ∷ bytes) number.2.1),
      ),
    )

    parts : (cap count : ℕ) → cap ≤ 65535 → count ≤ 4294967295 → (more : List ℕ) →
        rest ++ more ≡ front ++ (decimal cap ++ 32 ∷ decimal count) → BeginsNumber rest front 65535
        ⊎ BeginsCount rest front
    parts cap count small few more e =
        elim (two_parts rest more (front ++ decimal cap) (32 ∷ decimal count) (e ∙ sym (append_assoc front (decimal cap) (32 ∷ decimal count)))) [
          | inl within ↦ inl (cap, small, within)
          | inr into ↦
              let found : (left : List ℕ) × (into.cut ≡ 32 ∷ left) × (left ++ more ≡ decimal count) =
              behind-space into.cut more (decimal count) into.some into.left in
              inr (
                cap,
                found.0,
                small,
                into.is ∙ append_assoc front (decimal cap) into.cut
                    ∙ ap (λ bytes. front ++ (decimal cap ++ bytes)) found.1,
                (count, few, (more, found.2)),
              )
        ]

-- a number's word, before a space, is the first piece
cut-is : (numbers cap count : List ℕ) (n : ℕ) (left : List ℕ) → numbers ≡ cap ++ 32 ∷ count →
    split 32 numbers ≡ cap ∷ split 32 count → numbers ≡ decimal n ++ 32 ∷ left → (cap ≡ decimal n) × (count ≡ left)
cut-is numbers cap count n left parts pieces is =
    let first : cap ≡ decimal n = head-is cap (decimal n) (split 32 count) (split 32 left)
    (sym pieces ∙ ap (split 32) is ∙ split-front 32 (decimal n) left (decimal-spaceless n)) in
    let behind : 32 ∷ count ≡ 32 ∷ left = append_cancel_left cap (32 ∷ count) (32 ∷ left) (sym parts ∙ is ∙ ap (λ bytes. bytes ++ 32 ∷ left) (sym first)) in
    (first, cc)

-- text behind the front that has a space
pub count-begun : (rest front numbers cap count : List ℕ) → rest ≡ front ++ numbers → numbers ≡ cap ++ 32 ∷ count → split 32 numbers ≡ cap ∷ split 32 count →
    (IsNumberWord cap 65535 × BeginsNumber count [] 4294967295) ↔ BeginsCount rest front
count-begun rest front numbers cap count is parts pieces = (
  λ begun. (begun.0.0, count, begun.0.1, is ∙ ap (λ bytes. front ++ bytes) (parts ∙ ap (λ bytes. bytes ++ 32 ∷ count) begun.0.2), begun.1),
  λ begun.
      let found : (cap ≡ decimal begun.0) × (count ≡ begun.1) =
      cut-is numbers cap count begun.0 begun.1 parts pieces (append_cancel_left front numbers (decimal begun.0 ++ 32 ∷ begun.1) (sym is ∙ begun.3)) in
      ((begun.0, begun.2, found.0), rw found.1 begun.4),
)

-- text behind the front that has no space
pub count-unbegun : (rest front numbers : List ℕ) → rest ≡ front ++ numbers → split 32 numbers ≡ numbers ∷ [] → BeginsCount rest front → ⊥
count-unbegun rest front numbers is whole begun =
    let same : numbers ≡ decimal begun.0 ++ 32 ∷ begun.1 = append_cancel_left front numbers (decimal begun.0 ++ 32 ∷ begun.1) (sym is ∙ begun.3) in
    let pieces : numbers ∷ [] ≡ decimal begun.0 ∷ split 32 begun.1 = sym whole ∙ ap (split 32) same
    ∙ split-front 32 (decimal begun.0) begun.1 (decimal-spaceless begun.0) in
    split-some 32 begun.1 (cc)

-- a number that is read says whether a word is one
pub word-tested : (word : List ℕ) (greatest : ℕ) (found : Option ℕ) →
    MatchOption found ((n : ℕ) → n ≤ greatest → word ≢ decimal n) (λ n. (word ≡ decimal n) × (n ≤ greatest)) →
    IsTrue (is_some found) ↔ IsNumberWord word greatest
word-tested word greatest None h = (λ yes. absurd (cc), λ number. absurd (h number.0 number.1 number.2))
word-tested word greatest (Some n) h = (λ yes. (n, h.1, h.0), λ number. refl)

-- the line of a tree's head is short
short_head : (front : List ℕ) (cap count : ℕ) → length front ≤ 100 → cap ≤ 65535 → count ≤ 4294967295 →
    length (front ++ (decimal cap ++ 32 ∷ decimal count)) ≤ 65536
short_head front cap count small few many =
    omega (
      arith,
      length-append front (decimal cap ++ 32 ∷ decimal count),
      length-append (decimal cap) (32 ∷ decimal count),
      length-decimal-le 30 cap (omega arith) (omega arith),
      length-decimal-le 30 count (omega arith) (omega arith),
    )

-- what begins the first line of a part, at a place where this line alone may stand
part-begun : (place : TextPlace) (part : TreePart) (none front rest : List ℕ) →
    ((line : List ℕ) (next : TextPlace) → IsPartNext part line next ↔ Next place line next) →
    none ≡ no_tree_line part → length none ≤ 100 →
    ((cap count : ℕ) → front ++ (decimal cap ++ 32 ∷ decimal count) ≡ tree_line part cap count) → length front ≤ 100 →
    (IsLineFront rest none ⊎ BeginsTree rest front) ↔ BeginsLawful place rest
part-begun place part none front rest lawful no_tree few a_tree small = (
  λ begun. elim begun [
    | inl line ↦ begins-from place (AtTree part 0 0) rest none ((lawful none (AtTree part 0 0)).0 (inl (no_tree, refl))) (omega (arith, few)) line
    | inr head ↦
        let line = front ++ (decimal head.0 ++ 32 ∷ decimal head.1) in
        begins-from place (AtTree part 1 head.1) rest line
        ((lawful line (AtTree part 1 head.1)).0 (inr (record {
          cap = head.0;
          count = head.1;
          cap_bounds = omega (arith, head.2);
          count_bounds = omega (arith, head.3);
          is = a_tree head.0 head.1;
          leads = refl;
        })))
        (short_head front head.0 head.1 small head.2 head.3) head.4
  ],
  λ begins. elim ((lawful (rest ++ begins.0) begins.1.0).1 begins.1.1.is) [
    | inl line ↦ inl (begins.0, line.0 ∙ sym no_tree)
    | inr head ↦ inr (
      head.cap,
      head.count,
      omega (arith, head.cap_bounds),
      omega (arith, head.count_bounds),
      (begins.0, head.is ∙ sym (a_tree head.cap head.count)),
    )
  ],
)

pub proof-begun : (rest : List ℕ) → (IsLineFront rest (codes "proof none") ⊎ BeginsTree rest (codes "proof ")) ↔ BeginsLawful (AtRow zero) rest
proof-begun rest =
    part-begun (AtRow zero) Proof (codes "proof none") (codes "proof ") rest (λ line next. (λ is. is, λ is. is)) refl (omega arith)
    (λ cap count. refl) (omega arith)

pub open-begun : (rest : List ℕ) → (IsLineFront rest (codes "open none") ⊎ BeginsTree rest (codes "open ")) ↔ BeginsLawful (AtTree Proof zero zero) rest
open-begun rest =
    part-begun (AtTree Proof zero zero) Undecided (codes "open none") (codes "open ") rest (λ line next. (λ is. is, λ is. is)) refl
    (omega arith) (λ cap count. refl) (omega arith)
