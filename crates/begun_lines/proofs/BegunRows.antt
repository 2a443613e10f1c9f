-- What the line of a row begins with.
use Rattle.std.proofs.Common.{◌≡◌, ◌≢◌, ℕ, suc, ◌<◌, ◌≤◌, ◌⊎◌, ◌↔◌, List, [], ◌∷◌, ◌++◌, All, length, map, codes, refl, sym, ap, ◌∙◌, arith, inl, inr, append_assoc, length-append}
use Rattle.std.proofs.lemmas.List.{map-append}
use Rattle.std.proofs.lemmas.List.Elements.{All-nil, All-cons, All-head, All-tail, All-push}
use Rattle.cost_base.specs.Decimal.{decimal}
use Rattle.design_problem.specs.declared.form.Row.{Row}
use Rattle.design_problem.specs.AnswerRanges.{IsIndex, BoundsRow}
use Rattle.design_problem.specs.Text.{spaced, row_line}
use Rattle.text_lines.specs.Numbers.{split}
use Rattle.text_lines.proofs.WordLaws.{decimal-word}
use Rattle.answer_lines.specs.Grammar.{AtRow}
use Rattle.answer_lines.specs.Places.{BeginsLawful}
use Rattle.begun_lines.specs.Begun.{BeginsNumber, IsLineOfRow, AreNumberWords, IsShortRow, BeginsEdge}
use Rattle.begun_lines.proofs.Beginnings.{two_parts, front-longer, front-whole, behind-space}
use Rattle.begun_lines.proofs.BegunPlaces.{begins-from, short_number}
use Rattle.begun_lines.proofs.BegunNumbers.{cut-decimal}
use Rattle.answer_lines.proofs.ListParts.{tail-is}
use Rattle.answer_lines.proofs.LineWords.{row-words}
use Rattle.answer_lines.proofs.SpacedWords.{from-words}

-- numbers with one space between each two, one at least
record IsNumbers (text : List ℕ) : Type 0 where
  pub first : ℕ
  pub others : List ℕ
  pub bounds : All IsIndex (first ∷ others)
  pub is : text ≡ spaced (map decimal (first ∷ others))

-- numbers, and a space behind them, with more to come
record AwaitsNumber (text more : List ℕ) : Type 0 where
  pub line : List ℕ
  pub numbers : IsNumbers line
  pub is : text ≡ line ++ 32 ∷ []
  pub some : more ≢ []

one-bound : (n : ℕ) → IsIndex n → All IsIndex (n ∷ [])
one-bound n small = All-cons IsIndex n [] small (All-nil IsIndex)

-- the first number, cut
cut-one : (n : ℕ) (text more : List ℕ) → IsIndex n → text ++ more ≡ decimal n → text ≢ [] → IsNumbers text
cut-one n text more small e some =
    let found : (m : ℕ) × (m ≤ n) × (text ≡ decimal m) = cut-decimal n text more (sym e) some in
    record { first = found.0; others = []; bounds = one-bound found.0 (omega (arith, found.1, small)); is = found.2 }

-- one more number in front
in_front : (n : ℕ) (text left : List ℕ) → IsIndex n → text ≡ decimal n ++ 32 ∷ left → IsNumbers left → IsNumbers text
in_front n text left small is numbers =
    record {
      first = n;
      others = numbers.first ∷ numbers.others;
      bounds = All-cons IsIndex n (numbers.first ∷ numbers.others) small numbers.bounds;
      is = is ∙ ap (λ bytes. decimal n ++ 32 ∷ bytes) numbers.is;
    }

spaced-some : (w : List ℕ) (ws : List (List ℕ)) → w ≢ [] → spaced (w ∷ ws) ≢ []
spaced-some [] ws some e = absurd (some refl)
spaced-some (c ∷ cs) [] some e = cc
spaced-some (c ∷ cs) (v ∷ vs) some e = cc

-- what numbers begin with, where it isn't empty, is numbers or awaits one
numbers-front : (n : ℕ) (ns text more : List ℕ) → All IsIndex (n ∷ ns) → text ++ more ≡ spaced (map decimal (n ∷ ns)) →
    text ≢ [] → IsNumbers text ⊎ AwaitsNumber text more
numbers-front n [] text more all e some = inl (cut-one n text more (All-head IsIndex n [] all) e some)
numbers-front n (k ∷ ks) text more all e some =
    let small : IsIndex n = All-head IsIndex n (k ∷ ks) all in
    let rest : List ℕ = spaced (map decimal (k ∷ ks)) in
    elim (two_parts text more (decimal n) (32 ∷ rest) e) [
      | inl within ↦ inl (cut-one n text within.0 small within.1 some)
      | inr into ↦
          let found : (left : List ℕ) × (into.cut ≡ 32 ∷ left) × (left ++ more ≡ rest) = behind-space into.cut more rest into.some into.left in
          step small found.0 (into.is ∙ ap (λ bytes. decimal n ++ bytes) found.1) found.2
          (numbers-front k ks found.0 more (All-tail IsIndex n (k ∷ ks) all) found.2)
    ]
  where
    step : IsIndex n → (left : List ℕ) → text ≡ decimal n ++ 32 ∷ left → left ++ more ≡ spaced (map decimal (k ∷ ks)) →
        (left ≢ [] → IsNumbers left ⊎ AwaitsNumber left more) → IsNumbers text ⊎ AwaitsNumber text more
    step small [] is e behind =
        inr (record {
          line = decimal n;
          numbers = record { first = n; others = []; bounds = one-bound n small; is = refl };
          is = is;
          some = λ none. spaced-some (decimal k) (map decimal ks) (decimal-word k).some (sym e ∙ none);
        })
    step small (x ∷ xs) is e behind =
        elim (behind (λ none. cc)) [
          | inl numbers ↦ inl (in_front n text (x ∷ xs) small is numbers)
          | inr awaits ↦
              inr (record {
                line = decimal n ++ 32 ∷ awaits.line;
                numbers = in_front n (decimal n ++ 32 ∷ awaits.line) awaits.line small refl awaits.numbers;
                is = is ∙ ap (λ bytes. decimal n ++ 32 ∷ bytes) awaits.is ∙ sym (append_assoc (decimal n) (32 ∷ awaits.line) (32 ∷ []));
                some = awaits.some;
              })
        ]

-- a row of these numbers
abbrev row_of_numbers : ℕ → List ℕ → Row
row_of_numbers first others = record { request = first; rival = others }

-- `row` and numbers are the line of a row
row-line : (rest text : List ℕ) → rest ≡ codes "row " ++ text → IsNumbers text → IsLineOfRow rest
row-line rest text is numbers = (
  row_of_numbers numbers.first numbers.others,
  (All-head IsIndex numbers.first numbers.others numbers.bounds, All-tail IsIndex numbers.first numbers.others numbers.bounds),
  is ∙ ap (λ bytes. codes "row " ++ bytes) numbers.is,
)

spaced-more : (w : List ℕ) (ws : List (List ℕ)) (v : List ℕ) → spaced (w ∷ (ws ++ v ∷ [])) ≡ spaced (w ∷ ws) ++ 32 ∷ v
spaced-more w [] v = refl
spaced-more w (x ∷ xs) v = ap (λ line. w ++ 32 ∷ line) (spaced-more x xs v) ∙ sym (append_assoc w (32 ∷ spaced (x ∷ xs)) (32 ∷ v))

-- the line of a row with one more edge
row-more : (request : ℕ) (edges : List ℕ) → row_line (row_of_numbers request (edges ++ 0 ∷ [])) ≡ row_line (row_of_numbers request edges) ++ 32 ∷ 48 ∷ []
row-more request edges =
    ap (λ words. codes "row " ++ spaced (decimal request ∷ words)) (map-append decimal edges (0 ∷ []))
    ∙ ap (λ bytes. codes "row " ++ bytes) (spaced-more (decimal request) (map decimal edges) (48 ∷ []))

edge-begins : (rest : List ℕ) (left : ℕ) → BeginsEdge rest → BeginsLawful (AtRow (suc left)) rest
edge-begins rest left edge = go edge.0 edge.1.0 edge.1.1 edge.1.2 edge.2 edge.3
  where
    go : (line : List ℕ) (row : Row) → BoundsRow row → line ≡ row_line row → rest ≡ line ++ 32 ∷ [] → length rest < 65536 → BeginsLawful (AtRow (suc left)) rest
    go line row bounds is space room =
        let longer : Row = row_of_numbers row.request (row.rival ++ 0 ∷ []) in
        let whole : rest ++ 48 ∷ [] ≡ row_line longer =
        ap (λ bytes. bytes ++ 48 ∷ []) space ∙ append_assoc line (32 ∷ []) (48 ∷ [])
        ∙ ap (λ bytes. bytes ++ 32 ∷ 48 ∷ []) is ∙ sym (row-more row.request row.rival) in
        begins-from (AtRow (suc left)) (AtRow left) rest (row_line longer)
        (record { row = longer; bounds = (bounds.0, All-push IsIndex row.rival 0 bounds.1 (omega arith)); is = refl; leads = refl })
        (omega (arith, ap length whole, length-append rest (48 ∷ []))) (48 ∷ [], whole)

pub row-begun : (rest : List ℕ) (left : ℕ) →
    ((BeginsNumber rest (codes "row ") 4294967295 ⊎ IsShortRow rest) ⊎ BeginsEdge rest) ↔ BeginsLawful (AtRow (suc left)) rest
row-begun rest left = (
  λ begun. elim begun [
    | inl (inl number) ↦
        begins-from (AtRow (suc left)) (AtRow left) rest (codes "row " ++ decimal number.0)
        (record { row = row_of_numbers number.0 []; bounds = (omega (arith, number.1), All-nil IsIndex); is = refl; leads = refl })
        (omega (arith, short_number (codes "row ") number.0 (omega arith) (omega (arith, number.1)))) number.2
    | inl (inr row) ↦
        begins-from (AtRow (suc left)) (AtRow left) rest rest
        (record { row = row.0.0; bounds = row.0.1; is = row.0.2; leads = refl }) row.1 (front-whole rest rest refl)
    | inr edge ↦ edge-begins rest left edge
  ],
  λ begins. parts begins.0 begins.1.1.is.row begins.1.1.is.bounds begins.1.1.is.is begins.1.1.short,
)
  where
    behind : (more text : List ℕ) → rest ≡ codes "row " ++ text → length (rest ++ more) ≤ 65536 →
        IsNumbers text ⊎ AwaitsNumber text more → (BeginsNumber rest (codes "row ") 4294967295 ⊎ IsShortRow rest)
        ⊎ BeginsEdge rest
    behind more text is short (inl numbers) = inl (inr (row-line rest text is numbers, omega (arith, length-append rest more)))
    behind [] text is short (inr awaits) = absurd (awaits.some refl)
    behind (c ∷ cs) text is short (inr awaits) =
        inr (
          codes "row " ++ awaits.line,
          row-line (codes "row " ++ awaits.line) awaits.line refl awaits.numbers,
          is
              ∙ ap (λ bytes. codes "row " ++ bytes) awaits.is,
          omega (arith, length-append rest (c ∷ cs)),
        )

    parts : (more : List ℕ) (row : Row) → BoundsRow row → rest ++ more ≡ row_line row → length (rest ++ more) ≤ 65536 →
        (BeginsNumber rest (codes "row ") 4294967295 ⊎ IsShortRow rest) ⊎ BeginsEdge rest
    parts more row bounds is short =
        elim (two_parts rest more (codes "row ") (spaced (map decimal (row.request ∷ row.rival))) is) [
          | inl started ↦ inl (inl (0, omega arith, front-longer rest (codes "row ") (decimal 0) started))
          | inr into ↦
              behind more into.cut into.is short
              (numbers-front row.request row.rival into.cut more (All-cons IsIndex row.request row.rival bounds.0 bounds.1) into.left into.some)
        ]

-- a word `row`, and numbers behind it, one at least, are the words of a row's line
pub row-said : (line : List ℕ) (words : List (List ℕ)) → split 32 line ≡ codes "row" ∷ words → ((words ≢ []) × AreNumberWords words) ↔ IsLineOfRow line
row-said line words cut = (λ said. from said.1.0 said.1.1 said.1.2 said.0, λ row. back row.0 row.1 row.2)
  where
    from : (ns : List ℕ) → All IsIndex ns → words ≡ map decimal ns → words ≢ [] → IsLineOfRow line
    from [] all is some = absurd (some is)
    from (n ∷ ns) all is some =
        row-line line (spaced (map decimal (n ∷ ns))) (from-words line (codes "row") (map decimal (n ∷ ns)) (cut ∙ ap (λ ws. codes "row" ∷ ws) is))
        (record { first = n; others = ns; bounds = all; is = refl })

    back : (row : Row) → BoundsRow row → line ≡ row_line row → (words ≢ []) × AreNumberWords words
    back row bounds is =
        let same : words ≡ map decimal (row.request ∷ row.rival) =
        tail-is (codes "row") (codes "row") words (map decimal (row.request ∷ row.rival))
        (sym cut ∙ row-words line row is) in
        (λ none. cc, (row.request ∷ row.rival, All-cons IsIndex row.request row.rival bounds.0 bounds.1, same))

-- words that begin with no number aren't numbers
pub numbers-off : (words : List (List ℕ)) → words ≢ [] → ((n : ℕ) (rest : List (List ℕ)) → n ≤ 4294967295 → words ≢ decimal n ∷ rest) → AreNumberWords words → ⊥
numbers-off words some none numbers = go numbers.0 numbers.1 numbers.2
  where
    go : (ns : List ℕ) → All IsIndex ns → words ≡ map decimal ns → ⊥
    go [] all is = some is
    go (n ∷ ns) all is = let small : IsIndex n = All-head IsIndex n ns all in none n (map decimal ns) (omega arith) is

-- words that begin with a number are numbers where those behind it are
pub numbers-on : (words rest : List (List ℕ)) (n : ℕ) → n ≤ 4294967295 → words ≡ decimal n ∷ rest → AreNumberWords words ↔ AreNumberWords rest
numbers-on words rest n small is = (
  λ numbers. from numbers.0 numbers.1 numbers.2,
  λ numbers. (
    n ∷ numbers.0,
    All-cons IsIndex n numbers.0 (omega (arith, small)) numbers.1,
    is
        ∙ ap (λ ws. decimal n ∷ ws) numbers.2,
  ),
)
  where
    from : (ns : List ℕ) → All IsIndex ns → words ≡ map decimal ns → AreNumberWords rest
    from [] all same = absurd (cc)
    from (k ∷ ks) all same = (ks, All-tail IsIndex k ks all, tail-is (decimal n) (decimal k) rest (map decimal ks) (sym is ∙ same))
