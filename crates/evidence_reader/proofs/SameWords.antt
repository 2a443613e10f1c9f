-- What words say is read off them: equal words say the same.
use Rattle.std.proofs.Common.{◌≡◌, ℕ, ◌+◌, ◌-◌, List, [], ◌∷◌, All, map, codes, eqb, cond, false, ℤ, pos, negsuc, refl, sym, ap, ◌∙◌, arith}
use Rattle.std.proofs.lemmas.List.{append_cancel_left}
use Rattle.std.proofs.lemmas.List.Elements.{All-nil, All-cons, All-head, All-tail}
use Rattle.std.specs.List.{list_all}
use Rattle.cost_base.specs.Decimal.{decimal, decimal_value, is_digit}
use Rattle.cost_base.specs.Lists.{same_bytes}
use Rattle.cost_base.specs.declared.Ratio.{Ratio}
use Rattle.cost_base.specs.declared.StepName.{StepName}
use Rattle.cost_base.specs.declared.StepName.TheVariants.{Add, Sub, Mul, Div, Lcm, Scale}
use Rattle.cost_base.specs.Words.{HasNoSpace}
use Rattle.design_problem.specs.declared.form.Row.{Row}
use Rattle.design_problem.specs.declared.tree.Side.{Side}
use Rattle.design_problem.specs.declared.tree.Side.TheVariants.{Low as LowSide, High as HighSide}
use Rattle.design_problem.specs.declared.tree.Member.{Member}
use Rattle.design_problem.specs.declared.tree.Member.TheVariants.{Low, High, Row as ByRow}
use Rattle.design_problem.specs.declared.tree.Entry.{Entry}
use Rattle.design_problem.specs.declared.tree.Entry.TheVariants.{Tighten, Split, Halve, Refute, Undone}
use Rattle.design_problem.specs.declared.tree.WideAt.{WideAt}
use Rattle.design_problem.specs.declared.answer.Verdict.{Verdict}
use Rattle.design_problem.specs.declared.answer.Verdict.TheVariants.{Optimal, Impossible, Undecided}
use Rattle.design_problem.specs.declared.answer.Floor.{Floor}
use Rattle.design_problem.specs.declared.answer.Floor.TheVariants.{Absent, Empty, Var}
use Rattle.design_problem.specs.Text.{spaced, verdict_words, floor_word, row_line, side_word, step_word, integer, ratio_word, members_words, multiplier_words, entry_line}
use Rattle.text_lines.specs.Lines.{grow}
use Rattle.text_lines.specs.Numbers.{split}
use Rattle.text_lines.proofs.Printed.{decimal-digits, decimal_value-decimal}
use Rattle.answer_lines.specs.Words.{entry_words}
use Rattle.answer_lines.proofs.ListParts.{tail-is, not-both}
use Rattle.answer_lines.proofs.EntryWords.{entry_line-words}
use Rattle.answer_lines.proofs.LineEntries.{pieces-entry}
use Rattle.answer_lines.proofs.LineFronts.{split-front}
use Rattle.answer_lines.proofs.LineWords.{row-words}
use Rattle.answer_lines.proofs.SpacedWords.{spaceless-from, decimal-spaceless, split-spaced}
use Rattle.answer_lines.proofs.RatioWords.{integer-unslashed}

-- a word that isn't all digits is no number's
pub no_digits : (w : List ℕ) (n : ℕ) → list_all is_digit w ≡ false → w ≡ decimal n → ⊥
no_digits w n other e = not-both (list_all is_digit w) (ap (list_all is_digit) e ∙ decimal-digits n) other

-- the same first word, and one more behind it
pub second-same : (w a b : List ℕ) → spaced (w ∷ a ∷ []) ≡ spaced (w ∷ b ∷ []) → a ≡ b
second-same w a b e = tail-is 32 32 a b (append_cancel_left w (32 ∷ a) (32 ∷ b) e)

-- the same first word, and words without spaces behind it
pub later-same : (w : List ℕ) (vs us : List (List ℕ)) → All HasNoSpace (w ∷ vs) → All HasNoSpace (w ∷ us) → spaced (w ∷ vs) ≡ spaced (w ∷ us) → vs ≡ us
later-same w vs us first second e = tail-is w w vs us (sym (split-spaced w vs first) ∙ ap (split 32) e ∙ split-spaced w us second)

abbrev verdict_of : List (List ℕ) → Verdict
verdict_of [] = Impossible
verdict_of (a ∷ []) = Impossible
verdict_of (a ∷ b ∷ []) = Optimal (decimal_value b)
verdict_of (a ∷ b ∷ c ∷ rest) = Undecided (decimal_value c)

verdict-back : (verdict : Verdict) → verdict_of (verdict_words verdict) ≡ verdict
verdict-back (Optimal k) = ap Optimal (decimal_value-decimal k)
verdict-back Impossible = refl
verdict-back (Undecided k) = ap Undecided (decimal_value-decimal k)

verdict-spaceless : (verdict : Verdict) → All HasNoSpace (codes "verdict" ∷ verdict_words verdict)
verdict-spaceless verdict = All-cons HasNoSpace (codes "verdict") (verdict_words verdict) (spaceless-from (codes "verdict") refl) (behind verdict)
  where
    number : (n : ℕ) → All HasNoSpace (decimal n ∷ [])
    number n = All-cons HasNoSpace (decimal n) [] (decimal-spaceless n) (All-nil HasNoSpace)

    behind : (verdict : Verdict) → All HasNoSpace (verdict_words verdict)
    behind (Optimal k) = All-cons HasNoSpace (codes "optimal") (decimal k ∷ []) (spaceless-from (codes "optimal") refl) (number k)
    behind Impossible = All-cons HasNoSpace (codes "impossible") [] (spaceless-from (codes "impossible") refl) (All-nil HasNoSpace)
    behind (Undecided k) =
        All-cons HasNoSpace (codes "undecided") (codes "budget" ∷ decimal k ∷ []) (spaceless-from (codes "undecided") refl)
        (All-cons HasNoSpace (codes "budget") (decimal k ∷ []) (spaceless-from (codes "budget") refl) (number k))

pub verdict-same : (v w : Verdict) → spaced (codes "verdict" ∷ verdict_words v) ≡ spaced (codes "verdict" ∷ verdict_words w) → v ≡ w
verdict-same v w e =
    sym (verdict-back v) ∙ ap verdict_of
    (later-same (codes "verdict") (verdict_words v) (verdict_words w) (verdict-spaceless v) (verdict-spaceless w) e)
    ∙ verdict-back w

abbrev floor_of : List ℕ → Floor
floor_of w = cond (list_all is_digit w) (Var (decimal_value w)) (cond (same_bytes w (codes "none")) Absent Empty)

floor-back : (floor : Floor) → floor_of (floor_word floor) ≡ floor
floor-back Absent = refl
floor-back Empty = refl
floor-back (Var v) = rw (decimal-digits v) (ap Var (decimal_value-decimal v))

pub floor-same : (f g : Floor) → floor_word f ≡ floor_word g → f ≡ g
floor-same f g e = sym (floor-back f) ∙ ap floor_of e ∙ floor-back g

numbers-back : (ns : List ℕ) → map decimal_value (map decimal ns) ≡ ns
numbers-back [] = refl
numbers-back (n ∷ ns) = ap (λ m. m ∷ map decimal_value (map decimal ns)) (decimal_value-decimal n) ∙ ap (λ rest. n ∷ rest) (numbers-back ns)

numbers-same : (ns ms : List ℕ) → map decimal ns ≡ map decimal ms → ns ≡ ms
numbers-same ns ms e = sym (numbers-back ns) ∙ ap (map decimal_value) e ∙ numbers-back ms

abbrev row_of : List ℕ → Row
row_of [] = record { request = 0; rival = [] }
row_of (request ∷ edges) = record { request = request; rival = edges }

-- a row's line tells its row
pub row-same : (r s : Row) → row_line r ≡ row_line s → r ≡ s
row-same r s e =
    let words : map decimal (r.request ∷ r.rival) ≡ map decimal (s.request ∷ s.rival) =
    tail-is _ _ _ _ (sym (row-words (row_line r) r refl) ∙ row-words (row_line r) s e) in
    ap row_of (numbers-same (r.request ∷ r.rival) (s.request ∷ s.rival) words)

abbrev side_of : List ℕ → Side
side_of w = cond (same_bytes w (codes "low")) LowSide HighSide

side-back : (side : Side) → side_of (side_word side) ≡ side
side-back LowSide = refl
side-back HighSide = refl

abbrev step_of : List ℕ → StepName
step_of w =
    cond (same_bytes w (codes "add")) Add
    (cond (same_bytes w (codes "sub")) Sub
    (cond (same_bytes w (codes "mul")) Mul
    (cond (same_bytes w (codes "div")) Div (cond (same_bytes w (codes "lcm")) Lcm Scale))))

step-back : (step : StepName) → step_of (step_word step) ≡ step
step-back Add = refl
step-back Sub = refl
step-back Mul = refl
step-back Div = refl
step-back Lcm = refl
step-back Scale = refl

abbrev negative_of : List ℕ → ℤ
negative_of [] = pos 0
negative_of (c ∷ cs) = negsuc (decimal_value cs - 1)

abbrev integer_of : List ℕ → ℤ
integer_of w = cond (list_all is_digit w) (pos (decimal_value w)) (negative_of w)

integer-back : (z : ℤ) → integer_of (integer z) ≡ z
integer-back (pos n) = rw (decimal-digits n) (ap pos (decimal_value-decimal n))
integer-back (negsuc n) =
    let less : n + 1 - 1 ≡ n = omega arith in
    ap (λ m. negsuc (m - 1)) (decimal_value-decimal (n + 1)) ∙ ap negsuc less

-- a word without a byte is its only piece
split-only : (c : ℕ) (w : List ℕ) → All (λ x. eqb x c ≡ false) w → split c w ≡ w ∷ []
split-only c [] others = refl
split-only c (d ∷ ds) others =
    let other : eqb d c ≡ false = All-head (λ x. eqb x c ≡ false) d ds others in
    rw other (ap (grow d) (split-only c ds (All-tail (λ x. eqb x c ≡ false) d ds others)))

abbrev ratio : ℤ → ℤ → Ratio
ratio a b = record { numerator = a; denominator = b }

abbrev ratio_of_pieces : List (List ℕ) → Ratio
ratio_of_pieces [] = ratio (pos 0) (pos 0)
ratio_of_pieces (a ∷ []) = ratio (pos 0) (pos 0)
ratio_of_pieces (a ∷ b ∷ rest) = ratio (integer_of a) (integer_of b)

abbrev ratio_of : List ℕ → Ratio
ratio_of w = ratio_of_pieces (split 47 w)

ratio-back : (q : Ratio) → ratio_of (ratio_word q) ≡ q
ratio-back q =
    let above : List ℕ = integer q.numerator in
    let below : List ℕ = integer q.denominator in
    let cut : split 47 (ratio_word q) ≡ above ∷ below ∷ [] =
    split-front 47 above below (integer-unslashed q.numerator) ∙ ap (λ l. above ∷ l) (split-only 47 below (integer-unslashed q.denominator)) in
    ap ratio_of_pieces cut ∙ together (integer_of above) q.numerator (integer_of below) q.denominator (integer-back q.numerator) (integer-back q.denominator)
  where
    together : (a c b d : ℤ) → a ≡ c → b ≡ d → ratio a b ≡ ratio c d
    together a c b d first second = ap (λ x. ratio x b) first ∙ ap (ratio c) second

-- the members that words say
abbrev members_of : List (List ℕ) → List Member
members_of [] = []
members_of (k ∷ []) = []
members_of (k ∷ v ∷ []) = ByRow (decimal_value v) ∷ []
members_of (k ∷ v ∷ b ∷ rest) =
    cond (same_bytes k (codes "row")) (ByRow (decimal_value v) ∷ members_of (b ∷ rest))
    (cond (same_bytes k (codes "low")) (Low (decimal_value v) (decimal_value b)) (High (decimal_value v) (decimal_value b)) ∷ members_of rest)

bound-back : (form : ℕ → ℕ → Member) (v b : ℕ) → form (decimal_value (decimal v)) (decimal_value (decimal b)) ≡ form v b
bound-back form v b = ap (λ x. form x (decimal_value (decimal b))) (decimal_value-decimal v) ∙ ap (form v) (decimal_value-decimal b)

members-back : (ms : List Member) → members_of (members_words ms) ≡ ms
members-back [] = refl
members-back (Low v b ∷ ms) = ap (λ m. m ∷ members_of (members_words ms)) (bound-back Low v b) ∙ ap (λ l. Low v b ∷ l) (members-back ms)
members-back (High v b ∷ ms) = ap (λ m. m ∷ members_of (members_words ms)) (bound-back High v b) ∙ ap (λ l. High v b ∷ l) (members-back ms)
members-back (ByRow row ∷ []) = ap (λ r. ByRow r ∷ []) (decimal_value-decimal row)
members-back (ByRow row ∷ Low v b ∷ ms) =
    ap (λ r. ByRow r ∷ members_of (members_words (Low v b ∷ ms))) (decimal_value-decimal row)
    ∙ ap (λ l. ByRow row ∷ l) (members-back (Low v b ∷ ms))
members-back (ByRow row ∷ High v b ∷ ms) =
    ap (λ r. ByRow r ∷ members_of (members_words (High v b ∷ ms))) (decimal_value-decimal row)
    ∙ ap (λ l. ByRow row ∷ l) (members-back (High v b ∷ ms))
members-back (ByRow row ∷ ByRow s ∷ ms) =
    ap (λ r. ByRow r ∷ members_of (members_words (ByRow s ∷ ms))) (decimal_value-decimal row)
    ∙ ap (λ l. ByRow row ∷ l) (members-back (ByRow s ∷ ms))

abbrev parts_of : List (List ℕ) → List (ℕ × ℕ)
parts_of [] = []
parts_of (a ∷ []) = []
parts_of (a ∷ b ∷ rest) = (decimal_value a, decimal_value b) ∷ parts_of rest

parts-back : (ps : List (ℕ × ℕ)) → parts_of (multiplier_words ps) ≡ ps
parts-back [] = refl
parts-back (p ∷ ps) =
    ap (λ x. (x, decimal_value (decimal p.1)) ∷ parts_of (multiplier_words ps)) (decimal_value-decimal p.0)
    ∙ ap (λ y. (p.0, y) ∷ parts_of (multiplier_words ps)) (decimal_value-decimal p.1) ∙ ap (λ l. p ∷ l) (parts-back ps)

abbrev wide_at : StepName → Ratio → Ratio → List Member → WideAt
wide_at step left right basis = record { step = step; left = left; right = right; basis = basis }

abbrev tighten_of : List (List ℕ) → Entry
tighten_of (v ∷ side ∷ b ∷ row ∷ []) = Tighten (decimal_value v) (side_of side) (decimal_value b) (decimal_value row)
tighten_of _ = Undone

abbrev split_of : List (List ℕ) → Entry
split_of (v ∷ b ∷ []) = Split (decimal_value v) (decimal_value b)
split_of _ = Undone

abbrev halve_of : List (List ℕ) → Entry
halve_of (v ∷ b ∷ step ∷ left ∷ right ∷ basis) =
    Halve (decimal_value v) (decimal_value b)
    (wide_at (step_of step) (ratio_of left) (ratio_of right) (members_of basis))
halve_of _ = Undone

-- the entry that words say
abbrev entry_of : List (List ℕ) → Entry
entry_of [] = Undone
entry_of (k ∷ ws) =
    cond (same_bytes k (codes "tighten")) (tighten_of ws) (cond (same_bytes k (codes "split")) (split_of ws)
    (cond (same_bytes k (codes "halve")) (halve_of ws) (cond (same_bytes k (codes "refute")) (Refute (parts_of ws)) Undone)))

entry-back : (entry : Entry) → entry_of (entry_words entry) ≡ entry
entry-back (Tighten v side b row) =
    ap (λ x. Tighten x (side_of (side_word side)) (decimal_value (decimal b)) (decimal_value (decimal row))) (decimal_value-decimal v)
    ∙ ap (λ s. Tighten v s (decimal_value (decimal b)) (decimal_value (decimal row))) (side-back side)
    ∙ ap (λ x. Tighten v side x (decimal_value (decimal row))) (decimal_value-decimal b)
    ∙ ap (Tighten v side b) (decimal_value-decimal row)
entry-back (Split v b) = ap (λ x. Split x (decimal_value (decimal b))) (decimal_value-decimal v) ∙ ap (Split v) (decimal_value-decimal b)
entry-back (Halve v b wide) =
    let basis : List Member = members_of (members_words wide.basis) in
    ap (λ x. Halve x (decimal_value (decimal b))
    (wide_at (step_of (step_word wide.step)) (ratio_of (ratio_word wide.left)) (ratio_of (ratio_word wide.right))
    basis)) (decimal_value-decimal v)
    ∙ ap (λ x. Halve v x (wide_at (step_of (step_word wide.step)) (ratio_of (ratio_word wide.left))
    (ratio_of (ratio_word wide.right)) basis)) (decimal_value-decimal b)
    ∙ ap (λ s. Halve v b (wide_at s (ratio_of (ratio_word wide.left)) (ratio_of (ratio_word wide.right)) basis)) (step-back wide.step)
    ∙ ap (λ q. Halve v b (wide_at wide.step q (ratio_of (ratio_word wide.right)) basis)) (ratio-back wide.left)
    ∙ ap (λ q. Halve v b (wide_at wide.step wide.left q basis)) (ratio-back wide.right)
    ∙ ap (λ l. Halve v b (wide_at wide.step wide.left wide.right l)) (members-back wide.basis)
entry-back (Refute parts) = ap Refute (parts-back parts)
entry-back Undone = refl

-- a tree line tells its entry
pub entry-same : (e f : Entry) → entry_line e ≡ entry_line f → e ≡ f
entry-same e f same =
    let words : entry_words e ≡ entry_words f =
    sym (pieces-entry e) ∙ ap (split 32) (sym (entry_line-words e) ∙ same ∙ entry_line-words f) ∙ pieces-entry f in
    sym (entry-back e) ∙ ap entry_of words ∙ entry-back f
