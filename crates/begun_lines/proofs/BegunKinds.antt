-- The kinds of begun tree lines.
use Rattle.std.proofs.Common.{◌≡◌, ℕ, suc, ◌+◌, ◌<◌, ◌≤◌, ◌^◌, List, [], ◌∷◌, ◌++◌, All, length, codes, Bool, true, false, IsTrue, ◌↔◌, refl, sym, ap, subst, ◌∙◌, arith, inl, inr, length-append}
use Rattle.std.specs.Prelude.{◌⊎◌}
use Rattle.std.proofs.lemmas.List.Elements.{All-nil, All-cons, All-head, All-tail, All-weaker}
use Rattle.std.proofs.lemmas.List.Kept.{AllPairs-cons}
use Rattle.cost_base.specs.Decimal.{decimal}
use Rattle.cost_base.specs.declared.StepName.{StepName}
use Rattle.cost_base.specs.declared.StepName.TheVariants.{Add, Sub, Mul, Div, Lcm, Scale}
use Rattle.design_problem.specs.declared.tree.Side.{Side}
use Rattle.design_problem.specs.declared.tree.Side.TheVariants.{Low as LowSide, High as HighSide}
use Rattle.design_problem.specs.declared.tree.Member.{Member}
use Rattle.design_problem.specs.declared.tree.Member.TheVariants.{Low, High, Row}
use Rattle.design_problem.specs.declared.tree.Entry.{Entry}
use Rattle.design_problem.specs.declared.tree.Entry.TheVariants.{Tighten, Split, Halve, Refute, Undone}
use Rattle.design_problem.specs.AnswerRanges.{IsIndex, IsCost, IsRowNumber, BoundsMember, BoundsParts, BoundsEntry}
use Rattle.design_problem.specs.Text.{side_word, step_word, ratio_word, member_words, members_words, multiplier_words, entry_line, spaced, FitsEntry}
use Rattle.text_lines.specs.Numbers.{split}
use Rattle.whole_numbers.proofs.Divisors.{one-gcd}
use Rattle.evidence_text.specs.declared.TreePart.{TreePart}
use Rattle.answer_lines.specs.Grammar.{AtTree}
use Rattle.answer_lines.specs.Places.{BeginsLawful}
use Rattle.answer_lines.specs.Words.{entry_words}
use Rattle.begun_lines.specs.BegunLines.{GoesOn, Then, Alone, IsCoprimeInRange, IsNumberInRange, IsSide, IsStepWord, IsEitherStep, IsLaterStep, IsRatio, range, vars, values, rows_from, IsRising, UndoneWords, SplitWords, BoundWords, TightenWords, LeafWords, ParentWords, PartsWords, RefuteWords, RowWords, EndWords, MemberWords, MembersWords, BasisWords, HalveWords, EntryWords}
use Rattle.design_problem.specs.Trees.{subtree_count}
use Rattle.begun_lines.proofs.BegunWords.{alone_is}
use Rattle.answer_lines.proofs.EntryWords.{entry_line-words}
use Rattle.answer_lines.proofs.LineEntries.{pieces-entry}
use Rattle.answer_lines.proofs.SpacedWords.{spaced-split}
use Rattle.answer_lines.proofs.ListParts.{not-both}

-- a number up to the greatest of a range
upto : (greatest n : ℕ) → n ≤ greatest → IsCoprimeInRange (range 0 greatest) n
upto greatest n le = record { least = omega arith; greatest = le; coprime = one-gcd n }

-- words of one kind where those of another are
pub goes_as : {first second : List (List ℕ) → Type 0} → ((ws : List (List ℕ)) → first ws → second ws) →
    (text : List ℕ) (room : ℕ) → GoesOn first text room → GoesOn second text room
goes_as {first} {second} to text room on = (on.0, to (split 32 (text ++ on.0)) on.1, on.2)

-- where the first of two tests holds
pub first_holds : {said first : List (List ℕ) → Type 0} → ((ws : List (List ℕ)) → first ws → said ws) →
    (text : List ℕ) (room : ℕ) (a : Bool) → a ≡ true → IsTrue a ↔ GoesOn first text room →
    IsTrue a ↔ GoesOn said text room
first_holds {said} {first} to text room a is h = (λ _. goes_as to text room (h.0 is), λ _. is)

-- where the first of two tests fails
pub first_fails : {said first second : List (List ℕ) → Type 0} →
    ((ws : List (List ℕ)) → said ws → first ws ⊎ second ws) → ((ws : List (List ℕ)) → second ws → said ws) →
    (text : List ℕ) (room : ℕ) (a b : Bool) →
    a ≡ false → IsTrue a ↔ GoesOn first text room → IsTrue b ↔ GoesOn second text room → IsTrue b ↔ GoesOn said text room
first_fails {said} {first} {second} from to text room a b isnt h k = (λ is. goes_as to text room (k.0 is), λ on. cases on (from (split 32 (text ++ on.0)) on.1))
  where
    cases : (on : GoesOn said text room) → first (split 32 (text ++ on.0)) ⊎ second (split 32 (text ++ on.0)) → IsTrue b
    cases on (inl one) = absurd (not-both a (h.1 (on.0, one, on.2)) isnt)
    cases on (inr two) = k.1 (on.0, two, on.2)

-- a word of a kind, with the same words behind it
pub then_as : {first second : List ℕ → Type 0} (said : List (List ℕ) → Type 0) → ((w : List ℕ) → first w → second w) →
    (ws : List (List ℕ)) → Then first said ws → Then second said ws
then_as said to [] is = is
then_as said to (w ∷ ws) is = (to w is.0, is.1)

pub then_either : {word first second : List ℕ → Type 0} (said : List (List ℕ) → Type 0) →
    ((w : List ℕ) → word w → first w ⊎ second w) → (ws : List (List ℕ)) → Then word said ws →
    Then first said ws ⊎ Then second said ws
then_either said from [] is = absurd is
then_either {word} {first} {second} said from (w ∷ ws) is = cases (from w is.0)
  where
    cases : first w ⊎ second w → Then first said (w ∷ ws) ⊎ Then second said (w ∷ ws)
    cases (inl one) = inl (one, is.1)
    cases (inr two) = inr (two, is.1)

-- a side is one of two
pub either_side : (w : List ℕ) → IsSide w → (w ≡ side_word LowSide) ⊎ (w ≡ side_word HighSide)
either_side w is = cases is.0 is.1
  where
    cases : (side : Side) → w ≡ side_word side → (w ≡ side_word LowSide) ⊎ (w ≡ side_word HighSide)
    cases LowSide e = inl e
    cases HighSide e = inr e

-- a step is one of six
pub either_step : (w : List ℕ) → IsStepWord w → IsEitherStep Add Sub w ⊎ IsLaterStep w
either_step w is = cases is.0 is.1
  where
    cases : (step : StepName) → w ≡ step_word step → IsEitherStep Add Sub w ⊎ IsLaterStep w
    cases Add e = inl (inl e)
    cases Sub e = inl (inr e)
    cases Mul e = inr (inl (inl e))
    cases Div e = inr (inl (inr e))
    cases Lcm e = inr (inr (inl e))
    cases Scale e = inr (inr (inr e))

pub one_of_two : (first second : StepName) (w : List ℕ) → IsEitherStep first second w → IsStepWord w
one_of_two first second w (inl e) = (first, e)
one_of_two first second w (inr e) = (second, e)

pub one_of_four : (w : List ℕ) → IsLaterStep w → IsStepWord w
one_of_four w (inl is) = one_of_two Mul Div w is
one_of_four w (inr is) = one_of_two Lcm Scale w is

-- rows that rise are those of a Refute
rising-from : (least : ℕ) (ps : List (ℕ × ℕ)) → All (λ p. least ≤ p.0) ps → BoundsParts ps → All (λ p. p.1 < 10 ^ 31) ps → IsRising least ps
rising-from least [] above bounds small = tt
rising-from least (p ∷ ps) above bounds small = (
  record { least = All-head (λ q. least ≤ q.0) p ps above; greatest = omega (arith, All-head (λ q. IsRowNumber q.0) p ps bounds.rows); coprime = one-gcd p.0 },
  record {
    least = omega (arith, All-head (λ q. 0 < q.1) p ps bounds.positive);
    greatest = omega (arith, All-head (λ q. q.1 < 10 ^ 31) p ps small);
    coprime = one-gcd p.1;
  },
  rising-from (p.0 + 1) ps (λ i d within. omega (arith, bounds.rising 0 (suc i) d (omega arith) (omega arith)))
      (record {
        rows = All-tail (λ q. IsRowNumber q.0) p ps bounds.rows;
        rising = λ i j d before within. bounds.rising (suc i) (suc j) d (omega arith) (omega arith);
        positive = All-tail (λ q. 0 < q.1) p ps bounds.positive;
      })
      (All-tail (λ q. q.1 < 10 ^ 31) p ps small),
)

-- what rising rows say of each
record Rising (least : ℕ) (ps : List (ℕ × ℕ)) : Type 0 where
  above : All (λ p. least ≤ p.0) ps
  bounds : BoundsParts ps
  small : All (λ p. p.1 < 10 ^ 31) ps

rising-to : (least : ℕ) (ps : List (ℕ × ℕ)) → IsRising least ps → Rising least ps
rising-to least [] is = record {
  above = All-nil (λ p. least ≤ p.0);
  bounds = record { rows = All-nil (λ p. IsRowNumber p.0); rising = λ i j d before within. absurd (omega arith); positive = All-nil (λ p. 0 < p.1) };
  small = All-nil (λ p. p.1 < 10 ^ 31);
}
rising-to least (p ∷ ps) is =
    let rest = rising-to (p.0 + 1) ps is.2 in
    let one : p.0 < 2 ^ 64 = omega (arith, is.0.greatest) in
    let some : 0 < p.1 = omega (arith, is.1.least) in
    let few : p.1 < 10 ^ 31 = omega (arith, is.1.greatest) in
    record {
      above = All-cons (λ q. least ≤ q.0) p ps is.0.least
          (All-weaker (λ q. p.0 + 1 ≤ q.0) (λ q. least ≤ q.0) (λ q le. omega (arith, le, is.0.least)) ps rest.above);
      bounds = record {
        rows = All-cons (λ q. IsRowNumber q.0) p ps one rest.bounds.rows;
        rising = AllPairs-cons (λ a b. a.0 < b.0) p ps
            (All-weaker (λ q. p.0 + 1 ≤ q.0) (λ q. p.0 < q.0) (λ q le. omega (arith, le)) ps rest.above)
            rest.bounds.rising;
        positive = All-cons (λ q. 0 < q.1) p ps some rest.bounds.positive;
      };
      small = All-cons (λ q. q.1 < 10 ^ 31) p ps few rest.small;
    }

-- words of a member
pub member_kinds : (ws : List (List ℕ)) → MemberWords ws → RowWords ws ⊎ Then IsSide EndWords ws
member_kinds ws is = cases is.0 is.1 is.2
  where
    cases : (m : Member) → BoundsMember m → ws ≡ member_words m → RowWords ws ⊎ Then IsSide EndWords ws
    cases (Low v b) bounds e =
        inr (subst (Then IsSide EndWords) (sym e) (
          (LowSide, refl),
          (
            (v, upto 4294967295 v (omega (arith, bounds.0)), refl),
            (b, upto 65535 b (omega (arith, bounds.1)), refl),
          ),
        ))
    cases (High v b) bounds e =
        inr (subst (Then IsSide EndWords) (sym e) (
          (HighSide, refl),
          (
            (v, upto 4294967295 v (omega (arith, bounds.0)), refl),
            (b, upto 65535 b (omega (arith, bounds.1)), refl),
          ),
        ))
    cases (Row row) bounds e = inl (subst RowWords (sym e) (refl, (row, upto 18446744073709551615 row (omega (arith, bounds)), refl)))

-- the first word of words, and those behind it
record FirstOf (word : List ℕ → Type 0) (said : List (List ℕ) → Type 0) (ws : List (List ℕ)) : Type 0 where
  w : List ℕ
  rest : List (List ℕ)
  first : word w
  left : said rest
  is : ws ≡ w ∷ rest

first_of : (word : List ℕ → Type 0) (said : List (List ℕ) → Type 0) (ws : List (List ℕ)) → Then word said ws → FirstOf word said ws
first_of word said [] is = absurd is
first_of word said (w ∷ ws) is = record { w = w; rest = ws; first = is.0; left = is.1; is = refl }

joined : (ws rest vs : List (List ℕ)) (w v : List ℕ) → ws ≡ w ∷ rest → w ≡ v → rest ≡ vs → ws ≡ v ∷ vs
joined ws rest vs w v is same left = is ∙ ap (λ x. x ∷ rest) same ∙ ap (λ l. v ∷ l) left

pub row_member : (ws : List (List ℕ)) → RowWords ws → MemberWords ws
row_member ws is =
    let name = first_of (λ w. w ≡ codes "row") (Alone (IsNumberInRange (rows_from 0))) ws is in
    let row = alone_is (IsNumberInRange (rows_from 0)) name.rest name.left in (
      Row row.1.0,
      omega (arith, row.1.1.greatest),
      joined ws name.rest (decimal row.1.0 ∷ []) name.w (codes "row") name.is name.first
          (row.2 ∙ ap (λ w. w ∷ []) row.1.2),
    )

pub bound_member : (ws : List (List ℕ)) → Then IsSide EndWords ws → MemberWords ws
bound_member ws is =
    let name = first_of IsSide EndWords ws is in
    let var = first_of (IsNumberInRange vars) (Alone (IsNumberInRange values)) name.rest name.left in
    let value = alone_is (IsNumberInRange values) var.rest var.left in
    let numbers : name.rest ≡ decimal var.first.0 ∷ decimal value.1.0 ∷ [] =
    joined name.rest var.rest (decimal value.1.0 ∷ []) var.w (decimal var.first.0) var.is var.first.2 (value.2 ∙ ap (λ w. w ∷ []) value.1.2) in
    member name.first.0 var.first.0 value.1.0 (omega (arith, var.first.1.greatest)) (omega (arith, value.1.1.greatest))
    (joined ws name.rest (decimal var.first.0 ∷ decimal value.1.0 ∷ []) name.w (side_word name.first.0) name.is name.first.1 numbers)
  where
    member : (side : Side) (v b : ℕ) → IsIndex v → IsCost b → ws ≡ side_word side ∷ decimal v ∷ decimal b ∷ [] → MemberWords ws
    member LowSide v b small few e = (Low v b, (small, few), e)
    member HighSide v b small few e = (High v b, (small, few), e)

-- words of an entry, by its subtrees
pub entry_kinds : (ws : List (List ℕ)) → EntryWords ws → LeafWords ws ⊎ ParentWords ws
entry_kinds ws is = cases is.0 is.1.bounds is.1.fits is.1.is
  where
    cases : (entry : Entry) → BoundsEntry entry → FitsEntry entry → ws ≡ entry_words entry → LeafWords ws ⊎ ParentWords ws
    cases (Tighten v side b row) bounds fits e =
        let var : IsNumberInRange vars (decimal v) = (v, upto 4294967295 v (omega (arith, bounds.0)), refl) in
        let value : IsNumberInRange values (decimal b) = (b, upto 65535 b (omega (arith, bounds.1)), refl) in
        let last : IsNumberInRange (rows_from 0) (decimal row) = (row, upto 18446744073709551615 row (omega (arith, bounds.2)), refl) in
        let name : IsSide (side_word side) = (side, refl) in
        inr (inl (subst TightenWords (sym e) (refl, (var, (name, (value, last))))))
    cases (Split v b) bounds fits e =
        let var : IsNumberInRange vars (decimal v) = (v, upto 4294967295 v (omega (arith, bounds.0)), refl) in
        let value : IsNumberInRange values (decimal b) = (b, upto 65535 b (omega (arith, bounds.1)), refl) in
        inr (inr (inl (subst SplitWords (sym e) (refl, (var, value)))))
    cases (Halve v b wide) bounds fits e =
        let var : IsNumberInRange vars (decimal v) = (v, upto 4294967295 v (omega (arith, bounds.0)), refl) in
        let value : IsNumberInRange values (decimal b) = (b, upto 65535 b (omega (arith, bounds.1)), refl) in
        let step : IsStepWord (step_word wide.step) = (wide.step, refl) in
        let left : IsRatio (ratio_word wide.left) = (wide.left, fits.0, refl) in
        let right : IsRatio (ratio_word wide.right) = (wide.right, fits.1, refl) in
        let members : MembersWords (members_words wide.basis) = (wide.basis, fits.2, bounds.2, refl) in
        inr (inr (inr (subst HalveWords (sym e) (refl, (var, (value, (step, (left, (right, members)))))))))
    cases (Refute ps) bounds fits e =
        let parts : PartsWords 0 (multiplier_words ps) = (ps, fits.0, rising-from 0 ps (λ i d within. omega arith) bounds fits.1, refl) in
        inl (inl (subst RefuteWords (sym e) (refl, parts)))
    cases Undone bounds fits e = inl (inr (subst UndoneWords (sym e) refl))

tighten_entry : (ws : List (List ℕ)) → TightenWords ws → EntryWords ws
tighten_entry ws is =
    let name = first_of (λ w. w ≡ codes "tighten") (Then (IsNumberInRange vars) (Then IsSide BoundWords)) ws is in
    let var = first_of (IsNumberInRange vars) (Then IsSide BoundWords) name.rest name.left in
    let side = first_of IsSide BoundWords var.rest var.left in
    let value = first_of (IsNumberInRange values) (Alone (IsNumberInRange (rows_from 0))) side.rest side.left in
    let row = alone_is (IsNumberInRange (rows_from 0)) value.rest value.left in (
      Tighten var.first.0 side.first.0 value.first.0 row.1.0,
      record {
        bounds = (omega (arith, var.first.1.greatest), omega (arith, value.first.1.greatest), omega (arith, row.1.1.greatest));
        fits = tt;
        is =
            joined ws name.rest _ name.w (codes "tighten") name.is name.first
            (joined name.rest var.rest _ var.w _ var.is var.first.2
            (joined var.rest side.rest _ side.w _ side.is side.first.1
            (joined side.rest value.rest _ value.w _ value.is value.first.2 (row.2 ∙ ap (λ w. w ∷ []) row.1.2))));
      },
    )

split_entry : (ws : List (List ℕ)) → SplitWords ws → EntryWords ws
split_entry ws is =
    let name = first_of (λ w. w ≡ codes "split") (Then (IsNumberInRange vars) (Alone (IsNumberInRange values))) ws is in
    let var = first_of (IsNumberInRange vars) (Alone (IsNumberInRange values)) name.rest name.left in
    let value = alone_is (IsNumberInRange values) var.rest var.left in (
      Split var.first.0 value.1.0,
      record {
        bounds = (omega (arith, var.first.1.greatest), omega (arith, value.1.1.greatest));
        fits = tt;
        is = joined ws name.rest _ name.w (codes "split") name.is name.first
            (joined name.rest var.rest _ var.w _ var.is var.first.2 (value.2 ∙ ap (λ w. w ∷ []) value.1.2));
      },
    )

halve_entry : (ws : List (List ℕ)) → HalveWords ws → EntryWords ws
halve_entry ws is =
    let name = first_of (λ w. w ≡ codes "halve") (Then (IsNumberInRange vars) (Then (IsNumberInRange values) (Then IsStepWord BasisWords))) ws is in
    let var = first_of (IsNumberInRange vars) (Then (IsNumberInRange values) (Then IsStepWord BasisWords)) name.rest name.left in
    let value = first_of (IsNumberInRange values) (Then IsStepWord BasisWords) var.rest var.left in
    let step = first_of IsStepWord BasisWords value.rest value.left in
    let left = first_of IsRatio (Then IsRatio MembersWords) step.rest step.left in
    let right = first_of IsRatio MembersWords left.rest left.left in
    let members = right.left in (
      Halve var.first.0 value.first.0 (record { step = step.first.0; left = left.first.0; right = right.first.0; basis = members.0 }),
      record {
        bounds = (omega (arith, var.first.1.greatest), omega (arith, value.first.1.greatest), members.2);
        fits = (left.first.1, right.first.1, members.1);
        is =
            joined ws name.rest _ name.w (codes "halve") name.is name.first
            (joined name.rest var.rest _ var.w _ var.is var.first.2
            (joined var.rest value.rest _ value.w _ value.is value.first.2
            (joined value.rest step.rest _ step.w _ step.is step.first.1
            (joined step.rest left.rest _ left.w _ left.is left.first.2 (joined left.rest right.rest _ right.w _ right.is right.first.2 members.3)))));
      },
    )

refute_entry : (ws : List (List ℕ)) → RefuteWords ws → EntryWords ws
refute_entry ws is =
    let name = first_of (λ w. w ≡ codes "refute") (PartsWords 0) ws is in
    let parts = name.left in
    let rising = rising-to 0 parts.0 parts.2 in (
      Refute parts.0,
      record {
        bounds = rising.bounds;
        fits = (parts.1, rising.small);
        is = joined ws name.rest (multiplier_words parts.0) name.w (codes "refute") name.is name.first parts.3;
      },
    )

pub leaf_entry : (ws : List (List ℕ)) → LeafWords ws → EntryWords ws
leaf_entry ws (inl is) = refute_entry ws is
leaf_entry ws (inr is) =
    let name = alone_is (λ w. w ≡ codes "open") ws is in
    (Undone, record { bounds = tt; fits = tt; is = name.2 ∙ ap (λ w. w ∷ []) name.1 })

pub parent_entry : (ws : List (List ℕ)) → ParentWords ws → EntryWords ws
parent_entry ws (inl is) = tighten_entry ws is
parent_entry ws (inr (inl is)) = split_entry ws is
parent_entry ws (inr (inr is)) = halve_entry ws is

-- a lawful tree line, by its words
pub begins_by_words : (part : TreePart) (places left : ℕ) (rest : List ℕ) (room : ℕ) → length rest + room ≡ 65536 →
    (r : Bool) → IsTrue r ↔ GoesOn EntryWords rest room → IsTrue r ↔ BeginsLawful (AtTree part (suc places) (suc left)) rest
begins_by_words part places left rest room size r h = (λ is. forth (h.0 is), λ on. h.1 (back on))
  where
    forth : GoesOn EntryWords rest room → BeginsLawful (AtTree part (suc places) (suc left)) rest
    forth on =
        let entry = on.1.0 in
        let says = on.1.1 in
        let line : rest ++ on.0 ≡ entry_line entry = sym (spaced-split (rest ++ on.0)) ∙ ap spaced says.is ∙ sym (entry_line-words entry) in (
          on.0,
          (
            AtTree part (subtree_count entry + places) left,
            record {
              is = record { entry = entry; bounds = says.bounds; fits = says.fits; is = line; leads = refl };
              short = omega (arith, size, on.2, length-append rest on.0);
            },
          ),
        )

    back : BeginsLawful (AtTree part (suc places) (suc left)) rest → GoesOn EntryWords rest room
    back on =
        let leads = on.1.1 in
        let entry = leads.is.entry in (
          on.0,
          (entry, record { bounds = leads.is.bounds; fits = leads.is.fits; is = ap (split 32) (leads.is.is ∙ entry_line-words entry) ∙ pieces-entry entry }),
          omega (arith, size, leads.short, length-append rest on.0),
        )

-- a line that is too long begins none
pub too_long : (part : TreePart) (places left : ℕ) (rest : List ℕ) → 65536 < length rest →
    IsTrue false ↔ BeginsLawful (AtTree part (suc places) (suc left)) rest
too_long part places left rest long = (λ no. absurd (cc), λ on. absurd (omega (arith, long, on.1.1.short, length-append rest on.0)))
