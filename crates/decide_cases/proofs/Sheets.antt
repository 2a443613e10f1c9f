-- A sheet of two rows: a halving's basis and refutations name them. With a row that nothing names, without a row that
-- is named, and with a row twice it is none; with one row, and the form of a total behind it, it is a sheet again.
use Rattle.std.proofs.Common.{◌≡◌, ◌≢◌, ℕ, zero, suc, ◌<◌, refl, List, [], ◌∷◌, arith, true}
use Rattle.std.specs.Prelude.{pos, All, AllPairs}
use Rattle.std.proofs.lemmas.Bool.{false≢true}
use Rattle.std.proofs.lemmas.List.Elements.{All-nil, All-cons}
use Rattle.cost_base.specs.declared.StepName.TheVariants.{Add}
use Rattle.design_problem.specs.declared.tree.Member.{Member}
use Rattle.design_problem.specs.declared.tree.Member.TheVariants.{Low, Row}
use Rattle.design_problem.specs.declared.tree.Entry.{Entry}
use Rattle.design_problem.specs.declared.tree.Entry.TheVariants.{Halve, Refute}
use Rattle.printed_rows.specs.NamedRows.{EachMember, NamesBelow, is_row_named}
use Rattle.printed_rows.specs.Sheets.{IsSheet}

-- a box is halved at a basis that has row 0; row 1 refutes the one half, and both rows the other

abbrev halving : Entry
halving = Halve 0 5 (record {
  step = Add;
  left = record { numerator = pos 1; denominator = pos 1 };
  right = record { numerator = pos 1; denominator = pos 1 };
  basis = Low 0 1 ∷ Row 0 ∷ [];
})

abbrev by_one : Entry
by_one = Refute ((1, 1) ∷ [])

abbrev by_both : Entry
by_both = Refute ((0, 2) ∷ (1, 3) ∷ [])

abbrev halved : List Entry
halved = halving ∷ by_one ∷ by_both ∷ []

-- rows are numbers here, and those below 10 are true
abbrev IsSmall : ℕ → Type 0
IsSmall row = row < 10

abbrev IsSheetOf : ℕ → List ℕ → Type 0
IsSheetOf behind rows = IsSheet IsSmall (λ a b. a ≢ b) behind rows halved

small_two : All IsSmall (7 ∷ 9 ∷ [])
small_two = All-cons IsSmall 7 (9 ∷ []) (omega arith) (All-cons IsSmall 9 [] (omega arith) (All-nil IsSmall))

apart_two : AllPairs {X = ℕ} (λ a b. a ≢ b) (7 ∷ 9 ∷ [])
apart_two (suc i) (suc (suc j)) d before within = absurd (omega arith)
apart_two (suc i) (suc zero) d before within = absurd (omega arith)
apart_two i zero d before within = absurd (omega arith)
apart_two zero (suc zero) d before within = λ same. absurd (omega (arith, same))
apart_two zero (suc (suc j)) d before within = absurd (omega arith)

named_two : (row : ℕ) → row < 2 → is_row_named halved row ≡ true
named_two zero within = refl
named_two (suc zero) within = refl
named_two (suc (suc row)) within = absurd (omega arith)

part_below : (n : ℕ) (part : ℕ × ℕ) → part.0 < n → NamesBelow n (Refute (part ∷ []))
part_below n part within = All-cons (λ (p : ℕ × ℕ). p.0 < n) part [] within (All-nil (λ (p : ℕ × ℕ). p.0 < n))

names_two : All (NamesBelow 2) halved
names_two =
    let Below : ℕ × ℕ → Type 0 = λ part. part.0 < 2 in
    let Within : Member → Type 0 = EachMember (λ row. row < 2) in
    All-cons (NamesBelow 2) halving (by_one ∷ by_both ∷ [])
    (All-cons Within (Low 0 1) (Row 0 ∷ []) tt (All-cons Within (Row 0) [] (omega arith) (All-nil Within)))
    (All-cons (NamesBelow 2) by_one (by_both ∷ []) (part_below 2 (1, 1) (omega arith))
    (All-cons (NamesBelow 2) by_both [] (All-cons Below (0, 2) ((1, 3) ∷ []) (omega arith) (part_below 2 (1, 3) (omega arith)))
    (All-nil (NamesBelow 2))))

two_rows : IsSheetOf 0 (7 ∷ 9 ∷ [])
two_rows = record { true_rows = small_two; once = apart_two; used = named_two; printed = names_two }

-- row 2 is named by nothing
unnamed_row : IsSheetOf 0 (7 ∷ 9 ∷ 8 ∷ []) → ⊥
unnamed_row sheet = false≢true (sheet.used 2 (omega arith))

-- row 1 isn't printed
missing_row : IsSheetOf 0 (7 ∷ []) → ⊥
missing_row sheet = let named : 1 < 1 = sheet.printed 1 (Refute []) (omega arith) 0 (0, 0) (omega arith) in absurd (omega (arith, named))

-- row 1 is row 0 again
row_twice : IsSheetOf 0 (7 ∷ 7 ∷ []) → ⊥
row_twice sheet = sheet.once 0 1 0 (omega arith) (omega arith) refl

-- row 1 isn't true
false_row : IsSheetOf 0 (7 ∷ 10 ∷ []) → ⊥
false_row sheet = let is : 10 < 10 = sheet.true_rows 1 0 (omega arith) in absurd (omega (arith, is))

named_one : (row : ℕ) → row < 1 → is_row_named halved row ≡ true
named_one zero within = refl
named_one (suc row) within = absurd (omega arith)

alone : AllPairs {X = ℕ} (λ a b. a ≢ b) (7 ∷ [])
alone i j d before within = absurd (omega arith)

-- number 1 is that of the form of the total
total_behind : IsSheetOf 1 (7 ∷ [])
total_behind = record { true_rows = All-cons IsSmall 7 [] (omega arith) (All-nil IsSmall); once = alone; used = named_one; printed = names_two }
