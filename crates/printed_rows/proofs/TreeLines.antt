-- The lines of a tree are short enough: each is some words, and each word some digits.
use Rattle.std.proofs.Common.{◌≡◌, ℕ, ◌+◌, ◌*◌, ◌^◌, ◌<◌, ◌≤◌, sym, subst, List, [], ◌∷◌, ◌++◌, length, length-append, arith}
use Rattle.std.specs.Prelude.{ℤ, pos, negsuc, nat_abs, codes, All, slice_index, slice_index_or}
use Rattle.std.specs.List.{AllByRecursion}
use Rattle.std.proofs.lemmas.List.Elements.{All-nil, All-cons, All-head, All-tail}
use Rattle.cost_base.specs.Decimal.{decimal}
use Rattle.cost_base.specs.declared.StepName.{StepName}
use Rattle.cost_base.specs.declared.StepName.TheVariants.{Add, Sub, Mul, Div, Lcm, Scale}
use Rattle.cost_base.specs.declared.Ratio.{Ratio}
use Rattle.cost_base.proofs.ListLemmas.{each_append}
use Rattle.text_lines.proofs.Digits.{length-decimal-le}
use Rattle.text_lines.proofs.WordLists.{room}
use Rattle.area_graph.specs.declared.Point.{Point}
use Rattle.design_problem.specs.declared.form.Form.{Form}
use Rattle.design_problem.specs.declared.boxes.CostBox.{CostBox}
use Rattle.design_problem.specs.declared.tree.Side.{Side}
use Rattle.design_problem.specs.declared.tree.Side.TheVariants.{Low as LowSide, High as HighSide}
use Rattle.design_problem.specs.declared.tree.Member.{Member}
use Rattle.design_problem.specs.declared.tree.Member.TheVariants.{Low as ByLow, High as ByHigh, Row as ByRow}
use Rattle.design_problem.specs.declared.tree.WideAt.{WideAt}
use Rattle.design_problem.specs.declared.tree.Entry.{Entry}
use Rattle.design_problem.specs.declared.tree.Entry.TheVariants.{Tighten, Split, Halve, Refute, Undone}
use Rattle.design_problem.specs.declared.answer.CapTree.{CapTree}
use Rattle.design_problem.specs.Basis.{IsFormOf}
use Rattle.design_problem.specs.Boxes.{IsBox}
use Rattle.design_problem.specs.Trees.{SoundAt, subboxes}
use Rattle.design_problem.specs.Earnest.{OpenPlace, Earnest, EarnestAt, IsEarnestTree, subplaces}
use Rattle.design_problem.specs.Text.{FitsEntry, IsPrintedRatio, entry_line, integer, member_words, members_words, multiplier_words, ratio_word, side_word, spaced, step_word}
use Rattle.design_problem.proofs.BoxParts.{IsBoxIn, part_whole, subboxes_in}
use Rattle.design_problem.proofs.OpenPlaces.{boxes_of, same_boxes}
use Rattle.design_problem.specs.SearchTrees.{IsShort}
use Rattle.printed_rows.specs.FittingTexts.{IsTextLine}
use Rattle.printed_rows.specs.NamedRows.{MemberBelow, NamesBelow}

-- a tree that can be printed
pub record IsPrintable (t : CapTree) : Type 0 where
  pub cap : t.cap ≤ 65535
  pub count : length t.tree < 2 ^ 32
  pub entries : All FitsEntry t.tree
  pub lines : All (λ entry. IsTextLine (entry_line entry)) t.tree

pub spaced-le : (words : List (List ℕ)) → length (spaced words) ≤ room words
spaced-le [] = omega arith
spaced-le (word ∷ []) = omega arith
spaced-le (word ∷ next ∷ words) = let rest = spaced-le (next ∷ words) in omega (arith, length-append word (32 ∷ spaced (next ∷ words)))

room-append : (words more : List (List ℕ)) → room (words ++ more) ≡ room words + room more
room-append [] more = omega arith
room-append (word ∷ words) more = let rest = room-append words more in omega arith

pub thing_digits : (n : ℕ) → n < 2 ^ 32 → length (decimal n) ≤ 10
thing_digits n small = length-decimal-le 10 n (omega arith) (omega arith)

pub cost_digits : (n : ℕ) → n ≤ 65535 → length (decimal n) ≤ 5
cost_digits n small = length-decimal-le 5 n (omega arith) (omega arith)

pub row_digits : (n : ℕ) → n < 2 ^ 64 → length (decimal n) ≤ 20
row_digits n small = length-decimal-le 20 n (omega arith) (omega arith)

integer_digits : (z : ℤ) → nat_abs z < 2 ^ 127 → length (integer z) ≤ 40
integer_digits (pos n) small = length-decimal-le 40 n (omega arith) (omega arith)
integer_digits (negsuc n) small = let digits = length-decimal-le 39 (n + 1) (omega arith) (omega arith) in omega arith

ratio_digits : (q : Ratio) → IsPrintedRatio q → length (ratio_word q) ≤ 81
ratio_digits q printed =
    let numerator = integer_digits printed.fraction.numerator printed.numerator in
    let denominator = integer_digits (pos printed.fraction.denominator) printed.denominator in
    subst (λ (r : Ratio). length (ratio_word r) ≤ 81) (sym printed.same)
    (omega (arith, length-append (integer printed.fraction.numerator) (47 ∷ integer (pos printed.fraction.denominator))))

-- a member has few digits
abbrev FitsMember : Member → Type 0
FitsMember (ByLow var value) = (var < 2 ^ 32) × (value ≤ 65535)
FitsMember (ByHigh var value) = (var < 2 ^ 32) × (value ≤ 65535)
FitsMember (ByRow row) = row < 2 ^ 64

member_room : (member : Member) → FitsMember member → room (member_words member) ≤ 27
member_room (ByLow var value) fits = omega (arith, thing_digits var fits.0, cost_digits value fits.1)
member_room (ByHigh var value) fits = omega (arith, thing_digits var fits.0, cost_digits value fits.1)
member_room (ByRow row) fits = omega (arith, row_digits row fits)

members_room : (members : List Member) → All FitsMember members → room (members_words members) ≤ 27 * length members
members_room [] fits = omega arith
members_room (member ∷ members) fits =
    let here = member_room member (All-head FitsMember member members fits) in
    let rest = members_room members (All-tail FitsMember member members fits) in
    omega (arith, room-append (member_words member) (members_words members))

abbrev FitsPart : ℕ × ℕ → Type 0
FitsPart part = (part.0 < 2 ^ 64) × (part.1 < 10 ^ 31)

parts_room : (parts : List (ℕ × ℕ)) → All FitsPart parts → room (multiplier_words parts) ≤ 53 * length parts
parts_room [] fits = omega arith
parts_room (part ∷ parts) fits =
    let here = All-head FitsPart part parts fits in
    let rest = parts_room parts (All-tail FitsPart part parts fits) in
    let row = row_digits part.0 here.0 in
    let multiplier = length-decimal-le 31 part.1 (omega arith) here.1 in
    omega arith

side_digits : (side : Side) → length (side_word side) ≤ 4
side_digits LowSide = omega arith
side_digits HighSide = omega arith

step_digits : (step : StepName) → length (step_word step) ≤ 5
step_digits Add = omega arith
step_digits Sub = omega arith
step_digits Mul = omega arith
step_digits Div = omega arith
step_digits Lcm = omega arith
step_digits Scale = omega arith

tighten_line : (var : ℕ) (side : Side) (value row : ℕ) → var < 2 ^ 32 → value ≤ 65535 → row < 2 ^ 64 → IsTextLine (entry_line (Tighten var side value row))
tighten_line var side value row few low known =
    let words = spaced-le (codes "tighten" ∷ decimal var ∷ side_word side ∷ decimal value ∷ decimal row ∷ []) in
    omega (arith, thing_digits var few, side_digits side, cost_digits value low, row_digits row known)

split_line : (var value : ℕ) → var < 2 ^ 32 → value ≤ 65535 → IsTextLine (entry_line (Split var value))
split_line var value few low =
    let words = spaced-le (codes "split" ∷ decimal var ∷ decimal value ∷ []) in
    omega (arith, thing_digits var few, cost_digits value low)

halve_line : (var value : ℕ) (wide : WideAt) → var < 2 ^ 32 → value ≤ 65535 → IsPrintedRatio wide.left →
    IsPrintedRatio wide.right → All FitsMember wide.basis → length wide.basis ≤ 1000 →
    IsTextLine (entry_line (Halve var value wide))
halve_line var value wide few low left right members count =
    let words = spaced-le (codes "halve" ∷ decimal var ∷ decimal value ∷ step_word wide.step ∷ ratio_word wide.left
    ∷ ratio_word wide.right ∷ members_words wide.basis) in
    omega (
      arith,
      thing_digits var few,
      cost_digits value low,
      step_digits wide.step,
      ratio_digits wide.left left,
      ratio_digits wide.right right,
      members_room wide.basis members,
    )

refute_line : (parts : List (ℕ × ℕ)) → All FitsPart parts → length parts ≤ 1001 → IsTextLine (entry_line (Refute parts))
refute_line parts fits count =
    let words = spaced-le (codes "refute" ∷ multiplier_words parts) in
    omega (arith, parts_room parts fits)

-- bounds of the box that a tree stands over
pub record IsCostBounds (n : ℕ) (box : CostBox) : Type 0 where
  pub few : n ≤ 1000
  pub is_box : IsBox n box
  pub most : (k : ℕ) → k < length box.high → slice_index box.high k ≤ 65535

high_cost : (n : ℕ) (outer box : CostBox) (var : ℕ) → IsCostBounds n outer → IsBoxIn n outer box → var < length box.low → slice_index box.high var ≤ 65535
high_cost n outer box var bounds kept known =
    let within : var < length box.high = omega (arith, kept.is_box.low_count, kept.is_box.high_count) in
    let here = kept.is_part.high var within in
    let there = bounds.most var (omega (arith, kept.is_part.high_count)) in
    omega arith

var_few : (n : ℕ) (outer box : CostBox) (var : ℕ) → IsCostBounds n outer → IsBoxIn n outer box → var < length box.low → var < 2 ^ 32
var_few n outer box var bounds kept known = omega (arith, bounds.few, kept.is_box.low_count)

member_fits : (n rows : ℕ) (outer box : CostBox) (forms : List Form) (member : Member) → IsCostBounds n outer →
    IsBoxIn n outer box → rows < 2 ^ 64 → IsFormOf box forms member → MemberBelow rows member → FitsMember member
member_fits n rows outer box forms (ByLow var value) bounds kept some is names =
    let high = high_cost n outer box var bounds kept is.0 in
    let ordered = kept.is_box.ordered var (omega (arith, kept.is_box.low_count, is.0)) in
    (var_few n outer box var bounds kept is.0, omega (arith, is.1))
member_fits n rows outer box forms (ByHigh var value) bounds kept some is names =
    let high = high_cost n outer box var bounds kept is.0 in
    (var_few n outer box var bounds kept is.0, omega (arith, is.1))
member_fits n rows outer box forms (ByRow row) bounds kept some is names = omega (arith, names)

-- the line of an entry
entry_short : (accepts : Point → Type 0) (top n rows : ℕ) (forms : List Form) (outer : CostBox) (place : OpenPlace)
    (entry : Entry) → IsCostBounds n outer → rows < 2 ^ 64 → IsBoxIn n outer place.box → SoundAt forms place.box entry →
    EarnestAt accepts top forms place entry → IsShort n entry → NamesBelow rows entry → IsTextLine (entry_line entry)
entry_short accepts top n rows forms outer place (Tighten var LowSide value row) bounds some kept sound earnest short names =
    let high = high_cost n outer place.box var bounds kept sound.var_known in
    tighten_line var LowSide value row (var_few n outer place.box var bounds kept sound.var_known) (omega (arith, sound.smaller.1)) (omega (arith, names))
entry_short accepts top n rows forms outer place (Tighten var HighSide value row) bounds some kept sound earnest short names =
    let high = high_cost n outer place.box var bounds kept sound.var_known in
    tighten_line var HighSide value row (var_few n outer place.box var bounds kept sound.var_known) (omega (arith, sound.smaller.1)) (omega (arith, names))
entry_short accepts top n rows forms outer place (Split var value) bounds some kept sound earnest short names =
    let high = high_cost n outer place.box var bounds kept sound.var_known in
    split_line var value (var_few n outer place.box var bounds kept sound.var_known) (omega (arith, sound.below))
entry_short accepts top n rows forms outer place (Halve var value wide) bounds some kept sound earnest short names =
    let high = high_cost n outer place.box var bounds kept sound.var_known in
    halve_line var value wide (var_few n outer place.box var bounds kept sound.var_known) (omega (arith, sound.below)) short.0.0 short.0.1
    (λ k d k_in. member_fits n rows outer place.box forms (slice_index_or wide.basis k d) bounds kept some (earnest.table.members k d k_in) (names k d k_in))
    (omega (arith, earnest.table.count, kept.is_box.low_count, bounds.few))
entry_short accepts top n rows forms outer place (Refute parts) bounds some kept sound earnest short names =
    refute_line parts (λ k d k_in. (let below = names k d k_in in omega arith, short.0.1 k d k_in)) (omega (arith, short.1, bounds.few))
entry_short accepts top n rows forms outer place Undone bounds some kept sound earnest short names = omega arith

-- the lines of the entries
entries_short : (accepts : Point → Type 0) (top n rows : ℕ) (forms : List Form) (outer : CostBox) (places : List OpenPlace)
    (entries : List Entry) → IsCostBounds n outer → rows < 2 ^ 64 → AllByRecursion (IsBoxIn n outer) (boxes_of places) →
    Earnest accepts top forms places entries → All (IsShort n) entries → All (NamesBelow rows) entries →
    All (λ entry. IsTextLine (entry_line entry)) entries
entries_short accepts top n rows forms outer [] [] bounds some kept earnest short names = All-nil (λ (entry : Entry). IsTextLine (entry_line entry))
entries_short accepts top n rows forms outer (p ∷ places) [] bounds some kept earnest short names = absurd earnest
entries_short accepts top n rows forms outer [] (e ∷ entries) bounds some kept earnest short names = absurd earnest
entries_short accepts top n rows forms outer (p ∷ places) (e ∷ entries) bounds some kept earnest short names =
    All-cons (λ (entry : Entry). IsTextLine (entry_line entry)) e entries
    (entry_short accepts top n rows forms outer p e bounds some kept.0 earnest.0 earnest.1
    (All-head (IsShort n) e entries short) (All-head (NamesBelow rows) e entries names))
    (entries_short accepts top n rows forms outer (subplaces p e ++ places) entries bounds some
    (subst (AllByRecursion (IsBoxIn n outer)) (sym (same_boxes p e places))
    (each_append (IsBoxIn n outer) (subboxes p.box e) (boxes_of places)
    (subboxes_in n outer forms p.box e kept.0 earnest.0) kept.1))
    earnest.2 (All-tail (IsShort n) e entries short) (All-tail (NamesBelow rows) e entries names))

-- the lines of an earnest tree with short entries over a box of costs
pub tree_short : (accepts : Point → Type 0) (top n rows : ℕ) (forms : List Form) (box : CostBox) (tree : List Entry) →
    IsCostBounds n box → rows < 2 ^ 64 → IsEarnestTree accepts top forms box tree → All (IsShort n) tree →
    All (NamesBelow rows) tree → All (λ entry. IsTextLine (entry_line entry)) tree
tree_short accepts top n rows forms box tree bounds some earnest short names =
    entries_short accepts top n rows forms box (record { box = box; since = [] } ∷ []) tree bounds some
    (record { is_box = bounds.is_box; is_part = part_whole box }, tt) earnest short names
