-- Lines that are begun, and what may go on with them. No public clause cites it.
use Rattle.std.specs.Prelude.{◌≡◌, ◌≢◌, ℕ, ◌+◌, ◌*◌, ◌^◌, ◌<◌, ◌≤◌, List, [], ◌∷◌, ◌++◌, All, length, ◌⊎◌, Option, MatchOption, codes}
use Rattle.cost_base.specs.Decimal.{decimal}
use Rattle.text_lines.specs.Numbers.{split}
use Rattle.whole_numbers.specs.Fractions.{gcd}
use Rattle.cost_base.specs.declared.Ratio.{Ratio}
use Rattle.cost_base.specs.declared.StepName.{StepName}
use Rattle.cost_base.specs.declared.StepName.TheVariants.{Mul, Div, Lcm, Scale}
use Rattle.design_problem.specs.declared.tree.Side.{Side}
use Rattle.design_problem.specs.declared.tree.Member.{Member}
use Rattle.design_problem.specs.declared.tree.Entry.{Entry}
use Rattle.design_problem.specs.AnswerRanges.{BoundsMember}
use Rattle.design_problem.specs.Text.{side_word, step_word, ratio_word, member_words, members_words, multiplier_words, IsPrintedRatio}
use Rattle.answer_lines.specs.Words.{SaysEntry}
use Rattle.begun_lines.specs.declared.begun.Begun.{Begun}
use Rattle.begun_lines.specs.declared.numbers.Numbers.{Numbers}

-- a text with some bytes more, for which there is room, has words of a kind
abbrev pub GoesOn : (List (List ℕ) → Type 0) → List ℕ → ℕ → Type 0
GoesOn said text room = (more : List ℕ) × said (split 32 (text ++ more)) × (length more ≤ room)

-- a begun line may become words of this kind in the room that it has
abbrev pub Becomes : (List (List ℕ) → Type 0) → Begun → Type 0
Becomes said line = GoesOn said line.text.now line.room

-- the line is a word of one kind, and behind it words of another
abbrev pub Then : (List ℕ → Type 0) → (List (List ℕ) → Type 0) → List (List ℕ) → Type 0
Then word said [] = ⊥
Then word said (w ∷ ws) = word w × said ws

-- the line is one word of this kind
abbrev pub Alone : (List ℕ → Type 0) → List (List ℕ) → Type 0
Alone word [] = ⊥
Alone word (w ∷ []) = word w
Alone word (w ∷ v ∷ vs) = ⊥

-- no byte more makes a word of the kind
abbrev pub Never : (List ℕ → Type 0) → List ℕ → Type 0
Never word begun = (more : List ℕ) → word (begun ++ more) → ⊥

-- a begun word lacks just so many bytes: so many more make a word of the kind, and no fewer do
pub record IsLeastCompletion (word : List ℕ → Type 0) (begun : List ℕ) (count : ℕ) : Type 0 where
  pub more : List ℕ
  pub fits : word (begun ++ more)
  pub count_is : length more ≡ count
  pub least : (other : List ℕ) → word (begun ++ other) → count ≤ length other

-- how many bytes a begun word still lacks
abbrev pub IsMissing : (List ℕ → Type 0) → List ℕ → Option ℕ → Type 0
IsMissing word begun found = MatchOption found (Never word begun) (IsLeastCompletion word begun)

-- a begun line behind one more word: the line before goes on with a word of the kind and more words exactly where the
-- line after goes on with these
pub record IsWordStep (word : List ℕ → Type 0) (before after : Begun) : Type 0 where
  pub forth : (more w : List ℕ) (ws : List (List ℕ)) → word w → ws ≢ [] → split 32 (before.text.now ++ more) ≡ w ∷ ws → length more ≤ before.room →
      (left : List ℕ) × (ws ≡ split 32 (after.text.now ++ left)) × (length left ≤ after.room)
  pub back : (left : List ℕ) → length left ≤ after.room →
      (more w : List ℕ) × word w × (split 32 (before.text.now ++ more) ≡ w ∷ split 32 (after.text.now ++ left)) × (length more ≤ before.room)

-- no word of the kind, with words behind it, goes on with a begun line
abbrev pub IsNoStep : (List ℕ → Type 0) → Begun → Type 0
IsNoStep word before =
    (more w : List ℕ) (ws : List (List ℕ)) → word w → ws ≢ [] → split 32 (before.text.now ++ more) ≡ w ∷ ws → length more ≤ before.room → ⊥

-- a number of a range that has no divisor in common with another
pub record IsCoprimeInRange (numbers : Numbers) (n : ℕ) : Type 0 where
  pub least : numbers.least ≤ n
  pub greatest : n ≤ numbers.greatest
  pub coprime : gcd numbers.coprime_to n ≡ 1

-- the decimal digits of a number of a range that has no divisor in common with another
abbrev pub IsNumberInRange : Numbers → List ℕ → Type 0
IsNumberInRange numbers w = (n : ℕ) × IsCoprimeInRange numbers n × (w ≡ decimal n)

-- a number is another with so many more digits
abbrev pub Extends : ℕ → ℕ → ℕ → Type 0
Extends begun digits n = (begun * 10 ^ digits ≤ n) × (n < begun * 10 ^ digits + 10 ^ digits)

-- the numbers of a range, whatever their divisors
abbrev pub range : ℕ → ℕ → Numbers
range least greatest = record { least = least; greatest = greatest; coprime_to = 1 }

-- the word of a fraction
abbrev pub IsRatio : List ℕ → Type 0
IsRatio w = (q : Ratio) × IsPrintedRatio q × (w ≡ ratio_word q)

-- the word of a side: `low` or `high`
abbrev pub IsSide : List ℕ → Type 0
IsSide w = (side : Side) × (w ≡ side_word side)

-- the word of a step
abbrev pub IsStepWord : List ℕ → Type 0
IsStepWord w = (step : StepName) × (w ≡ step_word step)

-- the word of one of two steps
abbrev pub IsEitherStep : StepName → StepName → List ℕ → Type 0
IsEitherStep first second w = (w ≡ step_word first) ⊎ (w ≡ step_word second)

-- the word of a product, a quotient, a least common multiple or a scale
abbrev pub IsLaterStep : List ℕ → Type 0
IsLaterStep w = IsEitherStep Mul Div w ⊎ IsEitherStep Lcm Scale w

-- the numbers of 32 bits, which number variables
abbrev pub vars : Numbers
vars = range 0 4294967295

-- the numbers of 16 bits, which are bounds
abbrev pub values : Numbers
values = range 0 65535

-- the numbers of rows from this one on
abbrev pub rows_from : ℕ → Numbers
rows_from least = range least 18446744073709551615

-- the numbers of at most 31 digits from 1 on, which are multipliers
abbrev pub multiplier_range : Numbers
multiplier_range = range 1 9999999999999999999999999999999

-- the words of an Undone
abbrev pub UndoneWords : List (List ℕ) → Type 0
UndoneWords ws = Alone (λ w. w ≡ codes "open") ws

-- the words of a Split
abbrev pub SplitWords : List (List ℕ) → Type 0
SplitWords ws = Then (λ w. w ≡ codes "split") (Then (IsNumberInRange vars) (Alone (IsNumberInRange values))) ws

-- what follows the side of a Tighten
abbrev pub BoundWords : List (List ℕ) → Type 0
BoundWords ws = Then (IsNumberInRange values) (Alone (IsNumberInRange (rows_from 0))) ws

-- the words of a Tighten
abbrev pub TightenWords : List (List ℕ) → Type 0
TightenWords ws = Then (λ w. w ≡ codes "tighten") (Then (IsNumberInRange vars) (Then IsSide BoundWords)) ws

-- rows that rise from a number on, with their multipliers
abbrev pub IsRising : ℕ → List (ℕ × ℕ) → Type 0
IsRising least [] = Unit {0}
IsRising least (part ∷ parts) = IsCoprimeInRange (rows_from least) part.0 × IsCoprimeInRange multiplier_range part.1 × IsRising (part.0 + 1) parts

-- some rows that rise from a number on, with their multipliers
abbrev pub PartsWords : ℕ → List (List ℕ) → Type 0
PartsWords least ws = (parts : List (ℕ × ℕ)) × (parts ≢ []) × IsRising least parts × (ws ≡ multiplier_words parts)

-- the words of a Refute
abbrev pub RefuteWords : List (List ℕ) → Type 0
RefuteWords ws = Then (λ w. w ≡ codes "refute") (PartsWords 0) ws

-- the words of a member of a basis
abbrev pub MemberWords : List (List ℕ) → Type 0
MemberWords ws = (member : Member) × BoundsMember member × (ws ≡ member_words member)

-- the words of a row's member of a basis: `row`, and the row's number
abbrev pub RowWords : List (List ℕ) → Type 0
RowWords ws = Then (λ w. w ≡ codes "row") (Alone (IsNumberInRange (rows_from 0))) ws

-- what follows the side of a bound in a basis: a variable and the bound
abbrev pub EndWords : List (List ℕ) → Type 0
EndWords ws = Then (IsNumberInRange vars) (Alone (IsNumberInRange values)) ws

-- the words of the members of a basis, at least one
abbrev pub MembersWords : List (List ℕ) → Type 0
MembersWords ws = (members : List Member) × (members ≢ []) × All BoundsMember members × (ws ≡ members_words members)

-- what follows the step of a Halve
abbrev pub BasisWords : List (List ℕ) → Type 0
BasisWords ws = Then IsRatio (Then IsRatio MembersWords) ws

-- the words of a Halve
abbrev pub HalveWords : List (List ℕ) → Type 0
HalveWords ws = Then (λ w. w ≡ codes "halve") (Then (IsNumberInRange vars) (Then (IsNumberInRange values) (Then IsStepWord BasisWords))) ws

-- the words of an entry without a subtree
abbrev pub LeafWords : List (List ℕ) → Type 0
LeafWords ws = RefuteWords ws ⊎ UndoneWords ws

-- the words of an entry with two subtrees
abbrev pub PartingWords : List (List ℕ) → Type 0
PartingWords ws = SplitWords ws ⊎ HalveWords ws

-- the words of an entry with a subtree or two
abbrev pub ParentWords : List (List ℕ) → Type 0
ParentWords ws = TightenWords ws ⊎ PartingWords ws

-- the words of any entry
abbrev pub EntryWords : List (List ℕ) → Type 0
EntryWords ws = (entry : Entry) × SaysEntry ws entry
