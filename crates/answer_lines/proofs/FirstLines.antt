-- The first line of a text, where it is lawful and where it isn't.
use Rattle.std.proofs.Common.{◌≡◌, ℕ, ◌+◌, ◌≤◌, List, [], ◌∷◌, ◌++◌, length, refl, sym, ap, subst, ◌∙◌, arith, append_assoc, append-nil}
use Rattle.text_lines.specs.Lines.{IsOneLine}
use Rattle.answer_lines.specs.Grammar.{TextPlace, AtHead, AtVerdict, AtCosts, AtSections, AtInterface, AtCost, AtExit, AtFloor, AtRows, AtRow, AtTree, AtEnd, AfterEnd, AtOtherHead, AtInnerHead, AtOtherVerdict, AtOtherCosts, AtSectionsEnd, AtUnread, Next}
use Rattle.answer_lines.specs.Lawful.{HasLineRoom, IsRead}
use Rattle.answer_lines.specs.Places.{IsFirstInText, LacksFirst, LacksLawful}
use Rattle.answer_lines.proofs.LineFronts.{first-one}

-- a short line has room at each place
pub has-room : (place : TextPlace) (line : List ℕ) → length line ≤ 65536 → HasLineRoom place line
has-room AtHead line short = short
has-room AtVerdict line short = short
has-room AtCosts line short = short
has-room (AtSections text before) line short = short
has-room (AtInterface text router) line short = short
has-room (AtCost text router) line short = short
has-room (AtExit text router) line short = short
has-room AtFloor line short = short
has-room AtRows line short = short
has-room (AtRow left) line short = short
has-room (AtTree part places left) line short = short
has-room AtEnd line short = short
has-room AfterEnd line short = short
has-room (AtOtherHead text) line short = short
has-room AtInnerHead line short = short
has-room (AtOtherVerdict text) line short = short
has-room (AtOtherCosts text) line short = short
has-room (AtSectionsEnd text) line short = short
has-room (AtUnread more) line short = tt

-- at the place lines are read: they have at most 65,536 bytes
abbrev pub AreReadAt : TextPlace → Type 0
AreReadAt place = (line : List ℕ) → HasLineRoom place line → length line ≤ 65536

-- where lines are read, a text without a short first line has no lawful one
pub lacks-short : (place : TextPlace) (bytes : List ℕ) → AreReadAt place → LacksFirst bytes → LacksLawful place bytes
lacks-short place bytes read h line left parts one lawful = h line left (record { parts = parts; one = one; short = read line lawful.1.short })

-- a text whose first line isn't in the grammar has no lawful one
pub lacks-first : (place : TextPlace) (bytes line left : List ℕ) → IsFirstInText bytes line left → ((next : TextPlace) → Next place line next → ⊥) →
    LacksLawful place bytes
lacks-first place bytes line left first off other more parts one lawful =
    let same : line ≡ other = (first-one bytes line other left more first parts one).0 in
    off lawful.0 (subst (λ l. Next place l lawful.0) (sym same) lawful.1.is)

-- where one line alone is in the grammar, and isn't the first, no lawful one is
pub lacks-wanted : (place : TextPlace) (bytes wanted : List ℕ) → AreReadAt place →
    ((line : List ℕ) (next : TextPlace) → Next place line next → line ≡ wanted) →
    ((left : List ℕ) → IsFirstInText bytes wanted left → ⊥) → LacksLawful place bytes
lacks-wanted place bytes wanted read only h line left parts one lawful =
    let same : line ≡ wanted = only line lawful.0 lawful.1.is in
    h left (record {
      parts = parts ∙ ap (λ l. l ++ 10 ∷ left) same;
      one = subst IsOneLine same one;
      short = subst (λ l. length l ≤ 65536) same (read line lawful.1.short);
    })

-- one line is read
pub read-one : (from to : TextPlace) (before after : ℕ) (bytes line left : List ℕ) → IsFirstInText bytes line left →
    Next from line to → after ≡ before + 1 → IsRead from before bytes (line ∷ []) to after left
read-one from to before after bytes line left first is count =
    record {
      lead = (to, record { is = is; short = has-room from line first.short }, refl);
      parts = first.parts ∙ sym (append_assoc line (10 ∷ []) left) ∙ ap (λ t. t ++ left) (sym (append-nil (line ++ 10 ∷ [])));
      count = count;
    }

-- nothing is read
pub read-none : (from : TextPlace) (before : ℕ) (bytes : List ℕ) → IsRead from before bytes [] from before bytes
read-none from before bytes = record { lead = refl; parts = refl; count = omega arith }
