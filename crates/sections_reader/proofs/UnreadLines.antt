-- Lines that nobody reads.
use Rattle.std.proofs.Common.{◌≡◌, ℕ, ◌+◌, List, [], ◌∷◌, ◌++◌, Bool, cond, true, false, codes, refl, sym, ap, subst, ◌∙◌, append_assoc, append-nil}
use Rattle.std.specs.Prelude.{IsTrue, ◌↔◌}
use Rattle.cost_base.specs.Lists.{same_bytes}
use Rattle.text_lines.specs.Lines.{IsOneLine}
use Rattle.answer_lines.specs.Grammar.{AtUnread, behind_end, behind_unread}
use Rattle.answer_lines.specs.Lawful.{IsRead}
use Rattle.answer_lines.specs.Places.{LacksLawful, BeginsLawful}
use Rattle.answer_lines.proofs.LineFronts.{not-one}

-- one line is passed
any-passed : (more before after : ℕ) (bytes line left : List ℕ) → bytes ≡ line ++ 10 ∷ left → IsOneLine line → after ≡ before + 1 →
    IsRead (AtUnread more) before bytes (line ∷ []) (behind_unread more line) after left
any-passed more before after bytes line left parts one count =
    record {
      lead = (behind_unread more line, record { is = (one, refl); short = tt }, refl);
      parts = parts ∙ sym (append_assoc line (10 ∷ []) left) ∙ ap (λ t. t ++ left) (sym (append-nil (line ++ 10 ∷ [])));
      count = count;
    }

-- a line `end` is passed
pub end-passed : (more : ℕ) {before after : ℕ} {bytes : List ℕ} (line left : List ℕ) → same_bytes line (codes "end") ≡ true →
    bytes ≡ line ++ 10 ∷ left → IsOneLine line → after ≡ before + 1 →
    IsRead (AtUnread more) before bytes (line ∷ []) (behind_end more) after left
end-passed more {before} {after} {bytes} line left is parts one count =
    subst (λ (b : Bool). IsRead (AtUnread more) before bytes (line ∷ []) (cond b (behind_end more) (AtUnread more)) after left) is
    (any-passed more before after bytes line left parts one count)

-- another line is passed
pub other-passed : (more : ℕ) {before after : ℕ} {bytes : List ℕ} (line left : List ℕ) → same_bytes line (codes "end") ≡ false →
    bytes ≡ line ++ 10 ∷ left → IsOneLine line → after ≡ before + 1 →
    IsRead (AtUnread more) before bytes (line ∷ []) (AtUnread more) after left
other-passed more {before} {after} {bytes} line left isnt parts one count =
    subst (λ (b : Bool). IsRead (AtUnread more) before bytes (line ∷ []) (cond b (behind_end more) (AtUnread more)) after left) isnt
    (any-passed more before after bytes line left parts one count)

-- what has no LF begins a line that nobody reads
pub unread-begun : (more : ℕ) (rest : List ℕ) → IsOneLine rest → IsTrue true ↔ BeginsLawful (AtUnread more) rest
unread-begun more rest one = (
  λ _. ([], (behind_unread more (rest ++ []), record { is = (subst IsOneLine (sym (append-nil rest)) one, refl); short = tt })),
  λ _. refl,
)

-- and has no whole line
pub unread-lacks : (more : ℕ) (rest : List ℕ) → IsOneLine rest → LacksLawful (AtUnread more) rest
unread-lacks more rest one line left parts other lawful = not-one line left (subst IsOneLine parts one)
