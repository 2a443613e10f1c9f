-- Texts cut at the first of some byte, and lines.
use Rattle.std.proofs.Common.{◌≡◌, ◌≢◌, ℕ, zero, suc, ◌-◌, ◌<◌, ◌≤◌, List, [], ◌∷◌, ◌++◌, length, get_or, take, drop, eqb, Bool, cond, true, false, refl, sym, ap, ◌∙◌, arith, length-take, length-drop, append-nil}
use Rattle.std.proofs.lemmas.Bool.{false_from_ne_true, eqb-true}
use Rattle.text_lines.specs.Lines.{lines, grow}
use Rattle.text_lines.specs.Numbers.{split}
use Rattle.text_lines.specs.Reading.{IsFirstLine}

-- the byte c stands at no place before k
abbrev pub LacksBefore : ℕ → List ℕ → ℕ → Type 0
LacksBefore c s k = (j : ℕ) → j < k → eqb (get_or s j 0) c ≡ true → ⊥

-- pieces of a text whose first c is known
pub split-at : (c : ℕ) (s : List ℕ) (k : ℕ) → k < length s → LacksBefore c s k → eqb (get_or s k 0) c ≡ true → split c s ≡ take k s ∷ split c (drop (suc k) s)
split-at c [] k within lacks here = absurd (omega arith)
split-at c (x ∷ xs) zero within lacks here = rw here
split-at c (x ∷ xs) (suc k) within lacks here =
    let other : eqb x c ≡ false = false_from_ne_true (eqb x c) (λ e. lacks 0 (omega arith) e) in
    rw other (ap (grow x) (split-at c xs k (omega arith) (λ j below e. lacks (suc j) (omega arith) e) here))

-- a text without c is one piece
pub split-none : (c : ℕ) (s : List ℕ) → LacksBefore c s (length s) → split c s ≡ s ∷ []
split-none c [] lacks = refl
split-none c (x ∷ xs) lacks =
    let other : eqb x c ≡ false = false_from_ne_true (eqb x c) (λ e. lacks 0 (omega arith) e) in
    rw other (ap (grow x) (split-none c xs (λ j below e. lacks (suc j) (omega arith) e)))

-- lines of a text whose first LF is known
pub lines-at : (s : List ℕ) (k : ℕ) → k < length s → LacksBefore 10 s k → eqb (get_or s k 0) 10 ≡ true → lines s ≡ take k s ∷ lines (drop (suc k) s)
lines-at [] k within lacks here = absurd (omega arith)
lines-at (x ∷ xs) zero within lacks here = rw here
lines-at (x ∷ xs) (suc k) within lacks here =
    let other : eqb x 10 ≡ false = false_from_ne_true (eqb x 10) (λ e. lacks 0 (omega arith) e) in
    rw other (ap (grow x) (lines-at xs k (omega arith) (λ j below e. lacks (suc j) (omega arith) e) here))

-- a text without LF that isn't empty is one line
pub lines-none : (s : List ℕ) → s ≢ [] → LacksBefore 10 s (length s) → lines s ≡ s ∷ []
lines-none [] some lacks = absurd (some refl)
lines-none (x ∷ []) some lacks =
    let other : eqb x 10 ≡ false = false_from_ne_true (eqb x 10) (λ e. lacks 0 (omega arith) e) in
    rw other
lines-none (x ∷ y ∷ ys) some lacks =
    let other : eqb x 10 ≡ false = false_from_ne_true (eqb x 10) (λ e. lacks 0 (omega arith) e) in
    rw other (ap (grow x) (lines-none (y ∷ ys) (λ e. cc) (λ j below e. lacks (suc j) (omega arith) e)))

-- a text around the byte at a place
pub parts_at : (c : ℕ) (s : List ℕ) (k : ℕ) → k < length s → eqb (get_or s k 0) c ≡ true → s ≡ take k s ++ c ∷ drop (suc k) s
parts_at c [] k within here = absurd (omega arith)
parts_at c (x ∷ xs) zero within here = ap (λ b. b ∷ xs) (eqb-true x c here)
parts_at c (x ∷ xs) (suc k) within here = ap (λ bytes. x ∷ bytes) (parts_at c xs k (omega arith) here)

-- a text is cut behind its first LF
pub first_line-at : (s : List ℕ) (k : ℕ) → k < length s → LacksBefore 10 s k → eqb (get_or s k 0) 10 ≡ true → IsFirstLine s (take k s) true (drop (suc k) s)
first_line-at s k within lacks here =
    record {
      first = lines-at s k within lacks here;
      parts = parts_at 10 s k within here;
      last = λ no. absurd (cc);
      shorter = omega (arith, length-take k s, length-drop (suc k) s);
      smaller = omega (arith, length-drop (suc k) s);
    }

-- a text without LF is its first line
pub first_line-none : (s : List ℕ) → s ≢ [] → LacksBefore 10 s (length s) → IsFirstLine s s false []
first_line-none [] some lacks = absurd (some refl)
first_line-none (x ∷ xs) some lacks =
    record {
      first = lines-none (x ∷ xs) some lacks;
      parts = ap (λ bytes. x ∷ bytes) (sym (append-nil xs));
      last = λ _. refl;
      shorter = omega arith;
      smaller = omega arith;
    }

-- a text that is cut has a piece
pub split-some : (c : ℕ) (s : List ℕ) → split c s ≢ []
split-some c [] e = cc
split-some c (x ∷ xs) e = cases (eqb x c) (split c xs) e
  where
    cases : (b : Bool) (ps : List (List ℕ)) → cond b ([] ∷ ps) (grow x ps) ≡ [] → ⊥
    cases true ps h = cc
    cases false [] h = cc
    cases false (p ∷ ps) h = cc
