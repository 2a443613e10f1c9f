-- Lines of texts that are put together, and of texts that are read line by line.
use Rattle.std.proofs.Common.{◌≡◌, ◌≢◌, ℕ, zero, suc, ◌+◌, ◌<◌, ◌≤◌, List, [], ◌∷◌, ◌++◌, All, length, get_or, take, drop, eqb, Bool, cond, true, false, refl, sym, ap, subst, ◌∙◌, arith, add-one, append_assoc}
use Rattle.std.proofs.lemmas.List.Elements.{All-nil, All-cons, All-head, All-tail}
use Rattle.text_lines.specs.Lines.{lines, grow, with_ends, ended, ends_line, IsOneLine}

-- a line with its LF, before a text, is that text's first line
pub lines-cons : (line rest : List ℕ) → IsOneLine line → lines (line ++ 10 ∷ rest) ≡ line ∷ lines rest
lines-cons [] rest one = refl
lines-cons (c ∷ cs) rest one =
    let other : eqb c 10 ≡ false = All-head (λ x. eqb x 10 ≡ false) c cs one in
    rw other (ap (grow c) (lines-cons cs rest (All-tail (λ x. eqb x 10 ≡ false) c cs one)))

-- bytes without LF are one line
pub lines-one : (line : List ℕ) → line ≢ [] → IsOneLine line → lines line ≡ line ∷ []
lines-one [] some one = absurd (some refl)
lines-one (c ∷ []) some one =
    let other : eqb c 10 ≡ false = All-head (λ x. eqb x 10 ≡ false) c [] one in
    rw other
lines-one (c ∷ d ∷ ds) some one =
    let other : eqb c 10 ≡ false = All-head (λ x. eqb x 10 ≡ false) c (d ∷ ds) one in
    rw other (ap (grow c) (lines-one (d ∷ ds) (λ e. cc) (All-tail (λ x. eqb x 10 ≡ false) c (d ∷ ds) one)))

-- a text of some bytes has a line
pub lines-some : (c : ℕ) (cs : List ℕ) → lines (c ∷ cs) ≢ []
lines-some c cs e = cases (eqb c 10) (lines cs) e
  where
    cases : (b : Bool) (rest : List (List ℕ)) → cond b ([] ∷ rest) (grow c rest) ≡ [] → ⊥
    cases true rest h = cc
    cases false [] h = cc
    cases false (line ∷ rest) h = cc

-- a byte before some lines, and further lines behind them
before_lines : (c : ℕ) (b : Bool) (front back : List (List ℕ)) → front ≢ [] →
    cond b ([] ∷ (front ++ back)) (grow c (front ++ back)) ≡ cond b ([] ∷ front) (grow c front) ++ back
before_lines c true front back some = refl
before_lines c false [] back some = absurd (some refl)
before_lines c false (line ∷ front) back some = refl

-- the lines of a text that ends with an LF, and of what follows
pub lines-append : (a b : List ℕ) → ends_line a ≡ true → lines (a ++ b) ≡ lines a ++ lines b
lines-append [] b ended = refl
lines-append (x ∷ []) b ended = rw ended
lines-append (x ∷ y ∷ ys) b ended =
    ap (λ rest. cond (eqb x 10) ([] ∷ rest) (grow x rest)) (lines-append (y ∷ ys) b ended)
    ∙ before_lines x (eqb x 10) (lines (y ∷ ys)) (lines b) (lines-some y ys)

-- the lines of a text that doesn't end with an LF, and of what follows an LF
pub lines-append-end : (a b : List ℕ) → ends_line a ≡ false → lines (a ++ 10 ∷ b) ≡ lines a ++ lines b
lines-append-end [] b open_ended = cc
lines-append-end (x ∷ []) b open_ended = rw open_ended
lines-append-end (x ∷ y ∷ ys) b open_ended =
    ap (λ rest. cond (eqb x 10) ([] ∷ rest) (grow x rest)) (lines-append-end (y ∷ ys) b open_ended)
    ∙ before_lines x (eqb x 10) (lines (y ∷ ys)) (lines b) (lines-some y ys)

-- an LF ends a line
pub ends_line-end : (a : List ℕ) → ends_line (a ++ 10 ∷ []) ≡ true
ends_line-end [] = refl
ends_line-end (x ∷ []) = refl
ends_line-end (x ∷ y ∷ ys) = ends_line-end (y ∷ ys)

-- two texts that end with an LF make one that does
pub ends_line-append : (a b : List ℕ) → ends_line a ≡ true → ends_line b ≡ true → ends_line (a ++ b) ≡ true
ends_line-append [] b first second = second
ends_line-append (x ∷ []) [] first second = first
ends_line-append (x ∷ []) (y ∷ ys) first second = second
ends_line-append (x ∷ y ∷ ys) b first second = ends_line-append (y ∷ ys) b first second

-- a text that is put together line by line ends with an LF
pub ends_line-concat : (ls : List (List ℕ)) → ends_line (with_ends ls) ≡ true
ends_line-concat [] = refl
ends_line-concat (line ∷ ls) = ends_line-append (line ++ 10 ∷ []) (with_ends ls) (ends_line-end line) (ends_line-concat ls)

-- a text that is put together line by line has these lines
pub lines-concat : (ls : List (List ℕ)) → All IsOneLine ls → lines (with_ends ls) ≡ ls
lines-concat [] ones = refl
lines-concat (line ∷ ls) ones =
    ap lines (append_assoc line (10 ∷ []) (with_ends ls))
    ∙ lines-cons line (with_ends ls) (All-head IsOneLine line ls ones)
    ∙ ap (λ rest. line ∷ rest) (lines-concat ls (All-tail IsOneLine line ls ones))

-- the texts of two lists of lines, one after the other
pub with_ends-append : (xs ys : List (List ℕ)) → with_ends (xs ++ ys) ≡ with_ends xs ++ with_ends ys
with_ends-append [] ys = refl
with_ends-append (x ∷ xs) ys = ap (λ bytes. (x ++ 10 ∷ []) ++ bytes) (with_ends-append xs ys) ∙ sym (append_assoc (x ++ 10 ∷ []) (with_ends xs) (with_ends ys))

-- lines behind a text, in two parts
pub lines_behind : (old middle new : List ℕ) (first later : List (List ℕ)) → middle ≡ old ++ with_ends first →
    new ≡ middle ++ with_ends later → new ≡ old ++ with_ends (first ++ later)
lines_behind old middle new first later one two =
    two ∙ ap (λ (bytes : List ℕ). bytes ++ with_ends later) one ∙ append_assoc old (with_ends first) (with_ends later)
    ∙ ap (λ (bytes : List ℕ). old ++ bytes) (sym (with_ends-append first later))

-- the lines of a text that is ended, and then those of what follows
pub lines-ended : (bytes rest : List ℕ) → lines (ended bytes ++ rest) ≡ lines bytes ++ lines rest
lines-ended [] rest = refl
lines-ended (c ∷ []) rest = cases (eqb c 10) refl
  where
    cases : (b : Bool) → eqb c 10 ≡ b → lines (cond b (c ∷ []) (c ∷ 10 ∷ []) ++ rest) ≡ cond b ([] ∷ []) (grow c []) ++ lines rest
    cases true e = rw e
    cases false e = rw e
lines-ended (c ∷ d ∷ cs) rest =
    ap (λ ls. cond (eqb c 10) ([] ∷ ls) (grow c ls)) (lines-ended (d ∷ cs) rest)
    ∙ before_lines c (eqb c 10) (lines (d ∷ cs)) (lines rest) (lines-some d cs)

-- no line holds an LF
pub lines-whole : (s : List ℕ) → All IsOneLine (lines s)
lines-whole [] = All-nil IsOneLine
lines-whole (c ∷ cs) = cases (eqb c 10) refl (lines cs) (lines-whole cs)
  where
    cases : (b : Bool) → eqb c 10 ≡ b → (rest : List (List ℕ)) → All IsOneLine rest → All IsOneLine (cond b ([] ∷ rest) (grow c rest))
    cases true is rest ones = All-cons IsOneLine [] rest (All-nil (λ x. eqb x 10 ≡ false)) ones
    cases false is [] ones = All-cons IsOneLine (c ∷ []) [] (All-cons (λ x. eqb x 10 ≡ false) c [] is (All-nil (λ x. eqb x 10 ≡ false))) ones
    cases false is (line ∷ rest) ones =
        All-cons IsOneLine (c ∷ line) rest
        (All-cons (λ x. eqb x 10 ≡ false) c line is (All-head IsOneLine line rest ones))
        (All-tail IsOneLine line rest ones)

-- the first line holds no LF
pub line-whole : (s line : List ℕ) (rest : List (List ℕ)) → lines s ≡ line ∷ rest → IsOneLine line
line-whole s line rest is = All-head IsOneLine line rest (let P : List (List ℕ) → Type 0 = All IsOneLine in subst P is (lines-whole s))

-- a text has no more lines than bytes
pub length-lines-le : (s : List ℕ) → length (lines s) ≤ length s
length-lines-le [] = omega arith
length-lines-le (c ∷ cs) = cases (eqb c 10) (lines cs) (length-lines-le cs)
  where
    cases : (b : Bool) (rest : List (List ℕ)) → length rest ≤ length cs → length (cond b ([] ∷ rest) (grow c rest)) ≤ length (c ∷ cs)
    cases true rest h = omega arith
    cases false [] h = omega arith
    cases false (line ∷ rest) h = omega arith

-- one more line of a list of lines
pub record IsTurn (all : List (List ℕ)) (k : ℕ) (line : List ℕ) (rest : List (List ℕ)) : Type 0 where
  pub within : k < length all
  pub is : get_or all k [] ≡ line
  pub taken : take (k + 1) all ≡ take k all ++ line ∷ []
  pub left : rest ≡ drop (k + 1) all

-- where what is left after k lines begins with a line, that line stands at k
pub line_turn : (all : List (List ℕ)) (k : ℕ) (line : List ℕ) (rest : List (List ℕ)) → line ∷ rest ≡ drop k all → IsTurn all k line rest
line_turn [] zero line rest is = cc
line_turn [] (suc k) line rest is = cc
line_turn (x ∷ xs) zero line rest is = record { within = omega arith; is = cc; taken = cc; left = cc }
line_turn (x ∷ xs) (suc k) line rest is =
    let later : IsTurn xs k line rest = line_turn xs k line rest is in
    record {
      within = omega arith;
      is = later.is;
      taken = rw add-one (ap (λ front. x ∷ front) (rw add-one at later.taken));
      left = rw add-one (rw add-one at later.left);
    }

-- where no line is left after k lines, there are k
pub lines_done : (all : List (List ℕ)) (k : ℕ) → [] ≡ drop k all → length all ≤ k
lines_done [] zero is = omega arith
lines_done (x ∷ xs) zero is = cc
lines_done [] (suc k) is = omega arith
lines_done (x ∷ xs) (suc k) is = omega (arith, lines_done xs k is)
