-- The words of tree lines.
use Rattle.std.proofs.Common.{◌≡◌, ◌≢◌, ℕ, ◌<◌, ◌≤◌, ◌^◌, List, [], ◌∷◌, ◌++◌, All, length, codes, MatchOption, Option, Some, None, arith, refl, sym, ap, subst, ◌∙◌, append_assoc}
use Rattle.std.proofs.lemmas.List.Elements.{All-head, All-tail}
use Rattle.cost_base.specs.Decimal.{decimal}
use Rattle.cost_base.proofs.ListLemmas.{All-right}
use Rattle.text_lines.proofs.Printed.{decimal-same}
use Rattle.design_problem.specs.declared.tree.Side.{Side}
use Rattle.design_problem.specs.declared.tree.Side.TheVariants.{Low as LowSide, High as HighSide}
use Rattle.design_problem.specs.declared.tree.Member.{Member}
use Rattle.design_problem.specs.declared.tree.Member.TheVariants.{Low, High, Row}
use Rattle.design_problem.specs.declared.tree.Entry.{Entry}
use Rattle.design_problem.specs.declared.tree.Entry.TheVariants.{Tighten, Split, Halve, Refute, Undone}
use Rattle.design_problem.specs.declared.tree.WideAt.{WideAt}
use Rattle.design_problem.specs.AnswerRanges.{IsIndex, IsCost, IsRowNumber, BoundsMember, BoundsParts, BoundsEntry}
use Rattle.design_problem.specs.Text.{side_word, member_words, members_words, multiplier_words, step_word, ratio_word, entry_line, spaced, FitsEntry}
use Rattle.answer_lines.specs.Words.{entry_words, SaysEntry, SaysNoEntry}
use Rattle.std.proofs.Common.{get_or}
use Rattle.std.specs.Prelude.{AllPairs}
use Rattle.answer_lines.specs.declared.entries.HalveFront.{HalveFront}
use Rattle.answer_lines.specs.Fronts.{IsHalveFront, front_words}
use Rattle.answer_lines.proofs.PartOrder.{behind_all}
use Rattle.answer_lines.proofs.ListParts.{head-is, tail-is}

-- a tree line is its words with spaces between
pub entry_line-words : (entry : Entry) → entry_line entry ≡ spaced (entry_words entry)
entry_line-words (Tighten v side bound row) = refl
entry_line-words (Split v bound) = refl
entry_line-words (Halve v bound wide) = refl
entry_line-words (Refute parts) = refl
entry_line-words Undone = refl

other_kind : (a b : ℕ) (xs ys : List ℕ) (us vs : List (List ℕ)) → (a ≡ b → ⊥) → (a ∷ xs) ∷ us ≡ (b ∷ ys) ∷ vs → ⊥
other_kind a b xs ys us vs differ e = differ (head-is a b xs ys (head-is (a ∷ xs) (b ∷ ys) us vs e))

-- words that say no Tighten say nothing behind its name
pub only_tighten : (ws : List (List ℕ)) →
    ((v : ℕ) (side : Side) (b row : ℕ) → IsIndex v → IsCost b → IsRowNumber row →
    ws ≢ decimal v ∷ side_word side ∷ decimal b ∷ decimal row ∷ []) → SaysNoEntry (codes "tighten" ∷ ws)
only_tighten ws h (Tighten v side b row) says = h v side b row says.bounds.0 says.bounds.1 says.bounds.2 (tail-is _ _ _ _ says.is)
only_tighten ws h (Split v b) says = other_kind 116 115 _ _ _ _ (λ e. omega arith) says.is
only_tighten ws h (Halve v b wide) says = other_kind 116 104 _ _ _ _ (λ e. omega arith) says.is
only_tighten ws h (Refute parts) says = other_kind 116 114 _ _ _ _ (λ e. omega arith) says.is
only_tighten ws h Undone says = other_kind 116 111 _ _ _ _ (λ e. omega arith) says.is

-- words that say no Halve say nothing behind its name
pub only_halve : (ws : List (List ℕ)) →
    ((v b : ℕ) (wide : WideAt) → BoundsEntry (Halve v b wide) → FitsEntry (Halve v b wide) →
    ws ≢ decimal v ∷ decimal b ∷ step_word wide.step ∷ ratio_word wide.left ∷ ratio_word wide.right
    ∷ members_words wide.basis) → SaysNoEntry (codes "halve" ∷ ws)
only_halve ws h (Tighten v side b row) says = other_kind 104 116 _ _ _ _ (λ e. omega arith) says.is
only_halve ws h (Split v b) says = other_kind 104 115 _ _ _ _ (λ e. omega arith) says.is
only_halve ws h (Halve v b wide) says = h v b wide says.bounds says.fits (tail-is _ _ _ _ says.is)
only_halve ws h (Refute parts) says = other_kind 104 114 _ _ _ _ (λ e. omega arith) says.is
only_halve ws h Undone says = other_kind 104 111 _ _ _ _ (λ e. omega arith) says.is

-- words that say no Refute say nothing behind its name
pub only_refute : (ws : List (List ℕ)) →
    ((ps : List (ℕ × ℕ)) → BoundsParts ps → ps ≢ [] → All (λ part. part.1 < 10 ^ 31) ps → ws ≢ multiplier_words ps) →
    SaysNoEntry (codes "refute" ∷ ws)
only_refute ws h (Tighten v side b row) says = other_kind 114 116 _ _ _ _ (λ e. omega arith) says.is
only_refute ws h (Split v b) says = other_kind 114 115 _ _ _ _ (λ e. omega arith) says.is
only_refute ws h (Halve v b wide) says = other_kind 114 104 _ _ _ _ (λ e. omega arith) says.is
only_refute ws h (Refute parts) says = h parts says.bounds says.fits.0 says.fits.1 (tail-is _ _ _ _ says.is)
only_refute ws h Undone says = other_kind 114 111 _ _ _ _ (λ e. omega arith) says.is

-- words along an equation
pub says-along : (ws vs : List (List ℕ)) (o : Option Entry) → ws ≡ vs →
    MatchOption o (SaysNoEntry vs) (λ e. SaysEntry vs e) → MatchOption o (SaysNoEntry ws) (λ e. SaysEntry ws e)
says-along ws vs o is h = subst (λ us. MatchOption o (SaysNoEntry us) (λ e. SaysEntry us e)) (sym is) h

-- words that begin with no name of an entry say none
pub no_kind : (ws : List (List ℕ)) (o : Option Entry) → ((rest : List (List ℕ)) → ws ≢ codes "tighten" ∷ rest) →
    ((rest : List (List ℕ)) → ws ≢ codes "split" ∷ rest) →
    ((rest : List (List ℕ)) → ws ≢ codes "halve" ∷ rest) → ((rest : List (List ℕ)) → ws ≢ codes "refute" ∷ rest) →
    MatchOption o (ws ≢ codes "open" ∷ []) (λ e. SaysEntry ws e) → MatchOption o (SaysNoEntry ws) (λ e. SaysEntry ws e)
no_kind ws (Some e) a b c d h = h
no_kind ws None a b c d h = none
  where
    none : SaysNoEntry ws
    none (Tighten v side bound row) says = a _ says.is
    none (Split v bound) says = b _ says.is
    none (Halve v bound wide) says = c _ says.is
    none (Refute parts) says = d _ says.is
    none Undone says = h says.is

-- where words are neither a row nor begin with a side, they are no member
pub no_member : (ws : List (List ℕ)) → ((rest : List (List ℕ)) → ws ≢ codes "row" ∷ rest) →
    ((side : Side) (rest : List (List ℕ)) → ws ≢ side_word side ∷ rest) →
    (m : Member) (rest : List (List ℕ)) → BoundsMember m → ws ≢ member_words m ++ rest
no_member ws first second (Low v b) rest bounds e = second LowSide (decimal v ∷ decimal b ∷ rest) e
no_member ws first second (High v b) rest bounds e = second HighSide (decimal v ∷ decimal b ∷ rest) e
no_member ws first second (Row row) rest bounds e = first (decimal row ∷ rest) e

apart : (a b : ℕ) → (a ≡ b → ⊥) → a ≡ b → ⊥
apart a b differ e = differ e

side-row : (side : Side) → side_word side ≡ codes "row" → ⊥
side-row LowSide e = apart 108 114 (λ same. omega arith) (head-is 108 114 (codes "ow") (codes "ow") e)
side-row HighSide e = apart 104 114 (λ same. omega arith) (head-is 104 114 (codes "igh") (codes "ow") e)

-- where no two numbers follow a side, they are no member
pub no_bound : (ws numbers : List (List ℕ)) (side : Side) → ws ≡ side_word side ∷ numbers →
    ((v b : ℕ) (rest : List (List ℕ)) → IsIndex v → IsCost b → numbers ≢ decimal v ∷ decimal b ∷ rest) →
    (m : Member) (rest : List (List ℕ)) → BoundsMember m → ws ≢ member_words m ++ rest
no_bound ws numbers side is none (Low v b) rest bounds e = none v b rest bounds.0 bounds.1 (tail-is _ _ _ _ (sym is ∙ e))
no_bound ws numbers side is none (High v b) rest bounds e = none v b rest bounds.0 bounds.1 (tail-is _ _ _ _ (sym is ∙ e))
no_bound ws numbers side is none (Row row) rest bounds e = side-row side (head-is _ _ _ _ (sym is ∙ e))

members_words-append : (xs ys : List Member) → members_words (xs ++ ys) ≡ members_words xs ++ members_words ys
members_words-append [] ys = refl
members_words-append (x ∷ xs) ys = ap (λ l. member_words x ++ l) (members_words-append xs ys)
    ∙ sym (append_assoc (member_words x) (members_words xs) (members_words ys))

-- one more member
pub member_more : (words left rest : List (List ℕ)) (xs : List Member) (m : Member) → words ≡ members_words xs ++ left →
    left ≡ member_words m ++ rest → words ≡ members_words (xs ++ m ∷ []) ++ rest
member_more words left rest xs m e next =
    e ∙ ap (λ l. members_words xs ++ l) next ∙ sym (append_assoc (members_words xs) (member_words m) rest)
    ∙ ap (λ l. l ++ rest) (ap (λ l. members_words xs ++ l) (sym (alone m)) ∙ sym (members_words-append xs (m ∷ [])))
  where
    alone : (m : Member) → members_words (m ∷ []) ≡ member_words m
    alone (Low v b) = refl
    alone (High v b) = refl
    alone (Row row) = refl

-- a member takes words
pub member_shorter : (left rest : List (List ℕ)) (m : Member) → left ≡ member_words m ++ rest → length rest < length left
member_shorter left rest (Low v b) e = omega (arith, ap length e)
member_shorter left rest (High v b) e = omega (arith, ap length e)
member_shorter left rest (Row row) e = omega (arith, ap length e)

pub same_rest : (m x : Member) (r s : List (List ℕ)) → member_words m ++ r ≡ member_words x ++ s → r ≡ s
same_rest (Low v b) (Low w d) r s e = cc
same_rest (Low v b) (High w d) r s e = cc
same_rest (High v b) (Low w d) r s e = cc
same_rest (High v b) (High w d) r s e = cc
same_rest (Row row) (Row other) r s e = cc
same_rest (Low v b) (Row row) r s e = absurd (side-row LowSide (head-is _ _ _ _ e))
same_rest (High v b) (Row row) r s e = absurd (side-row HighSide (head-is _ _ _ _ e))
same_rest (Row row) (Low v b) r s e = absurd (side-row LowSide (sym (head-is _ _ _ _ e)))
same_rest (Row row) (High v b) r s e = absurd (side-row HighSide (sym (head-is _ _ _ _ e)))

pub some_words : (m : Member) (r : List (List ℕ)) → [] ≡ member_words m ++ r → ⊥
some_words (Low v b) r e = cc
some_words (High v b) r e = cc
some_words (Row row) r e = cc

-- members go on where the words that were read do
pub no_member_more : (xs ms : List Member) (left : List (List ℕ)) → All BoundsMember ms → members_words ms ≡ members_words xs ++ left → left ≢ [] →
    ((m : Member) (rest : List (List ℕ)) → BoundsMember m → left ≢ member_words m ++ rest) → ⊥
no_member_more [] [] left all e some none = some (sym e)
no_member_more [] (m ∷ ms) left all e some none = none m (members_words ms) (All-head BoundsMember m ms all) (sym e)
no_member_more (x ∷ xs) [] left all e some none = some_words x (members_words xs ++ left) (e ∙ append_assoc (member_words x) (members_words xs) left)
no_member_more (x ∷ xs) (m ∷ ms) left all e some none =
    no_member_more xs ms left (All-tail BoundsMember m ms all)
    (same_rest m x (members_words ms) (members_words xs ++ left) (e ∙ append_assoc (member_words x) (members_words xs) left)) some none

multiplier_words-append : (xs ys : List (ℕ × ℕ)) → multiplier_words (xs ++ ys) ≡ multiplier_words xs ++ multiplier_words ys
multiplier_words-append [] ys = refl
multiplier_words-append (x ∷ xs) ys = ap (λ l. decimal x.0 ∷ decimal x.1 ∷ l) (multiplier_words-append xs ys)

-- one more row with its multiplier
pub part_more : (words left rest : List (List ℕ)) (xs : List (ℕ × ℕ)) (p : ℕ × ℕ) → words ≡ multiplier_words xs ++ left →
    left ≡ decimal p.0 ∷ decimal p.1 ∷ rest → words ≡ multiplier_words (xs ++ p ∷ []) ++ rest
part_more words left rest xs p e next =
    e ∙ ap (λ l. multiplier_words xs ++ l) next ∙ sym (append_assoc (multiplier_words xs) (decimal p.0 ∷ decimal p.1 ∷ []) rest)
    ∙ ap (λ l. l ++ rest) (sym (multiplier_words-append xs (p ∷ [])))

-- parts go on where the words that were read do
pub parts_go_on : (xs ps : List (ℕ × ℕ)) (left : List (List ℕ)) → multiplier_words ps ≡ multiplier_words xs ++ left →
    (more : List (ℕ × ℕ)) × (ps ≡ xs ++ more) × (left ≡ multiplier_words more)
parts_go_on [] ps left e = (ps, refl, sym e)
parts_go_on (x ∷ xs) [] left e = absurd (cc)
parts_go_on (x ∷ xs) (p ∷ ps) left e =
    let first : p.0 ≡ x.0 = decimal-same p.0 x.0 (cc) in
    let second : p.1 ≡ x.1 = decimal-same p.1 x.1 (cc) in
    let rest = parts_go_on xs ps left (cc) in
    let same : p ≡ x = ap (λ a. (a, p.1)) first ∙ ap (λ b. (x.0, b)) second in
    (rest.0, ap (λ l. p ∷ l) rest.1 ∙ ap (λ y. y ∷ (xs ++ rest.0)) same, rest.2)

-- rows and multipliers go on where the words that were read do
pub no_part_more : (xs ps : List (ℕ × ℕ)) (left : List (List ℕ)) → BoundsParts ps → All (λ part. part.1 < 10 ^ 31) ps →
    multiplier_words ps ≡ multiplier_words xs ++ left → left ≢ [] →
    ((row m : ℕ) (rest : List (List ℕ)) → IsRowNumber row → 0 < m → m < 10 ^ 31 → left ≢ decimal row ∷ decimal m ∷ rest) → ⊥
no_part_more xs ps left bounds small e some none =
    let on = parts_go_on xs ps left e in
    first on.0 (All-right (λ part. IsRowNumber part.0) xs on.0 (subst (λ l. All (λ part. IsRowNumber part.0) l) on.1 bounds.rows))
    (All-right (λ part. 0 < part.1) xs on.0 (subst (λ l. All (λ part. 0 < part.1) l) on.1 bounds.positive))
    (All-right (λ part. part.1 < 10 ^ 31) xs on.0 (subst (λ l. All (λ part. part.1 < 10 ^ 31) l) on.1 small)) on.2
  where
    first : (more : List (ℕ × ℕ)) → All (λ part. IsRowNumber part.0) more → All (λ part. 0 < part.1) more →
        All (λ part. part.1 < 10 ^ 31) more → left ≡ multiplier_words more → ⊥
    first [] rows positive few is = some is
    first (p ∷ more) rows positive few is =
        none p.0 p.1 (multiplier_words more) (All-head (λ part. IsRowNumber part.0) p more rows)
        (All-head (λ part. 0 < part.1) p more positive) (All-head (λ part. part.1 < 10 ^ 31) p more few) is

-- where a row doesn't come behind all, the words are no rising rows
pub not_rising : (xs ps : List (ℕ × ℕ)) (left rest : List (List ℕ)) (p : ℕ × ℕ) (k : ℕ) → BoundsParts ps →
    multiplier_words ps ≡ multiplier_words xs ++ left → left ≡ decimal p.0 ∷ decimal p.1 ∷ rest →
    k < length xs → ((d : ℕ × ℕ) → p.0 ≤ (get_or xs k d).0) → ⊥
not_rising xs ps left rest p k bounds e next within above =
    let on = parts_go_on xs ps left e in
    first on.0 (subst (λ l. AllPairs (λ a b. a.0 < b.0) l) on.1 bounds.rising) (sym on.2 ∙ next)
  where
    first : (more : List (ℕ × ℕ)) → AllPairs (λ a b. a.0 < b.0) (xs ++ more) → multiplier_words more ≡ decimal p.0 ∷ decimal p.1 ∷ rest → ⊥
    first [] pairs is = absurd (cc)
    first (q ∷ more) pairs is =
        let same : q.0 ≡ p.0 = decimal-same q.0 p.0 (head-is _ _ _ _ is) in
        omega (arith, behind_all xs more q pairs k p within, above p)

-- a basis with a member has words
pub members-some : (ms : List Member) → ms ≢ [] → members_words ms ≢ []
members-some [] some e = some refl
members-some (m ∷ ms) some e = some_words m (members_words ms) (sym e)

pub parts-some : (ps : List (ℕ × ℕ)) → ps ≢ [] → multiplier_words ps ≢ []
parts-some [] some e = some refl
parts-some (p ∷ ps) some e = cc

-- what follows two fronts of one line
pub front-rest : (ws : List (List ℕ)) (f g : HalveFront) (r s : List (List ℕ)) → ws ≡ front_words f r → ws ≡ front_words g s → r ≡ s
front-rest ws f g r s first second =
    tail-is _ _ _ _ (tail-is _ _ _ _ (tail-is _ _ _ _ (tail-is _ _ _ _ (tail-is _ _ _ _ (sym first ∙ second)))))

-- the front of a halve line's entry
abbrev pub front_of : ℕ → ℕ → WideAt → HalveFront
front_of v b wide = record { var = v; value = b; step = wide.step; left = wide.left; right = wide.right }

pub front-fits : (v b : ℕ) (wide : WideAt) → BoundsEntry (Halve v b wide) → FitsEntry (Halve v b wide) → IsHalveFront (front_of v b wide)
front-fits v b wide bounds fits = record { var = bounds.0; value = bounds.1; left = fits.0; right = fits.1 }
