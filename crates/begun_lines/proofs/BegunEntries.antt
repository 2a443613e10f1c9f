-- Tree lines that are begun.
use Rattle.std.proofs.Common.{◌≡◌, ◌≢◌, ℕ, ◌+◌, ◌<◌, ◌≤◌, List, [], ◌∷◌, ◌++◌, All, length, codes, Bool, false, IsTrue, ◌↔◌, MatchOption, Option, Some, None, Bor, refl, sym, ap, subst, ◌∙◌, arith, inl, inr, append_assoc, append-nil, length-append}
use Rattle.std.specs.Prelude.{◌⊎◌}
use Rattle.std.proofs.lemmas.List.Elements.{All-nil, All-cons, All-head, All-tail}
use Rattle.cost_base.specs.Decimal.{decimal}
use Rattle.text_lines.proofs.Printed.{decimal-same}
use Rattle.design_problem.specs.declared.tree.Member.{Member}
use Rattle.design_problem.specs.declared.tree.Member.TheVariants.{Low, High, Row}
use Rattle.design_problem.specs.AnswerRanges.{BoundsMember}
use Rattle.design_problem.specs.Text.{spaced, member_words, members_words, multiplier_words}
use Rattle.text_lines.specs.Numbers.{split}
use Rattle.text_lines.proofs.Pieces.{split-some}
use Rattle.begun_lines.specs.BegunLines.{GoesOn, Then, Alone, IsCoprimeInRange, IsNumberInRange, rows_from, multiplier_range, IsRising, PartsWords, MemberWords, MembersWords}
use Rattle.answer_lines.proofs.ListParts.{head-is, tail-is}
use Rattle.answer_lines.proofs.LineFronts.{split-front, split-whole}
use Rattle.answer_lines.proofs.SpacedWords.{split-alone, spaced-split}
use Rattle.answer_lines.proofs.EntryWords.{same_rest, some_words}
use Rattle.begun_lines.proofs.BegunWords.{first_word, word_behind, grown_word, cut_of}

some_more : (ws vs : List (List ℕ)) → vs ≢ [] → ws ++ vs ≢ []
some_more [] vs some e = some e
some_more (w ∷ ws) vs some e = cc

-- words that stand before the last word stay where a text grows
pub words_before : (ws : List (List ℕ)) (text rest more : List ℕ) → split 32 text ≡ ws ++ split 32 rest →
    split 32 (text ++ more) ≡ ws ++ split 32 (rest ++ more)
words_before [] text rest more e =
    let same : text ≡ rest = sym (spaced-split text) ∙ ap spaced e ∙ spaced-split rest in
    ap (λ l. split 32 (l ++ more)) same
words_before (w ∷ ws) text rest more e =
    let first = first_word text w (ws ++ split 32 rest) e in
    elim first.parts [
      | inl one ↦ absurd (some_more ws (split 32 rest) (split-some 32 rest) one.0)
      | inr behind ↦ word_behind text w behind.0 more behind.1 first.spaceless ∙ ap (λ l. w ∷ l) (words_before ws behind.0 rest more (sym behind.2))
    ]

-- a text's first words, where more follow: they stand in it with a space behind them, or they are all of it with some
-- bytes more
abbrev pub StandsOrGrows : List (List ℕ) → List ℕ → List ℕ → Type 0
StandsOrGrows ws text more = ((rest : List ℕ) × (split 32 text ≡ ws ++ split 32 rest))
    ⊎ ((less : List ℕ) × (split 32 (text ++ less) ≡ ws) × (length less ≤ length more))

-- the same with one word more before
one_before : (w : List ℕ) (ws : List (List ℕ)) (text rest more : List ℕ) → ws ≢ [] →
    split 32 (text ++ more) ≡ w ∷ split 32 (rest ++ more) → text ≡ w ++ 32 ∷ rest → StandsOrGrows ws rest more →
    StandsOrGrows (w ∷ ws) text more
one_before w ws text rest more some cut parts (inl stands) =
    let spaceless = split-whole 32 (text ++ more) w (split 32 (rest ++ more)) cut in
    inl (stands.0, ap (split 32) parts ∙ split-front 32 w rest spaceless ∙ ap (λ l. w ∷ l) stands.1)
one_before w ws text rest more some cut parts (inr grows) =
    let spaceless = split-whole 32 (text ++ more) w (split 32 (rest ++ more)) cut in
    inr (grows.0, word_behind text w rest grows.0 parts spaceless ∙ ap (λ l. w ∷ l) grows.1, grows.2)

-- the same where the first word is begun
begun_before : (t grown rest more w v : List ℕ) (ws vs : List (List ℕ)) → split 32 (t ++ more) ≡ w ∷ vs →
    w ≡ t ++ grown → more ≡ grown ++ 32 ∷ rest → StandsOrGrows (v ∷ ws) [] rest → StandsOrGrows (w ∷ v ∷ ws) t more
begun_before t grown rest more w v ws vs cut is parts (inl stands) =
    absurd (some_more ws (split 32 stands.0) (split-some 32 stands.0)
    (sym (tail-is [] v [] (ws ++ split 32 stands.0) stands.1)))
begun_before t grown rest more w v ws vs cut is parts (inr grows) =
    let spaceless = split-whole 32 (t ++ more) w vs cut in
    let whole : t ++ (grown ++ 32 ∷ grows.0) ≡ w ++ 32 ∷ grows.0 = sym (append_assoc t grown (32 ∷ grows.0)) ∙ ap (λ l. l ++ 32 ∷ grows.0) (sym is) in
    inr (
      grown ++ 32 ∷ grows.0,
      ap (split 32) whole ∙ split-front 32 w grows.0 spaceless ∙ ap (λ l. w ∷ l) grows.1,
      omega (arith, grows.2, ap length parts, length-append grown (32 ∷ grows.0), length-append grown (32 ∷ rest)),
    )

-- one word, where more follow
one_word : (w : List ℕ) (vs : List (List ℕ)) (text more : List ℕ) → vs ≢ [] → split 32 (text ++ more) ≡ w ∷ vs → StandsOrGrows (w ∷ []) text more
one_word w vs text more some e =
    let cut = cut_of text in
    let first = first_word text cut.w cut.ws cut.is in
    elim first.parts [
      | inr behind ↦
          let longer = word_behind text cut.w behind.0 more behind.1 first.spaceless in
          let same : w ≡ cut.w = head-is w cut.w vs (split 32 (behind.0 ++ more)) (sym e ∙ longer) in
          inl (behind.0, cut.is ∙ ap (λ l. cut.w ∷ l) behind.2 ∙ ap (λ l. l ∷ split 32 behind.0) (sym same))
      | inl one ↦
          let alone : split 32 text ≡ text ∷ [] = cut.is ∙ ap (λ l. cut.w ∷ l) one.0 ∙ ap (λ l. l ∷ []) (sym one.1) in
          let grown = grown_word text more w vs alone e in
          elim grown.parts [
            | inl last ↦ absurd (some last.0)
            | inr behind ↦
                inr (
                  grown.grown,
                  ap (split 32) (sym grown.word) ∙ split-alone w (split-whole 32 (text ++ more) w vs e),
                  omega (arith, ap length behind.1, length-append grown.grown (32 ∷ behind.0)),
                )
          ]
    ]

pub first_words : (w : List ℕ) (ws vs : List (List ℕ)) (text more : List ℕ) → vs ≢ [] →
    split 32 (text ++ more) ≡ w ∷ (ws ++ vs) → StandsOrGrows (w ∷ ws) text more
first_words w [] vs text more some e = one_word w vs text more some e
first_words w (v ∷ ws) vs text more some e =
    let cut = cut_of text in
    let first = first_word text cut.w cut.ws cut.is in
    elim first.parts [
      | inr behind ↦
          let longer = word_behind text cut.w behind.0 more behind.1 first.spaceless in
          let same : w ≡ cut.w = head-is w cut.w (v ∷ (ws ++ vs)) (split 32 (behind.0 ++ more)) (sym e ∙ longer) in
          let rest : split 32 (behind.0 ++ more) ≡ v ∷ (ws ++ vs) = tail-is cut.w w (split 32 (behind.0 ++ more)) (v ∷ (ws ++ vs)) (sym longer ∙ e) in
          one_before w (v ∷ ws) text behind.0 more (λ none. cc)
          (longer ∙ ap (λ l. l ∷ split 32 (behind.0 ++ more)) (sym same))
          (behind.1 ∙ ap (λ l. l ++ 32 ∷ behind.0) (sym same))
          (first_words v ws vs behind.0 more some rest)
      | inl one ↦
          let alone : split 32 text ≡ text ∷ [] = cut.is ∙ ap (λ l. cut.w ∷ l) one.0 ∙ ap (λ l. l ∷ []) (sym one.1) in
          let grown = grown_word text more w (v ∷ (ws ++ vs)) alone e in
          elim grown.parts [
            | inl last ↦ absurd (cc)
            | inr behind ↦ begun_before text grown.grown behind.0 more w v ws (v ∷ (ws ++ vs)) e grown.word behind.1
                (first_words v ws vs [] behind.0 some (sym behind.2))
          ]
    ]

-- a member that stands with a space behind it
pub member_skip : (text rest : List ℕ) (room : ℕ) (m : Member) → BoundsMember m →
    split 32 text ≡ member_words m ++ split 32 rest → GoesOn MembersWords text room ↔ GoesOn MembersWords rest room
member_skip text rest room m bounds e = (λ on. forth on.0 on.1.0 on.1.1 on.1.2 on.1.3 on.2, λ on. back on.0 on.1.0 on.1.2 on.1.3 on.2)
  where
    forth : (more : List ℕ) (ms : List Member) → ms ≢ [] → All BoundsMember ms →
        split 32 (text ++ more) ≡ members_words ms → length more ≤ room → GoesOn MembersWords rest room
    forth more [] some all is within = absurd (some refl)
    forth more (x ∷ xs) some all is within =
        let same : split 32 (rest ++ more) ≡ members_words xs =
        same_rest m x (split 32 (rest ++ more)) (members_words xs)
        (sym (words_before (member_words m) text rest more e) ∙ is) in
        (more, (xs, λ none. split-some 32 (rest ++ more) (same ∙ ap members_words none), All-tail BoundsMember x xs all, same), within)

    back : (more : List ℕ) (ms : List Member) → All BoundsMember ms → split 32 (rest ++ more) ≡ members_words ms →
        length more ≤ room → GoesOn MembersWords text room
    back more ms all is within = (
      more,
      (
        m ∷ ms,
        λ none. cc,
        All-cons BoundsMember m ms bounds all,
        words_before (member_words m) text rest more e ∙ ap (λ l. member_words m ++ l) is,
      ),
      within,
    )

member_grows : (m : Member) (vs : List (List ℕ)) (text more : List ℕ) → vs ≢ [] →
    split 32 (text ++ more) ≡ member_words m ++ vs → StandsOrGrows (member_words m) text more
member_grows (Low v b) vs text more some e = first_words (codes "low") (decimal v ∷ decimal b ∷ []) vs text more some e
member_grows (High v b) vs text more some e = first_words (codes "high") (decimal v ∷ decimal b ∷ []) vs text more some e
member_grows (Row row) vs text more some e = first_words (codes "row") (decimal row ∷ []) vs text more some e

-- where no member stands with a space behind it, the line may end with one
pub member_last : (text : List ℕ) (room : ℕ) →
    ((m : Member) (rest : List ℕ) → BoundsMember m → split 32 text ≢ member_words m ++ split 32 rest) → (r : Bool) →
    IsTrue r ↔ GoesOn MemberWords text room →
    IsTrue r ↔ GoesOn MembersWords text room
member_last text room none r h = (λ is. forth (h.0 is), λ on. h.1 (back on.0 on.1.0 on.1.1 on.1.2 on.1.3 on.2))
  where
    forth : GoesOn MemberWords text room → GoesOn MembersWords text room
    forth on = (
      on.0,
      (
        on.1.0 ∷ [],
        λ e. cc,
        All-cons BoundsMember on.1.0 [] on.1.1 (All-nil BoundsMember),
        on.1.2
            ∙ sym (append-nil (member_words on.1.0)),
      ),
      on.2,
    )

    ends : (m : Member) (more : List ℕ) → BoundsMember m → length more ≤ room → StandsOrGrows (member_words m) text more → GoesOn MemberWords text room
    ends m more bounds within (inl stands) = absurd (none m stands.0 bounds stands.1)
    ends m more bounds within (inr grows) = (grows.0, (m, bounds, grows.1), omega (arith, grows.2))

    back : (more : List ℕ) (ms : List Member) → ms ≢ [] → All BoundsMember ms →
        split 32 (text ++ more) ≡ members_words ms → length more ≤ room → GoesOn MemberWords text room
    back more [] some all is within = absurd (some refl)
    back more (x ∷ []) some all is within = (more, (x, All-head BoundsMember x [] all, is ∙ append-nil (member_words x)), within)
    back more (x ∷ (y ∷ ys)) some all is within =
        let bounds = All-head BoundsMember x (y ∷ ys) all in
        ends x more bounds within (member_grows x (members_words (y ∷ ys)) text more (λ e. some_words y (members_words ys) (sym e)) is)

-- a row and its multiplier that stand with a space behind them
pub part_skip : (text rest : List ℕ) (room least row m : ℕ) → least ≤ row → IsCoprimeInRange (rows_from 0) row →
    IsCoprimeInRange multiplier_range m → split 32 text ≡ decimal row ∷ decimal m ∷ split 32 rest →
    GoesOn (PartsWords least) text room ↔ GoesOn (PartsWords (row + 1)) rest room
part_skip text rest room least row m above among positive e = (λ on. forth on.0 on.1.0 on.1.1 on.1.2 on.1.3 on.2, λ on. back on.0 on.1.0 on.1.2 on.1.3 on.2)
  where
    words : (more : List ℕ) → split 32 (text ++ more) ≡ decimal row ∷ decimal m ∷ split 32 (rest ++ more)
    words more = words_before (decimal row ∷ decimal m ∷ []) text rest more e

    forth : (more : List ℕ) (ps : List (ℕ × ℕ)) → ps ≢ [] → IsRising least ps →
        split 32 (text ++ more) ≡ multiplier_words ps → length more ≤ room → GoesOn (PartsWords (row + 1)) rest room
    forth more [] some rising is within = absurd (some refl)
    forth more (p ∷ ps) some rising is within =
        let both : decimal row ∷ decimal m ∷ split 32 (rest ++ more) ≡ decimal p.0 ∷ decimal p.1 ∷ multiplier_words ps = sym (words more) ∙ is in
        let same : row ≡ p.0 = decimal-same row p.0 (head-is _ _ _ _ both) in
        let left : split 32 (rest ++ more) ≡ multiplier_words ps = tail-is _ _ _ _ (tail-is _ _ _ _ both) in
        (more, (ps, λ none. split-some 32 (rest ++ more) (left ∙ ap multiplier_words none), subst (λ n. IsRising (n + 1) ps) (sym same) rising.2, left), within)

    back : (more : List ℕ) (ps : List (ℕ × ℕ)) → IsRising (row + 1) ps → split 32 (rest ++ more) ≡ multiplier_words ps →
        length more ≤ room → GoesOn (PartsWords least) text room
    back more ps rising is within =
        let here : IsCoprimeInRange (rows_from least) row = record { least = above; greatest = among.greatest; coprime = among.coprime } in
        (more, ((row, m) ∷ ps, λ none. cc, (here, positive, rising), words more ∙ ap (λ l. decimal row ∷ decimal m ∷ l) is), within)

-- a row that doesn't rise
pub part_falls : (text rest : List ℕ) (room least row m : ℕ) → row < least →
    split 32 text ≡ decimal row ∷ decimal m ∷ split 32 rest → IsTrue false ↔ GoesOn (PartsWords least) text room
part_falls text rest room least row m below e = (λ no. absurd (cc), λ on. absurd (falls on.0 on.1.0 on.1.1 on.1.2 on.1.3))
  where
    falls : (more : List ℕ) (ps : List (ℕ × ℕ)) → ps ≢ [] → IsRising least ps → split 32 (text ++ more) ≡ multiplier_words ps → ⊥
    falls more [] some rising is = some refl
    falls more (p ∷ ps) some rising is =
        let both : decimal row ∷ decimal m ∷ split 32 (rest ++ more) ≡ decimal p.0 ∷ decimal p.1 ∷ multiplier_words ps =
        sym (words_before (decimal row ∷ decimal m ∷ []) text rest more e) ∙ is in
        omega (arith, decimal-same row p.0 (head-is _ _ _ _ both), rising.0.least)

-- where no row stands with its multiplier and a space behind it, the line may end with them
pub part_last : (text : List ℕ) (room least : ℕ) →
    ((row m : ℕ) (rest : List ℕ) → IsCoprimeInRange (rows_from 0) row → IsCoprimeInRange multiplier_range m →
    split 32 text ≢ decimal row ∷ decimal m ∷ split 32 rest) →
    (r : Bool) → IsTrue r ↔ GoesOn (Then (IsNumberInRange (rows_from least)) (Alone (IsNumberInRange multiplier_range))) text room →
    IsTrue r ↔ GoesOn (PartsWords least) text room
part_last text room least none r h = (λ is. forth (h.0 is), λ on. h.1 (back on.0 on.1.0 on.1.1 on.1.2 on.1.3 on.2))
  where
    one : List (List ℕ) → Type 0
    one ws = Then (IsNumberInRange (rows_from least)) (Alone (IsNumberInRange multiplier_range)) ws

    said : (ws : List (List ℕ)) → one ws → PartsWords least ws
    said [] is = absurd is
    said (w ∷ []) is = absurd is.1
    said (w ∷ (v ∷ [])) is = ((is.0.0, is.1.0) ∷ [], λ e. cc, (is.0.1, is.1.1, tt), ap (λ l. l ∷ v ∷ []) is.0.2 ∙ ap (λ l. decimal is.0.0 ∷ l ∷ []) is.1.2)
    said (w ∷ (v ∷ (u ∷ us))) is = absurd is.1

    forth : GoesOn one text room → GoesOn (PartsWords least) text room
    forth on = (on.0, said (split 32 (text ++ on.0)) on.1, on.2)

    from : (row m : ℕ) (ws : List (List ℕ)) → IsCoprimeInRange (rows_from least) row → IsCoprimeInRange multiplier_range m → ws ≡ decimal row ∷ decimal m ∷ [] →
        one ws
    from row m ws among positive e = subst one (sym e) ((row, among, refl), (m, positive, refl))

    ends : (row m : ℕ) (more : List ℕ) → IsCoprimeInRange (rows_from least) row → IsCoprimeInRange multiplier_range m → length more ≤ room →
        StandsOrGrows (decimal row ∷ decimal m ∷ []) text more → GoesOn one text room
    ends row m more among positive within (inl stands) =
        absurd (none row m stands.0 (record { least = omega arith; greatest = among.greatest; coprime = among.coprime })
        positive stands.1)
    ends row m more among positive within (inr grows) = (grows.0, from row m (split 32 (text ++ grows.0)) among positive grows.1, omega (arith, grows.2))

    back : (more : List ℕ) (ps : List (ℕ × ℕ)) → ps ≢ [] → IsRising least ps → split 32 (text ++ more) ≡ multiplier_words ps →
        length more ≤ room → GoesOn one text room
    back more [] some rising is within = absurd (some refl)
    back more (p ∷ []) some rising is within = (more, from p.0 p.1 (split 32 (text ++ more)) rising.0 rising.1 is, within)
    back more (p ∷ (q ∷ qs)) some rising is within =
        ends p.0 p.1 more rising.0 rising.1 within (first_words (decimal p.0) (decimal p.1 ∷ []) (multiplier_words (q ∷ qs)) text more (λ e. cc) is)

-- the text behind a member, where there is one
pub member_behind : (text : List ℕ) (m : Member) (words : List (List ℕ)) (found : Option (Bor (List ℕ))) →
    BoundsMember m → split 32 text ≡ member_words m ++ words →
    MatchOption found (words ≡ []) (λ rest. words ≡ split 32 rest.now) →
    MatchOption found ((x : Member) (rest : List ℕ) → BoundsMember x → split 32 text ≢ member_words x ++ split 32 rest)
    (λ rest. (x : Member) × BoundsMember x × (split 32 text ≡ member_words x ++ split 32 rest.now))
member_behind text m words None bounds e none = λ x rest b is. split-some 32 rest (sym (same_rest m x words (split 32 rest) (sym e ∙ is)) ∙ none)
member_behind text m words (Some rest) bounds e is = (m, bounds, e ∙ ap (λ l. member_words m ++ l) is)
