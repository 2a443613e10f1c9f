-- Lines that are begun, word by word.
use Rattle.std.proofs.Common.{◌≡◌, ◌≢◌, ℕ, ◌+◌, ◌<◌, ◌≤◌, List, [], ◌∷◌, ◌++◌, length, eqb, Bool, false, MatchOption, Option, Some, None, ◌↔◌, IsTrue, refl, sym, ap, subst, ◌∙◌, arith, inl, inr, append_assoc, append-nil, length-append}
use Rattle.std.specs.Prelude.{◌⊎◌}
use Rattle.std.proofs.lemmas.List.Elements.{All-head, All-tail}
use Rattle.cost_base.specs.Words.{HasNoSpace}
use Rattle.design_problem.specs.Text.{spaced}
use Rattle.text_lines.specs.Lines.{grow}
use Rattle.text_lines.specs.Numbers.{split}
use Rattle.text_lines.proofs.Pieces.{split-some}
use Rattle.begun_lines.specs.BegunLines.{GoesOn, Then, Alone, Never, IsLeastCompletion, IsWordStep, IsNoStep, IsNumberInRange, IsRatio}
use Rattle.begun_lines.specs.declared.numbers.Numbers.{Numbers}
use Rattle.begun_lines.specs.declared.begun.Begun.{Begun}
use Rattle.answer_lines.proofs.ListParts.{head-is, tail-is}
use Rattle.answer_lines.proofs.LineFronts.{split-front, split-whole}
use Rattle.answer_lines.proofs.SpacedWords.{split-alone, spaced-split, decimal-spaceless}
use Rattle.answer_lines.proofs.LineEntries.{ratio-spaceless}

-- the first word of a text, alone or with a text behind its space
pub record FirstWord (text w : List ℕ) (ws : List (List ℕ)) : Type 0 where
  pub spaceless : HasNoSpace w
  pub parts : ((ws ≡ []) × (text ≡ w)) ⊎ ((rest : List ℕ) × (text ≡ w ++ 32 ∷ rest) × (ws ≡ split 32 rest))

pub first_word : (text w : List ℕ) (ws : List (List ℕ)) → split 32 text ≡ w ∷ ws → FirstWord text w ws
first_word text w ws e = record { spaceless = split-whole 32 text w ws e; parts = cases ws e }
  where
    cases : (ws : List (List ℕ)) → split 32 text ≡ w ∷ ws → ((ws ≡ []) × (text ≡ w)) ⊎ ((rest : List ℕ) × (text ≡ w ++ 32 ∷ rest) × (ws ≡ split 32 rest))
    cases [] e = inl (refl, sym (spaced-split text) ∙ ap spaced e)
    cases (v ∷ vs) e =
        let parts : text ≡ w ++ 32 ∷ spaced (v ∷ vs) = sym (spaced-split text) ∙ ap spaced e in
        let cut : split 32 text ≡ w ∷ split 32 (spaced (v ∷ vs)) = ap (split 32) parts
        ∙ split-front 32 w (spaced (v ∷ vs)) (split-whole 32 text w (v ∷ vs) e) in
        inr (spaced (v ∷ vs), parts, tail-is w w (v ∷ vs) (split 32 (spaced (v ∷ vs))) (sym e ∙ cut))

-- more bytes behind a word without spaces
pub longer_word : (t more m : List ℕ) (ms : List (List ℕ)) → HasNoSpace t → split 32 more ≡ m ∷ ms → split 32 (t ++ more) ≡ (t ++ m) ∷ ms
longer_word [] more m ms spaceless e = e
longer_word (c ∷ cs) more m ms spaceless e =
    let other : eqb c 32 ≡ false = All-head (λ x. eqb x 32 ≡ false) c cs spaceless in
    rw other (ap (grow c) (longer_word cs more m ms (All-tail (λ x. eqb x 32 ≡ false) c cs spaceless) e))

-- more bytes behind a word that has a space behind it
pub word_behind : (text w rest more : List ℕ) → text ≡ w ++ 32 ∷ rest → HasNoSpace w → split 32 (text ++ more) ≡ w ∷ split 32 (rest ++ more)
word_behind text w rest more parts spaceless =
    ap (λ l. split 32 (l ++ more)) parts ∙ ap (split 32) (append_assoc w (32 ∷ rest) more) ∙ split-front 32 w (rest ++ more) spaceless

-- a text's pieces
pub record Cut (text : List ℕ) : Type 0 where
  pub w : List ℕ
  pub ws : List (List ℕ)
  pub is : split 32 text ≡ w ∷ ws

pub cut_of : (text : List ℕ) → Cut text
cut_of text = cases (split 32 text) refl
  where
    cases : (ps : List (List ℕ)) → split 32 text ≡ ps → Cut text
    cases [] e = absurd (split-some 32 text e)
    cases (p ∷ ps) e = record { w = p; ws = ps; is = e }

-- what goes on with a text that is one begun word: the rest of the word, and what stands behind it
pub record GrownWord (t more w : List ℕ) (ws : List (List ℕ)) : Type 0 where
  pub grown : List ℕ
  pub word : w ≡ t ++ grown
  pub parts : ((ws ≡ []) × (more ≡ grown)) ⊎ ((rest : List ℕ) × (more ≡ grown ++ 32 ∷ rest) × (ws ≡ split 32 rest))

pub grown_word : (t more w : List ℕ) (ws : List (List ℕ)) → split 32 t ≡ t ∷ [] → split 32 (t ++ more) ≡ w ∷ ws → GrownWord t more w ws
grown_word t more w ws alone e =
    let cut = cut_of more in
    let longer = longer_word t more cut.w cut.ws (split-whole 32 t t [] alone) cut.is in
    let same : ws ≡ cut.ws = tail-is w (t ++ cut.w) ws cut.ws (sym e ∙ longer) in
    record {
      grown = cut.w;
      word = head-is w (t ++ cut.w) ws cut.ws (sym e ∙ longer);
      parts = subst (λ vs. ((vs ≡ []) × (more ≡ cut.w))
          ⊎ ((rest : List ℕ) × (more ≡ cut.w ++ 32 ∷ rest) × (vs ≡ split 32 rest))) (sym same)
          (first_word more cut.w cut.ws cut.is).parts;
    }

-- the words of a text that grows begin with its first word, which itself may grow only at the text's end
pub record GrownFirst (text more v w : List ℕ) (ws : List (List ℕ)) : Type 0 where
  pub grown : List ℕ
  pub word : w ≡ v ++ grown

pub grown_first : (text more v w : List ℕ) (vs ws : List (List ℕ)) → split 32 text ≡ v ∷ vs → split 32 (text ++ more) ≡ w ∷ ws → GrownFirst text more v w ws
grown_first text more v w vs ws first e =
    let whole = first_word text v vs first in
    elim whole.parts [
      | inl one ↦
          let here = grown_word v more w ws (split-alone v whole.spaceless) (ap (λ l. split 32 (l ++ more)) (sym one.1) ∙ e) in
          record { grown = here.grown; word = here.word }
      | inr more_words ↦
          let cut = word_behind text v more_words.0 more more_words.1 whole.spaceless in
          record { grown = []; word = head-is w v ws (split 32 (more_words.0 ++ more)) (sym e ∙ cut) ∙ sym (append-nil v) }
    ]

-- a word that no bytes make one of the kind
pub no_step : (word : List ℕ → Type 0) (b : Begun) (v : List ℕ) (vs : List (List ℕ)) → split 32 b.text.now ≡ v ∷ vs → Never word v → IsNoStep word b
no_step word b v vs first never = λ more w ws is some e within.
    let grown = grown_first b.text.now more v w vs ws first e in
    never grown.grown (subst word grown.word is)

-- what a word that lacks some bytes leads to, where it is followed by a space or by nothing
abbrev pub NotBehind : Begun → ℕ → Type 0
NotBehind b missing = ((split 32 b.text.now ≢ b.text.now ∷ []) × (missing ≢ 0)) ⊎ ((split 32 b.text.now ≡ b.text.now ∷ []) × (b.room < missing + 1))

abbrev pub StandsBehind : Begun → ℕ → Begun → Type 0
StandsBehind b missing after =
    ((word : List ℕ) × (b.text.now ≡ word ++ 32 ∷ after.text.now)
    × (split 32 b.text.now ≡ word ∷ split 32 after.text.now) × (missing ≡ 0) × (after.room ≡ b.room))
    ⊎ ((split 32 b.text.now ≡ b.text.now ∷ []) × (after.text.now ≡ []) × (after.room + missing + 1 ≡ b.room))

step_here : (word : List ℕ → Type 0) (b after : Begun) (v : List ℕ) (vs : List (List ℕ)) (n : ℕ) → IsLeastCompletion word v n → split 32 b.text.now ≡ v ∷ vs →
    (u : List ℕ) → b.text.now ≡ u ++ 32 ∷ after.text.now → split 32 b.text.now ≡ u ∷ split 32 after.text.now → n ≡ 0 → after.room ≡ b.room →
    IsWordStep word b after
step_here word b after v vs n least first u parts cut none same =
    let spaceless : HasNoSpace u = split-whole 32 b.text.now u (split 32 after.text.now) cut in
    let is_u : v ≡ u = head-is v u vs (split 32 after.text.now) (sym first ∙ cut) in
    let empty : least.more ≡ [] = no_bytes least.more (omega (arith, least.count_is)) in
    let whole : word u = subst word (ap (λ m. v ++ m) empty ∙ append-nil v ∙ is_u) least.fits in
    record {
      forth =
          λ more w ws is some e within.
          (more, tail-is w u ws (split 32 (after.text.now ++ more)) (sym e ∙ word_behind b.text.now u after.text.now more parts spaceless), omega arith);
      back = λ left within. (left, u, whole, word_behind b.text.now u after.text.now left parts spaceless, omega arith);
    }
  where
    no_bytes : (l : List ℕ) → length l ≡ 0 → l ≡ []
    no_bytes [] e = refl
    no_bytes (c ∷ cs) e = absurd (omega arith)

-- the bytes that go on with a begun word, where words follow it
record Onward (word : List ℕ → Type 0) (text more w : List ℕ) (ws : List (List ℕ)) (n : ℕ) : Type 0 where
  rest : List ℕ
  is : ws ≡ split 32 rest
  few : n + 1 + length rest ≤ length more

onward : (word : List ℕ → Type 0) (text more w : List ℕ) (ws : List (List ℕ)) (n : ℕ) → IsLeastCompletion word text n →
    split 32 text ≡ text ∷ [] → word w → ws ≢ [] → split 32 (text ++ more) ≡ w ∷ ws →
    Onward word text more w ws n
onward word text more w ws n least alone is some e =
    let grown = grown_word text more w ws alone e in
    elim grown.parts [
      | inl one ↦ absurd (some one.0)
      | inr behind ↦
          record {
            rest = behind.0;
            is = behind.2;
            few = omega (arith, least.least grown.grown (subst word grown.word is), ap length behind.1, length-append grown.grown (32 ∷ behind.0));
          }
    ]

step_grown : (word : List ℕ → Type 0) → ((w : List ℕ) → word w → HasNoSpace w) → (b after : Begun) (n : ℕ) →
    IsLeastCompletion word b.text.now n → split 32 b.text.now ≡ b.text.now ∷ [] →
    after.text.now ≡ [] → after.room + n + 1 ≡ b.room → IsWordStep word b after
step_grown word spaceless b after n least alone empty room = record {
  forth =
      λ more w ws is some e within.
      let on = onward word b.text.now more w ws n least alone is some e in
      (on.rest, on.is ∙ ap (λ l. split 32 (l ++ on.rest)) (sym empty), omega (arith, on.few));
  back =
      λ left within.
      let grown : List ℕ = b.text.now ++ least.more in
      let cut : split 32 (b.text.now ++ (least.more ++ 32 ∷ left)) ≡ grown ∷ split 32 left =
      ap (split 32) (sym (append_assoc b.text.now least.more (32 ∷ left))) ∙ split-front 32 grown left (spaceless grown least.fits) in (
        least.more ++ 32 ∷ left,
        grown,
        least.fits,
        cut ∙ ap (λ l. grown ∷ split 32 (l ++ left)) (sym empty),
        omega (arith, least.count_is, length-append least.more (32 ∷ left)),
      );
}

-- what follows a word that lacks some bytes
pub step_behind : (word : List ℕ → Type 0) → ((w : List ℕ) → word w → HasNoSpace w) →
    (b : Begun) (v : List ℕ) (vs : List (List ℕ)) (n : ℕ) → IsLeastCompletion word v n → split 32 b.text.now ≡ v ∷ vs →
    (r : Option Begun) → MatchOption r (NotBehind b n) (λ after. StandsBehind b n after) → MatchOption r (IsNoStep word b) (λ after. IsWordStep word b after)
step_behind word spaceless b v vs n least first (Some after) (inl here) = step_here word b after v vs n least first here.0 here.1 here.2 here.3 here.4
step_behind word spaceless b v vs n least first (Some after) (inr grown) =
    let is : v ≡ b.text.now = head-is v b.text.now vs [] (sym first ∙ grown.0) in
    step_grown word spaceless b after n (subst (λ u. IsLeastCompletion word u n) is least) grown.0 grown.1 grown.2
step_behind word spaceless b v vs n least first None (inl not) = λ more w ws is some e within.
    elim (first_word b.text.now v vs first).parts [
      | inl one ↦ not.0 (first ∙ ap (λ us. v ∷ us) one.0 ∙ ap (λ u. u ∷ []) (sym one.1))
      | inr behind ↦
          let same : w ≡ v = head-is w v ws (split 32 (behind.0 ++ more))
          (sym e ∙ word_behind b.text.now v behind.0 more behind.1 (first_word b.text.now v vs first).spaceless) in
          not.1 (omega (arith, least.least [] (subst word (same ∙ sym (append-nil v)) is)))
    ]
step_behind word spaceless b v vs n least first None (inr tight) = λ more w ws is some e within.
    let same : v ≡ b.text.now = head-is v b.text.now vs [] (sym first ∙ tight.0) in
    let on = onward word b.text.now more w ws n (subst (λ u. IsLeastCompletion word u n) same least) tight.0 is some e in
    omega (arith, on.few, tight.1)

-- one word alone
pub alone_is : (word : List ℕ → Type 0) (ps : List (List ℕ)) → Alone word ps → (w : List ℕ) × word w × (ps ≡ w ∷ [])
alone_is word [] is = absurd is
alone_is word (w ∷ []) is = (w, is, refl)
alone_is word (w ∷ (v ∷ vs)) is = absurd is

-- a line that may not end with a word
pub last_never : (word : List ℕ → Type 0) (text v : List ℕ) (vs : List (List ℕ)) (room : ℕ) → split 32 text ≡ v ∷ vs →
    Never word v → IsTrue false ↔ GoesOn (Alone word) text room
last_never word text v vs room first never = (
  λ no. absurd (cc),
  λ on.
      let is = alone_is word (split 32 (text ++ on.0)) on.1 in
      let grown = grown_first text on.0 v is.0 vs [] first is.2 in
      absurd (never grown.grown (subst word grown.word is.1)),
)

-- a line that may end with a word
pub last_word : (word : List ℕ → Type 0) → ((w : List ℕ) → word w → HasNoSpace w) →
    (text v : List ℕ) (vs : List (List ℕ)) (room n : ℕ) → split 32 text ≡ v ∷ vs → IsLeastCompletion word v n → (r : Bool) →
    IsTrue r ↔ ((split 32 text ≡ text ∷ []) × (n ≤ room)) → IsTrue r ↔ GoesOn (Alone word) text room
last_word word spaceless text v vs room n first least r h = (λ yes_it. forth (h.0 yes_it), λ on. h.1 (back on))
  where
    forth : (split 32 text ≡ text ∷ []) × (n ≤ room) → GoesOn (Alone word) text room
    forth p =
        let is : v ≡ text = head-is v text vs [] (sym first ∙ p.0) in
        let fits : word (text ++ least.more) = subst (λ u. word (u ++ least.more)) is least.fits in
        (least.more, subst (Alone word) (sym (split-alone (text ++ least.more) (spaceless (text ++ least.more) fits))) fits, omega (arith, least.count_is, p.1))

    back : GoesOn (Alone word) text room → (split 32 text ≡ text ∷ []) × (n ≤ room)
    back on =
        let is = alone_is word (split 32 (text ++ on.0)) on.1 in
        elim (first_word text v vs first).parts [
          | inl one ↦
              let alone : split 32 text ≡ text ∷ [] = first ∙ ap (λ us. v ∷ us) one.0 ∙ ap (λ u. u ∷ []) (sym one.1) in
              let grown = grown_word text on.0 is.0 [] alone is.2 in
              elim grown.parts [
                | inl here ↦ (
                  alone,
                  omega (
                    arith,
                    least.least grown.grown (subst word (grown.word ∙ ap (λ u. u ++ grown.grown) one.1) is.1),
                    ap length here.1,
                    on.2,
                  ),
                )
                | inr behind ↦ absurd (split-some 32 behind.0 (sym behind.2))
              ]
          | inr behind ↦
              let cut = word_behind text v behind.0 on.0 behind.1 (first_word text v vs first).spaceless in
              absurd (split-some 32 (behind.0 ++ on.0) (tail-is v is.0 (split 32 (behind.0 ++ on.0)) [] (sym cut ∙ is.2)))
        ]

-- a line that no word goes on with
pub stops : (word : List ℕ → Type 0) (said : List (List ℕ) → Type 0) (b : Begun) → IsNoStep word b → (said [] → ⊥) →
    IsTrue false ↔ GoesOn (Then word said) b.text.now b.room
stops word said b none some = (
  λ no. absurd (cc),
  λ on.
      let cut = cut_of (b.text.now ++ on.0) in
      let says : Then word said (cut.w ∷ cut.ws) = subst (Then word said) cut.is on.1 in
      absurd (none on.0 cut.w cut.ws says.0 (λ e. some (subst said e says.1)) cut.is on.2),
)

-- a line that goes on with a word and what follows it
pub goes : (word : List ℕ → Type 0) (said : List (List ℕ) → Type 0) (b after : Begun) → IsWordStep word b after →
    (said [] → ⊥) → (r : Bool) → IsTrue r ↔ GoesOn said after.text.now after.room →
    IsTrue r ↔ GoesOn (Then word said) b.text.now b.room
goes word said b after step some r h = (λ yes_it. forth (h.0 yes_it), λ on. h.1 (back on))
  where
    forth : GoesOn said after.text.now after.room → GoesOn (Then word said) b.text.now b.room
    forth on =
        let to = step.back on.0 on.2 in
        (to.0, subst (Then word said) (sym to.3) (to.2, on.1), to.4)

    back : GoesOn (Then word said) b.text.now b.room → GoesOn said after.text.now after.room
    back on =
        let cut = cut_of (b.text.now ++ on.0) in
        let says : Then word said (cut.w ∷ cut.ws) = subst (Then word said) cut.is on.1 in
        let to = step.forth on.0 cut.w cut.ws says.0 (λ e. some (subst said e says.1)) cut.is on.2 in
        (to.0, subst said to.1 says.1, to.2)

-- a name that a word doesn't begin
pub never_name : (wanted word : List ℕ) → ((rest : List ℕ) → wanted ≢ word ++ rest) → Never (λ w. w ≡ wanted) word
never_name wanted word none = λ more e. none more (sym e)

-- what a word lacks of a name
pub least_name : (wanted word missing : List ℕ) → wanted ≡ word ++ missing → IsLeastCompletion (λ w. w ≡ wanted) word (length missing)
least_name wanted word missing e = record {
  more = missing;
  fits = sym e;
  count_is = refl;
  least = λ other is. omega (arith, ap length e, ap length is, length-append word missing, length-append word other);
}

pub name-spaceless : (wanted : List ℕ) → HasNoSpace wanted → (w : List ℕ) → w ≡ wanted → HasNoSpace w
name-spaceless wanted spaceless w e = subst HasNoSpace (sym e) spaceless

pub number-spaceless : (numbers : Numbers) (w : List ℕ) → IsNumberInRange numbers w → HasNoSpace w
number-spaceless numbers w is = subst HasNoSpace (sym is.2) (decimal-spaceless is.0)

pub ratio_word-spaceless : (w : List ℕ) → IsRatio w → HasNoSpace w
ratio_word-spaceless w is = subst HasNoSpace (sym is.2) (ratio-spaceless is.0)
