use Rattle.std.proofs.Common.{◌≡◌, ℕ, List, [], ◌++◌, ◌∷◌, true≢false, sym, ◌∙◌, Option, Some, None, codes}
use Rattle.refusal_sentences.specs.Sentences.{told_line}
use Rattle.refusal_sentences.proofs.Cuts.{behind_first, first_of_line, first-no_space, line_parts}
use Rattle.refusal_sentences.proofs.line.parts_of.Goals as goal

-- the line without its LF is the first word and what stands behind
ended : (number : ℕ) (file : Option (List ℕ)) (place : ℕ) (line text : List ℕ) → line ≡ told_line number file place →
    ((text' : List ℕ) → line ≡ text' ++ 10 ∷ [] → text ≡ text') → text ≡ first_of_line file ++ 32 ∷ behind_first number file place
ended number file place line text is without = without _ (is ∙ line_parts number file place)

pub returns-in_err-first : goal.returns-in_err-first
returns-in_err-first c number place file below is =
    absurd (c.in_err-first.ensures (first_of_line file) (behind_first number file place) (first-no_space file)
    (ended number file place c.args.line.now c.without_end.result.now is c.without_end.ensures))

pub returns-then-eq : goal.returns-then-eq
returns-then-eq c number place (Some file) below is =
    let first = c.in_ok-first.ensures (codes "refused") (behind_first number (Some file) place) (first-no_space (Some file))
    (ended number (Some file) place c.args.line.now c.without_end.result.now is c.without_end.ensures) in
    c.refusal_in.ensures number place file below first.1
returns-then-eq c number place None below is =
    let first = c.in_ok-first.ensures (codes "rejected") (behind_first number None place) (first-no_space None)
    (ended number None place c.args.line.now c.without_end.result.now is c.without_end.ensures) in
    let same = rw (first.0, c.as_slice.ensures) at c.if-eq.ensures in
    absurd (true≢false same)

pub returns-then-eq-2 : goal.returns-then-eq-2
returns-then-eq-2 c number place (Some file) below is =
    let first = c.in_ok-first.ensures (codes "refused") (behind_first number (Some file) place) (first-no_space (Some file))
    (ended number (Some file) place c.args.line.now c.without_end.result.now is c.without_end.ensures) in
    let same = rw (first.0, c.as_slice.ensures) at c.if-eq.ensures in
    absurd (true≢false (sym same))
returns-then-eq-2 c number place None below is =
    let first = c.in_ok-first.ensures (codes "rejected") (behind_first number None place) (first-no_space None)
    (ended number None place c.args.line.now c.without_end.result.now is c.without_end.ensures) in
    c.rejection_in.ensures number place below first.1

pub returns-else-eq-2 : goal.returns-else-eq-2
returns-else-eq-2 c number place (Some file) below is =
    let first = c.in_ok-first.ensures (codes "refused") (behind_first number (Some file) place) (first-no_space (Some file))
    (ended number (Some file) place c.args.line.now c.without_end.result.now is c.without_end.ensures) in
    let same = rw (first.0, c.as_slice.ensures) at c.if-eq.ensures in
    absurd (true≢false (sym same))
returns-else-eq-2 c number place None below is =
    let first = c.in_ok-first.ensures (codes "rejected") (behind_first number None place) (first-no_space None)
    (ended number None place c.args.line.now c.without_end.result.now is c.without_end.ensures) in
    let same = rw (first.0, c.as_slice-else-eq.ensures) at c.if-eq-2.ensures in
    absurd (true≢false (sym same))
