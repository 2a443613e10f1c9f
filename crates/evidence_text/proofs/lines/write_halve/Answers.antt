use Rattle.std.proofs.Common.{◌≡◌, ◌≤◌, ◌∷◌, ◌++◌, ℕ, List, [], length, codes, sym, subst, ap, ◌∙◌}
use Rattle.cost_base.specs.Decimal.{decimal}
use Rattle.design_problem.specs.declared.tree.Member.{Member}
use Rattle.design_problem.specs.Text.{step_word, ratio_word, members_words}
use Rattle.line_builder.specs.Words.{with_words}
use Rattle.line_builder.proofs.WordLaws.{spaced-with}
use Rattle.evidence_text.proofs.lines.write_halve.Goals as goal

-- words pushed one after another
pushed : (l1 l2 l3 l4 l5 l6 a b s p q start : List ℕ) → l1 ≡ start → l2 ≡ l1 ++ 32 ∷ a → l3 ≡ l2 ++ 32 ∷ b →
    l4 ≡ l3 ++ 32 ∷ s → l5 ≡ l4 ++ 32 ∷ p → l6 ≡ l5 ++ 32 ∷ q → l6 ≡ with_words start (a ∷ b ∷ s ∷ p ∷ q ∷ [])
pushed l1 l2 l3 l4 l5 l6 a b s p q start e1 e2 e3 e4 e5 e6 =
    e6
    ∙ ap (λ (l : List ℕ). l ++ 32 ∷ q)
    (e5 ∙ ap (λ (l : List ℕ). l ++ 32 ∷ p)
    (e4 ∙ ap (λ (l : List ℕ). l ++ 32 ∷ s)
    (e3 ∙ ap (λ (l : List ℕ). l ++ 32 ∷ b) (e2 ∙ ap (λ (l : List ℕ). l ++ 32 ∷ a) e1))))

pub push_members-requires : goal.push_members-requires
push_members-requires c =
    let wide = c.args.wide.now in
    let first = pushed c.start.new.self c.push_number.new.self c.push_number-2.new.self c.push_word.new.self
    c.push_ratio.new.line c.push_ratio-2.new.line (decimal c.args.var) (decimal c.args.value) (step_word wide.step)
    (ratio_word wide.left) (ratio_word wide.right) (codes "halve") c.start.ensures (c.push_number.ensures
    ∙ ap (λ (n : ℕ). c.start.new.self ++ 32 ∷ decimal n) c.from.ensures) (c.push_number-2.ensures
    ∙ ap (λ (n : ℕ). c.push_number.new.self ++ 32 ∷ decimal n) c.from-2.ensures) (c.push_word.ensures
    ∙ ap (λ (w : List ℕ). c.push_number-2.new.self ++ 32 ∷ w) c.step_word.ensures) c.push_ratio.ensures
    c.push_ratio-2.ensures in
    let same =
    spaced-with (codes "halve") (decimal c.args.var ∷ decimal c.args.value ∷ step_word wide.step ∷ ratio_word wide.left
    ∷ ratio_word wide.right ∷ members_words wide.basis)
    ∙ ap (λ (l : List ℕ). with_words l (members_words wide.basis)) (sym first)
    ∙ ap (λ (members : List Member). with_words c.push_ratio-2.new.line (members_words members)) (sym c.as_slice.ensures)
    in subst (λ (l : List ℕ). length l ≤ 65536) same c.requires

pub returns : goal.returns
returns c =
    let wide = c.args.wide.now in
    let first = pushed c.start.new.self c.push_number.new.self c.push_number-2.new.self c.push_word.new.self
    c.push_ratio.new.line c.push_ratio-2.new.line (decimal c.args.var) (decimal c.args.value) (step_word wide.step)
    (ratio_word wide.left) (ratio_word wide.right) (codes "halve") c.start.ensures (c.push_number.ensures
    ∙ ap (λ (n : ℕ). c.start.new.self ++ 32 ∷ decimal n) c.from.ensures) (c.push_number-2.ensures
    ∙ ap (λ (n : ℕ). c.push_number.new.self ++ 32 ∷ decimal n) c.from-2.ensures) (c.push_word.ensures
    ∙ ap (λ (w : List ℕ). c.push_number-2.new.self ++ 32 ∷ w) c.step_word.ensures) c.push_ratio.ensures
    c.push_ratio-2.ensures in
    c.push_members.ensures
    ∙ ap (λ (members : List Member). with_words c.push_ratio-2.new.line (members_words members)) c.as_slice.ensures
    ∙ ap (λ (l : List ℕ). with_words l (members_words wide.basis)) first
    ∙ sym (spaced-with (codes "halve")
    (decimal c.args.var ∷ decimal c.args.value ∷ step_word wide.step ∷ ratio_word wide.left
    ∷ ratio_word wide.right ∷ members_words wide.basis))
