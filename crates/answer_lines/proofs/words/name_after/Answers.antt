use Rattle.std.proofs.Common.{◌≡◌, sym, ◌∙◌, subst}
use Rattle.std.proofs.lemmas.List.{append_cancel_left}
use Rattle.cost_base.specs.Words.{IsOneWord}
use Rattle.answer_lines.proofs.words.name_after.Goals as goal

pub returns-else-is_one_word : goal.returns-else-is_one_word
returns-else-is_one_word c =
    λ name word e.
    let same : name ≡ c.in_ok-name.name.now = append_cancel_left c.args.front.now name c.in_ok-name.name.now (sym e ∙ c.in_ok-name.ensures) in
    absurd (cc (c.is_one_word.ensures.1 (subst IsOneWord same word)))
