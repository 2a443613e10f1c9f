use Rattle.std.proofs.Common.{◌≡◌, sym, ◌∙◌}
use Rattle.design_problem.specs.Text.{members_words}
use Rattle.answer_lines.specs.Words.{words_left}
use Rattle.answer_lines.proofs.EntryWords.{only_halve, members-some, front-rest, front_of, front-fits}
use Rattle.answer_lines.proofs.entries.halve_of.Goals as goal

pub returns-in_default : goal.returns-in_default
returns-in_default c =
    only_halve (words_left c.args.words)
    (λ v b wide bounds fits e. c.in_default.ensures (front_of v b wide) (members_words wide.basis) (front-fits v b wide bounds fits) e)

pub returns-then-is_done : goal.returns-then-is_done
returns-then-is_done c =
    only_halve (words_left c.args.words)
    (λ v b wide bounds fits e.
    let rest : words_left c.in-Some.rest ≡ members_words wide.basis =
    front-rest (words_left c.args.words) c.in-Some.front (front_of v b wide) _ _ c.in-Some.ensures.1 e in
    members-some wide.basis fits.2 (sym rest ∙ c.is_done.ensures.0 c.if-is_done.true))
