use Rattle.std.proofs.Common.{sym, ◌∙◌}
use Rattle.answer_lines.specs.Words.{words_left}
use Rattle.begun_lines.proofs.BegunEntries.{member_behind}
use Rattle.begun_lines.proofs.entries.behind_member.Goals as goal

pub returns : goal.returns
returns c =
    member_behind c.args.text.now c.in_ok-rest.field-0-0 (words_left c.in_ok-rest.rest) c.text.result
    c.in_ok-rest.ensures.0 (sym c.new.ensures ∙ c.in_ok-rest.ensures.1) c.text.ensures
