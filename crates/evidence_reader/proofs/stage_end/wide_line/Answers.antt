use Rattle.std.proofs.Common.{codes, refl, zero}
use Rattle.answer_lines.specs.Grammar.{AtTree, AtEnd}
use Rattle.evidence_text.specs.declared.TreePart.TheVariants.{Undecided}
use Rattle.answer_lines.proofs.FirstLines.{read-one, lacks-wanted}
use Rattle.evidence_reader.proofs.stage_end.wide_line.Goals as goal

pub returns-in-Some : goal.returns-in-Some
returns-in-Some c =
    read-one (AtTree Undecided zero zero) AtEnd c.args.text.read _ c.args.text.left.now
    (codes "wide none") _ c.in-Some.ensures.0 (refl, refl) c.in-Some.ensures.1

pub returns-in-None : goal.returns-in-None
returns-in-None c =
    c.fault_at.ensures.stops (AtTree Undecided zero zero) (λ e. cc)
    (lacks-wanted (AtTree Undecided zero zero) c.args.text.left.now (codes "wide none") (λ line short. short) (λ line next is. is.0) c.in-None.ensures) c.begins_wide.ensures
