use Rattle.std.proofs.Common.{◌∙◌, sym}
use Rattle.std.proofs.lemmas.Result.{IfOk-weaker}
use Rattle.spread_sets.proofs.LineNumbers.{line_there, no_line}
use Rattle.spread_sets.proofs.member_sets.set_of.Goals as goal

pub line_at-requires : goal.line_at-requires
line_at-requires c = (line_there c.args.lines.now c.args.path c.in-Some.number (sym c.in-Some.is ∙ c.requires)).0

pub returns-in-Some : goal.returns-in-Some
returns-in-Some c =
    let there = line_there c.args.lines.now c.args.path c.in-Some.number (sym c.in-Some.is ∙ c.requires) in
    IfOk-weaker c.from_slice.result _ _ (λ set is. is ∙ c.line_at.ensures ∙ there.1) c.from_slice.ensures

pub returns-in-None : goal.returns-in-None
returns-in-None c =
    let alone = no_line 0 c.args.lines.now c.args.path (sym c.requires ∙ c.in-None.is) in
    IfOk-weaker c.from_slice-in-None.result _ _ (λ set is. is ∙ sym alone) c.from_slice-in-None.ensures
