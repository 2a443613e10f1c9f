use Rattle.std.proofs.Common.{sym, subst, ◌≤◌, List, ℕ}
use Rattle.std.proofs.lemmas.List.Elements.{All-map}
use Rattle.design_problem.specs.declared.answer.CostLine.{CostLine}
use Rattle.config_writer.specs.Rewriting.{costs_of, ReadsBack}
use Rattle.config_writer.proofs.ReadingBack.{reads_back, ok_both}
use Rattle.config_writer.proofs.rewriting.rewrite.Goals as goal

pub returns-clause-read_back : goal.returns-clause-read_back
returns-clause-read_back c =
    ok_both c.rewrite_lines.result c.rewrite_lines.ensures.written c.rewrite_lines.ensures.within
    (λ out written within.
    subst (ReadsBack c.args.file_name.now (costs_of c.args.lines.now) c.args.bytes.now) (sym written)
    (reads_back c.args.file_name.now c.args.bytes.now (costs_of c.args.lines.now) c.requires.accepted
    (All-map (λ (cost : List ℕ × ℕ). (1 ≤ cost.1) × (cost.1 ≤ 65535)) (λ (line : CostLine). (line.interface, line.cost))
    c.args.lines.now (λ k d below. (c.requires.lines.from k d below, within k d below)))))
