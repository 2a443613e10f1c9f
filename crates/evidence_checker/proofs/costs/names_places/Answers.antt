use Rattle.std.proofs.Common.{sym}
use Rattle.std.proofs.lemmas.Slice.Zip.{AllZip-long}
use Rattle.evidence_checker.proofs.LineLaws.{false_true}
use Rattle.evidence_checker.proofs.costs.names_places.Goals as goal

pub returns-then-names-lines : goal.returns-then-names-lines
returns-then-names-lines c =
    (λ h. absurd (false_true h), λ named. absurd (c.if-names-lines.true (sym (AllZip-long _ c.args.names.now c.args.lines.now named))))
