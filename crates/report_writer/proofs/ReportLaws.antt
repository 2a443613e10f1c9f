-- What a report may be, by what its status and its text may be.
use Rattle.std.proofs.Common.{ℕ, sym, subst, List}
use Rattle.cost_base.specs.declared.Status.{Status}
use Rattle.report_writer.specs.declared.report.Report.{Report}
use Rattle.report_writer.specs.Reports.{Reports, bytes_in}

-- a report of this status and text may be written where they may
pub may_report : (may : Status → List ℕ → Type 0) (aim : Status) (bytes : List ℕ) (report : Report) →
    Reports aim bytes report → may aim bytes → may report.status (bytes_in report.text)
may_report may aim bytes report r h = subst (λ (b : List ℕ). may report.status b) (sym r.text) (subst (λ (s : Status). may s bytes) (sym r.status) h)
