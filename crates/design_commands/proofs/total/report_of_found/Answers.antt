-- Each kind of what was found has its report.
use Rattle.design_commands.proofs.total.report_of_found.Goals as goal

pub returns-in-Least : goal.returns-in-Least
returns-in-Least c = rw c.in-Least.is c.least_report.ensures

pub returns-in-Undecided : goal.returns-in-Undecided
returns-in-Undecided c = rw c.in-Undecided.is c.undecided_report.ensures
