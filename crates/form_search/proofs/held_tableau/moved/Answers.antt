use Rattle.std.proofs.Common.{subst}
use Rattle.std.specs.Prelude.{Option}
use Rattle.form_search.specs.declared.held_tableau.HeldTableau.{HeldTableau}
use Rattle.form_search.specs.Tables.{IsTableauKept}
use Rattle.form_search.proofs.held_tableau.moved.Goals as goal

pub moved_there-requires-clause-ranges : goal.moved_there-requires-clause-ranges
moved_there-requires-clause-ranges c = c.requires.ranges

pub moved_there-requires-clause-few : goal.moved_there-requires-clause-few
moved_there-requires-clause-few c = c.requires.few

pub moved_there-requires-clause-fits : goal.moved_there-requires-clause-fits
moved_there-requires-clause-fits c =
    let forms = c.requires.fits.0 in
    (forms, subst (λ (kept : Option HeldTableau). IsTableauKept forms kept) c.in-Some.is c.requires.fits.1, c.requires.fits.2)

pub started-requires-clause-ranges : goal.started-requires-clause-ranges
started-requires-clause-ranges c = c.requires.ranges

pub started-requires-clause-few : goal.started-requires-clause-few
started-requires-clause-few c = c.requires.few

pub returns-in-Some : goal.returns-in-Some
returns-in-Some c forms kept = c.moved_there.ensures forms (subst (λ (o : Option HeldTableau). IsTableauKept forms o) c.in-Some.is kept)

pub returns-in-None : goal.returns-in-None
returns-in-None c forms kept = c.started.ensures forms
