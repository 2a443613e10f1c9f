use Rattle.form_search.proofs.held_tableau.moved_there.Goals as goal

pub moves_to-requires-clause-ranges : goal.moves_to-requires-clause-ranges
moves_to-requires-clause-ranges c = c.requires.ranges

pub moves_to-requires-clause-fits : goal.moves_to-requires-clause-fits
moves_to-requires-clause-fits c = c.requires.fits

pub returns-then-moves_to : goal.returns-then-moves_to
returns-then-moves_to c forms held = c.moves_to.ensures forms held c.if-moves_to.true

pub started-requires-clause-ranges : goal.started-requires-clause-ranges
started-requires-clause-ranges c = c.requires.ranges

pub started-requires-clause-few : goal.started-requires-clause-few
started-requires-clause-few c = c.requires.few

pub returns : goal.returns
returns c forms held = c.started.ensures forms
