-- What `spread` makes is as what came of its files says.
use Rattle.command_words.specs.Jobs.{search_seen}
use Rattle.input_files.specs.Stops.{files_named}
use Rattle.path_commands.specs.SetFiles.{spread_read}
use Rattle.path_commands.specs.Spreads.{MaySpread}
use Rattle.designer_command.specs.Runs.{searched}
use Rattle.designer_command.proofs.Runs.{files_made}
use Rattle.designer_command.proofs.dispatch.made_spread.Goals as goal

pub returns : goal.returns
returns g c =
    let s = search_seen c.args.search.now in
    files_made (g.S.Shelf.gave c.args.shelf.now c.spread_report.new.shelf) (λ names. spread_read names c.args.sets.now) (MaySpread s.limits)
    c.spread_report.result (files_named c.words.result) (searched s) c.words.ensures c.spread_report.ensures
