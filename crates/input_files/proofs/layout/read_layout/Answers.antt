-- What was read so far is what the files say.
use Rattle.std.proofs.lemmas.Result.{err_from_is_err_and}
use Rattle.input_files.specs.Layouts.{area_read}
use Rattle.input_files.specs.Stops.{files_named}
use Rattle.input_files.proofs.Layouts.{after_area, lines_stop, layout_is}
use Rattle.input_files.proofs.Stops.{gave_stop}
use Rattle.input_files.proofs.layout.read_layout.Goals as goal

pub returns-in_err-layout : goal.returns-in_err-layout
returns-in_err-layout g c =
    let p = err_from_is_err_and c.from_residual.result c.from_residual.ensures.1 in
    rw (p.1, p.2) (gave_stop (g.S.Shelf.gave c.args.shelf.now c.read_area.new.shelf) (area_read (files_named c.args.words))
    (after_area (files_named c.args.words)) _ c.in_err-layout.ensures)

pub returns-in_err-check_lines : goal.returns-in_err-check_lines
returns-in_err-check_lines g c =
    let p = err_from_is_err_and c.from_residual-in_err-check_lines.result c.from_residual-in_err-check_lines.ensures.1 in
    rw (p.1, p.2) (lines_stop (g.S.Shelf.gave c.args.shelf.now c.read_area.new.shelf) (files_named c.args.words)
    c.in_ok-layout.layout _ c.in_ok-layout.ensures c.in_err-check_lines.ensures)

pub returns : goal.returns
returns g c =
    layout_is (g.S.Shelf.gave c.args.shelf.now c.read_area.new.shelf) (files_named c.args.words) c.in_ok-layout.layout _
    c.in_ok-layout.ensures c.in_ok-check_lines.ensures
