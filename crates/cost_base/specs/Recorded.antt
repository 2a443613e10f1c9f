-- What a shelf and a sink tell that keep a record.
use Rattle.std.specs.Prelude.{List, Option}
use Rattle.cost_base.specs.Histories.{Taken}
use Rattle.cost_base.specs.Records.{PutPiece, unless_lacking}
use Rattle.cost_base.specs.declared.recorded_shelf.RecordedShelf.{RecordedShelf}
use Rattle.cost_base.specs.declared.recorded_sink.RecordedSink.{RecordedSink}

-- what came of each file that the shelf was asked for, in order
abbrev pub files_recorded : {S : Type 0} → RecordedShelf S → Option (List Taken)
files_recorded shelf = unless_lacking shelf.lacking shelf.files.items

-- the pieces that were put, in order
abbrev pub pieces_recorded : {K : Type 0} → RecordedSink K → Option (List PutPiece)
pieces_recorded sink = unless_lacking sink.lacking sink.pieces.items

-- the shelf of which files are recorded
abbrev pub shelf_recorded : {S : Type 0} → RecordedShelf S → S
shelf_recorded shelf = shelf.shelf

-- the sink of which pieces are recorded
abbrev pub sink_recorded : {K : Type 0} → RecordedSink K → K
sink_recorded sink = sink.sink
