-- What stops the file stops the configuration.
use Rattle.std.proofs.lemmas.Result.{err_from_is_err_and}
use Rattle.config_reader.specs.FaultList.{config_fault}
use Rattle.input_files.specs.Readings.{unless_refused}
use Rattle.input_files.specs.Outcomes.{config_refused, file_read, longest_file}
use Rattle.input_files.proofs.Stops.{gave_stop}
use Rattle.input_files.proofs.reading.read_config_text.Goals as goal

pub returns-in_err-bytes : goal.returns-in_err-bytes
returns-in_err-bytes g c =
    let name = c.args.name.now in
    let p = err_from_is_err_and c.from_residual.result c.from_residual.ensures.1 in
    rw (p.1, p.2) (gave_stop (g.S.Shelf.gave c.args.shelf.now c.read_file.new.shelf) (file_read longest_file name)
    (λ bytes. unless_refused (config_refused name) (record { name = name; bytes = bytes }) (config_fault name bytes)) _ c.in_err-bytes.ensures.read)
