use Rattle.std.proofs.Common.{◌∙◌, List, ℕ, sym, ap}
use Rattle.clap.specs.Faults.{fault_of, is_simple_and_free}
use Rattle.clap.specs.Simple.{app_of, is_simple, matches_of}
use Rattle.clap.specs.Values.{kind_of}
use Rattle.clap.specs.Walk.{is_empty}
use Rattle.text_lines.specs.Arguments.{texts}
use Rattle.command_words.proofs.Taken.{free_row, simple_row, some_fault}
use Rattle.command_words.proofs.reading.find_values.Goals as goal

pub returns-in-Ok : goal.returns-in-Ok
returns-in-Ok c =
    let is = c.in_ok-command.ensures in
    let words : List (List ℕ) = texts c.args.words.now in (
      ap (λ app. is_empty (fault_of app words)) (sym is)
          ∙ ap is_empty (c.in-Ok.ensures.kinds (ap is_simple_and_free is ∙ free_row c.args.name)),
      (c.in-Ok.ensures.matches (ap is_simple is ∙ simple_row c.args.name)).0 ∙ ap (λ app. matches_of app words) is,
    )

pub returns-in-Err : goal.returns-in-Err
returns-in-Err c =
    let is = c.in_ok-command.ensures in
    let words : List (List ℕ) = texts c.args.words.now in
    λ refused. ap (λ app. is_empty (fault_of app words)) (sym is)
    ∙ some_fault (fault_of (app_of c.in_ok-command.command) words) (kind_of c.in-Err.error)
    (c.in-Err.ensures.kinds (ap is_simple_and_free is ∙ free_row c.args.name)) (c.stop_of.ensures refused)
