use Rattle.std.proofs.Common.{◌∙◌, sym, ap, Some, codes}
use Rattle.clap.specs.Matches.{found_of}
use Rattle.clap.proofs.WalkLemmas.{raw_values-rows}
use Rattle.command_words.proofs.values.configs.Goals as goal

pub returns-in_ok-copies-in-Some : goal.returns-in_ok-copies-in-Some
returns-in_ok-copies-in-Some c =
    sym (c.in-Some.ensures ∙ raw_values-rows (found_of c.args.matches.now) (codes "CONFIG")) ∙ ap (λ t. Some t) (sym c.in_ok-copies-in-Some.ensures)

pub returns-in-None : goal.returns-in-None
returns-in-None c = λ _. sym (c.in-None.ensures ∙ raw_values-rows (found_of c.args.matches.now) (codes "CONFIG"))
