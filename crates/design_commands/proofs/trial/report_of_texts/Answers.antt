-- The texts of the trial take the place of files.
use Rattle.std.proofs.Common.{◌≡◌, ℕ, ◌∙◌, refl, sym, ap, subst, List, [], All, length, Some}
use Rattle.std.specs.Prelude.{codes}
use Rattle.std.specs.Str.{IsUtf8}
use Rattle.form_search.proofs.AdvisorLaws.{left_alike}
use Rattle.cost_base.specs.Histories.{HasGiven}
use Rattle.trial_maker.specs.declared.TrialTexts.{TrialTexts}
use Rattle.text_lines.specs.Arguments.{texts}
use Rattle.input_files.specs.Ends.{text_named}
use Rattle.design_commands.specs.Trials.{named_trial_texts}
use Rattle.design_commands.proofs.MadeNames.{names_as_texts, names_utf8}
use Rattle.design_commands.proofs.Trials.{trial_asked, trial_tried, given_texts}
use Rattle.design_commands.proofs.trial.report_of_texts.Goals as goal

pub shelf_of-requires : goal.shelf_of-requires
shelf_of-requires g c = subst (λ (trial : TrialTexts). length trial.names ≡ length trial.configs) (sym c.requires.made) (names_as_texts c.args.trial.blocks)

pub words_of-requires : goal.words_of-requires
words_of-requires g c = subst (λ (names : List (List ℕ)). All IsUtf8 names)
    (sym (c.as_slice.ensures ∙ ap (λ (trial : TrialTexts). trial.names) c.requires.made)) (names_utf8 c.args.trial.blocks)

pub returns-clause-tried : goal.returns-clause-tried
returns-clause-tried g c =
    let before = c.in_ok-shelf.shelf.files.items in
    let now = c.report_on_texts.new.shelf.files.items in
    let names : texts c.as_slice-2.result.now ≡ c.args.made.now.names = ap texts c.as_slice-2.ensures.value ∙ c.in_ok-configs.ensures ∙ c.as_slice.ensures in
    trial_tried (λ came. HasGiven (λ name. Some (text_named before name)) (λ name. Some (text_named now name)) [] []
    came) c.args.trial.blocks c.args.trial.start c.args.made.now
    (record { request = codes "request.txt"; configs = texts c.as_slice-2.result.now }) c.report_on_texts.result c.report_of.result _
    (λ came given. given_texts (named_trial_texts c.args.made.now) before now came c.in_ok-shelf.ensures given)
    (ap (λ (ns : List (List ℕ)). record { request = codes "request.txt"; configs = ns }) names) c.requires.made
    c.report_on_texts.ensures.read c.report_of.ensures

pub returns-clause-asked : goal.returns-clause-asked
returns-clause-asked g c =
    let before = c.in_ok-shelf.shelf.files.items in
    let now = c.report_on_texts.new.shelf.files.items in
    let names : texts c.as_slice-2.result.now ≡ c.args.made.now.names = ap texts c.as_slice-2.ensures.value ∙ c.in_ok-configs.ensures ∙ c.as_slice.ensures in
    trial_asked (λ came. HasGiven (λ name. Some (text_named before name)) (λ name. Some (text_named now name)) [] []
    came) c.args.trial.blocks c.args.trial.start c.args.made.now
    (record { request = codes "request.txt"; configs = texts c.as_slice-2.result.now }) c.report_on_texts.result c.report_of.result _ _ _
    (λ came given. given_texts (named_trial_texts c.args.made.now) before now came c.in_ok-shelf.ensures given)
    (ap (λ (ns : List (List ℕ)). record { request = codes "request.txt"; configs = ns }) names) c.requires.made
    c.report_on_texts.ensures.read c.report_on_texts.ensures.stopped c.report_of.ensures

pub returns-in_err-shelf-clause-advisors : goal.returns-in_err-shelf-clause-advisors
returns-in_err-shelf-clause-advisors g c = left_alike _ _ _ refl

pub returns-in_err-configs-clause-advisors : goal.returns-in_err-configs-clause-advisors
returns-in_err-configs-clause-advisors g c = left_alike _ _ _ refl
