use Rattle.std.proofs.Common.{◌∙◌, ap, List, Bool, true, map, set}
use Rattle.path_requests.proofs.ChosenLinks.{marked_named, marked_unknown}
use Rattle.path_requests.proofs.symmetric.mark.Goals as goal

pub returns-in-Some : goal.returns-in-Some
returns-in-Some c = λ f are.
    let d = c.args.names.now in
    let found = c.in-Some.ensures.found in
    c.mark_within.ensures
    ∙ ap (λ (marks : List Bool). set marks c.in-Some.link true) are
    ∙ ap (λ k. set (map f d.links) k true) found.1
    ∙ marked_named d c.args.router.now c.args.interface.now f c.in-Some.ensures.base found.0

pub returns-in-None : goal.returns-in-None
returns-in-None c = λ f are. are ∙ marked_unknown c.args.names.now c.args.router.now c.args.interface.now f c.in-None.ensures.found
