use Rattle.std.proofs.Common.{◌∙◌, ap, arith, List, Option, Some, map, get_or, set}
use Rattle.std.specs.Option.{option_or}
use Rattle.path_requests.specs.Meaning.{Range}
use Rattle.path_requests.proofs.ChosenLinks.{decided_named, decided_unknown, place_within}
use Rattle.path_requests.proofs.ranges.decide.Goals as goal

pub returns-then-place-len : goal.returns-then-place-len
returns-then-place-len c = λ f are.
    let d = c.args.names.now in
    let router = c.args.router.now in
    let interface = c.args.interface.now in
    let range = c.args.range in
    let old = c.args.decided.now.items in
    let link = c.in-Some.link in
    let found = c.in-Some.ensures.found in
    ap (λ (o : Option Range). set old link o) (c.or.ensures ∙ ap (λ (o : Option Range). option_or o (Some range)) c.index.ensures)
    ∙ ap (λ (xs : List (Option Range)). set xs link (option_or (get_or xs link c.index.result.now) (Some range))) are
    ∙ ap (λ k. set (map f d.links) k (option_or (get_or (map f d.links) k c.index.result.now) (Some range))) found.1
    ∙ decided_named d router interface f range c.index.result.now c.in-Some.ensures.base found.0

pub returns-else-place-len : goal.returns-else-place-len
returns-else-place-len c = λ f are.
    let found = c.in-Some.ensures.found in
    absurd (omega (
      arith,
      c.if-place-len.false,
      c.len.ensures,
      place_within c.args.names.now c.args.router.now c.args.interface.now f c.args.decided.now.items c.in-Some.link c.in-Some.ensures.base found.0 found.1 are,
    ))

pub returns-in-None : goal.returns-in-None
returns-in-None c = λ f are.
    are ∙ decided_unknown c.args.names.now c.args.router.now c.args.interface.now f c.args.range c.in-None.ensures.found
