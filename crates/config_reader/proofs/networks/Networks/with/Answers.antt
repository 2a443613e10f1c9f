use Rattle.std.proofs.Common.{rules, ◌≡◌, ◌∙◌, length, vec_len, cond, Some, sym, ap}
use Rattle.indexmap.specs.IndexMap.{get}
use Rattle.config_reader.specs.Sightings.{same_prefix, prefix_of_length, noted, lines_of_prefix}
use Rattle.config_reader.proofs.Sightings.{lines_with}
use Rattle.config_reader.proofs.networks.Networks.with.Goals as goal

pub invariant_of-result : goal.invariant_of-result
invariant_of-result c =
    let line = c.args.line in
    let lines = c.self.inside.lines.items in
    let own = prefix_of_length line.address line.length in
    let count_is : vec_len c.self.inside.lines ≡ length lines = search rules in
    let value_is : c.noted.result ≡ noted (length lines) line (get same_prefix c.self.inside.by_prefix own) =
    c.noted.ensures ∙ ap (λ n. noted n line c.copied-found.result) (c.len.ensures ∙ count_is)
    ∙ ap (noted (length lines) line) (c.copied-found.ensures ∙ c.get.ensures.value ∙ ap (get same_prefix c.self.inside.by_prefix) c.prefix_at-prefix.ensures) in
    let kept = lines_with (get same_prefix c.self.inside.by_prefix) (get same_prefix c.insert.new.self) lines line c.self.invariant
    (λ k. c.in_ok-insert.ensures.updates.0 k
    ∙ ap (λ p. cond (same_prefix p k) (Some c.noted.result) (get same_prefix c.self.inside.by_prefix k))
    c.prefix_at-prefix.ensures
    ∙ ap (λ v. cond (same_prefix own k) (Some v) (get same_prefix c.self.inside.by_prefix k)) value_is) in
    λ k. kept k ∙ ap (lines_of_prefix k) (sym c.in_ok-push.ensures.items)
