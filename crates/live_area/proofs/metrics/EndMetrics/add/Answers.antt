use Rattle.std.proofs.Common.{ap, sym, ◌∙◌, cond, ℕ, Option, Some}
use Rattle.indexmap.specs.IndexMap.{get}
use Rattle.live_area.specs.declared.metrics.LinkName.{LinkName}
use Rattle.live_area.specs.LiveLinks.{same_link}
use Rattle.live_area.specs.Indexes.{metric_noted}
use Rattle.live_area.proofs.IndexLaws.{metric_put, nothing_put}
use Rattle.live_area.proofs.metrics.EndMetrics.add.Goals as goal

pub returns-in_ok-put : goal.returns-in_ok-put
returns-in_ok-put c = λ ends links has.
    metric_put c.args.self.now.by_name c.put.new.self.by_name ends links c.args.link c.in-Some.metric
    (ap (λ (name : LinkName). metric_noted (get same_link c.args.self.now.by_name name) c.args.link.metric) (sym c.name_of_link-name.ensures)
    ∙ ap (λ (found : Option (Option ℕ)). metric_noted found c.args.link.metric) (sym c.of.ensures)
    ∙ sym c.noted.ensures ∙ c.in-Some.is)
    (λ other. c.in_ok-put.ensures other
    ∙ ap (λ (name : LinkName). cond (same_link name other) (Some c.in-Some.metric) (get same_link c.args.self.now.by_name other)) c.name_of_link-name.ensures)
    has

pub returns-in_default : goal.returns-in_default
returns-in_default c = λ ends links has.
    nothing_put c.args.self.now.by_name ends links c.args.link
    (ap (λ (name : LinkName). metric_noted (get same_link c.args.self.now.by_name name) c.args.link.metric) (sym c.name_of_link-name.ensures)
    ∙ ap (λ (found : Option (Option ℕ)). metric_noted found c.args.link.metric) (sym c.of.ensures)
    ∙ sym c.noted.ensures ∙ c.in_default.is)
    has
