use Rattle.std.proofs.Common.{ap, ◌∙◌}
use Rattle.lsdb_build.specs.Owners.{joined_owner}
use Rattle.lsdb_build.proofs.NotedRouters.{noted_there, noted_kept}
use Rattle.lsdb_build.proofs.owners.Owners.note.Goals as goal

pub returns-clause-noted : goal.returns-clause-noted
returns-clause-noted c =
    noted_there c.args.self.now.by_prefix c.insert.new.self c.args.router c.args.prefix c.joined-owner.result
    (c.joined-owner.ensures ∙ ap (λ found. joined_owner found c.args.router) (c.copied.ensures ∙ c.get.ensures.value)) c.in_ok-insert.ensures.updates

pub returns-clause-kept : goal.returns-clause-kept
returns-clause-kept c =
    noted_kept c.args.self.now.by_prefix c.insert.new.self c.args.router c.args.prefix c.joined-owner.result
    (c.joined-owner.ensures ∙ ap (λ found. joined_owner found c.args.router) (c.copied.ensures ∙ c.get.ensures.value)) c.in_ok-insert.ensures.updates
