use Rattle.std.proofs.Common.{ap, ◌∙◌, cond, Some}
use Rattle.indexmap.specs.IndexMap.{get}
use Rattle.lsa_bytes.specs.declared.instances.LsaName.{LsaName}
use Rattle.lsa_bytes.specs.Instances.{newer_of, same_name}
use Rattle.lsa_bytes.proofs.NewestLaws.{newest_added}
use Rattle.lsa_bytes.proofs.newest.Newest.add.Goals as goal

pub returns : goal.returns
returns c = λ all has.
    newest_added c.args.self.now.by_name c.put.new.self.by_name all c.args.instance.now c.newer_of-stamp.result has
    (c.newer_of-stamp.ensures
    ∙ ap (λ found. newer_of found c.args.instance.now.stamp) c.of.ensures
    ∙ ap (λ (name : LsaName). newer_of (get same_name c.args.self.now.by_name name) c.args.instance.now.stamp) c.name_of-name.ensures)
    (λ other. c.in_ok-put.ensures other
    ∙ ap (λ (name : LsaName). cond (same_name name other) (Some c.newer_of-stamp.result) (get same_name c.args.self.now.by_name other)) c.name_of-name.ensures)
