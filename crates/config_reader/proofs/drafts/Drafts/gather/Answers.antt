use Rattle.std.proofs.Common.{refl, ◌∙◌, map}
use Rattle.config_reader.specs.Heards.{head_heard}
use Rattle.config_reader.proofs.DraftSteps.{opened_names, gathered_more, gathered_names, gathered_all}
use Rattle.config_reader.proofs.drafts.Drafts.gather.Goals as goal

pub loop-line-init : goal.loop-line-init
loop-line-init c =
    let opened = opened_names (map head_heard c.args.heads.now) c.in_ok-names.field-0 c.in_ok-names.ensures in
    record { drafts = refl; names = opened.0; apart = opened.1 }

pub loop-line-preserved : goal.loop-line-preserved
loop-line-preserved c = record {
  drafts = gathered_more c.args.said.now c.loop-line.line-index _ c.args.networks.now c.loop-line.drafts.items
      c.settle.new.drafts.items c.loop-line-test.true c.settle.ensures ∙ c.loop-line.invariant.drafts;
  names = gathered_names c.args.said.now c.loop-line.line-index _ c.args.networks.now c.in_ok-names.field-0.names
      c.loop-line.drafts.items c.settle.new.drafts.items c.loop-line.invariant.names c.settle.ensures;
  apart = c.loop-line.invariant.apart;
}

pub returns : goal.returns
returns c =
    gathered_all c.args.said.now c.loop-line.line-index c.args.networks.now (map head_heard c.args.heads.now)
    c.in_ok-names.field-0 (record { names = c.in_ok-names.field-0.names; drafts = c.loop-line.drafts })
    c.loop-line-test.false c.in_ok-names.ensures c.loop-line.invariant.drafts c.loop-line.invariant.names
