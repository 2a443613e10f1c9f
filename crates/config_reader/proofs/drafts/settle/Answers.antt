use Rattle.std.proofs.Common.{◌∙◌, sym, ap, set, map}
use Rattle.config_reader.specs.Drafting as drafting
use Rattle.config_reader.specs.Spoken.{block_spoken, statement_of}
use Rattle.config_reader.proofs.DraftSteps.{untouched, unmatched, touched_at}
use Rattle.config_reader.proofs.drafts.settle.Goals as goal

pub returns-in_default : goal.returns-in_default
returns-in_default c = untouched _
    (drafting.change c.args.networks.now (block_spoken c.args.said.now.block) (statement_of c.args.said.now.statement))
    c.args.drafts.now.items c.in_default.ensures

pub returns-in_default-place : goal.returns-in_default-place
returns-in_default-place c =
    unmatched c.in-Some.name.now (drafting.change c.args.networks.now (block_spoken c.args.said.now.block)
    (statement_of c.args.said.now.statement)) c.args.drafts.now.items c.args.names.now c.requires.names
    c.in_default-place.ensures.found
    ∙ ap (λ t. map (drafting.touch t
    (drafting.change c.args.networks.now (block_spoken c.args.said.now.block)
    (statement_of c.args.said.now.statement))) c.args.drafts.now.items) c.in-Some.ensures

pub returns : goal.returns
returns c =
    ap (set c.args.drafts.now.items c.in-Some-place.place) (c.change.ensures
    ∙ ap (drafting.change c.args.networks.now (block_spoken c.args.said.now.block)
    (statement_of c.args.said.now.statement)) c.index_mut.ensures.value)
    ∙ touched_at c.in-Some.name.now
    (drafting.change c.args.networks.now (block_spoken c.args.said.now.block)
    (statement_of c.args.said.now.statement)) c.args.drafts.now.items c.args.names.now c.in-Some-place.place
    c.index_mut.result.now c.requires.names c.requires.apart (sym c.in-Some-place.ensures.place)
    ∙ ap (λ t. map (drafting.touch t
    (drafting.change c.args.networks.now (block_spoken c.args.said.now.block)
    (statement_of c.args.said.now.statement))) c.args.drafts.now.items) c.in-Some.ensures
