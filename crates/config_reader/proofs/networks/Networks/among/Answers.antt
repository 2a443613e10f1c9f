use Rattle.std.proofs.Common.{◌∙◌}
use Rattle.config_reader.proofs.FoundLines.{found_more, none_more}
use Rattle.config_reader.proofs.networks.Networks.among.Goals.{in-Some+in_ok-networks, in_default}
use Rattle.config_reader.proofs.networks.Networks.among.Goals as goal

pub loop-line-preserved : goal.loop-line-preserved
loop-line-preserved c = elim c.match-network_line.branch [
  | in-Some+in_ok-networks w ↦
      found_more c.args.said.now c.loop-line.line-index _ w.in-Some.network c.loop-line.networks
      c.match-network_line.networks c.loop-line-test.true (w.in-Some.ensures) (w.networks-is ∙ w.in_ok-networks.ensures) ∙ c.loop-line.invariant
  | in_default w ↦ none_more c.args.said.now c.loop-line.line-index _ c.loop-line.networks
      c.match-network_line.networks c.loop-line-test.true (w.in_default.ensures) w.networks-is ∙ c.loop-line.invariant
]
