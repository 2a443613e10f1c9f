use Rattle.std.specs.Option.{option_copied}
use Rattle.design_problem.specs.Text.{router_lines, interface_lines}
use Rattle.text_lines.specs.Lines.{with_ends}
use Rattle.text_lines.proofs.LineLaws.{with_ends-append}
use Rattle.evidence_text.proofs.TextLaws.{short_front, short_rest}
use Rattle.evidence_text.proofs.PutChains.{put-then, put-cut, put-as}
use Rattle.evidence_text.proofs.put_parts.put_cost_line.Goals as goal

pub put_router-requires : goal.put_router-requires
put_router-requires g c = short_front (router_lines (option_copied c.args.before) c.args.cost.now.router) (interface_lines c.args.cost.now) c.requires

pub put_interface-requires : goal.put_interface-requires
put_interface-requires g c = short_rest (router_lines (option_copied c.args.before) c.args.cost.now.router) (interface_lines c.args.cost.now) c.requires

pub returns-in_err-put_router : goal.returns-in_err-put_router
returns-in_err-put_router g c =
    put-as (with_ends-append (router_lines (option_copied c.args.before) c.args.cost.now.router) (interface_lines c.args.cost.now))
    (put-cut (with_ends (interface_lines c.args.cost.now)) c.from_residual.result c.from_residual.ensures.0 c.in_err-put_router.ensures)

pub returns : goal.returns
returns g c =
    put-as (with_ends-append (router_lines (option_copied c.args.before) c.args.cost.now.router) (interface_lines c.args.cost.now))
    (put-then _ c.in_ok-put_router.ensures c.put_interface.ensures)
