use Rattle.std.proofs.Common.{◌≡◌, ◌∙◌, ◌-◌, ◌++◌, take, drop, map, length, sym, ap, arith}
use Rattle.cost_base.specs.Lists.{numbers_from}
use Rattle.lsa_bytes.specs.Written.{bytes_of_all}
use Rattle.lsa_writer.specs.WrittenLsas.{own_links, own_lsa}
use Rattle.lsa_writer.proofs.WritingSteps.{all_from_on, count_within, taken_off, own_within, router_turn, router_end}
use Rattle.lsa_writer.proofs.writing.push_router_lsas.Goals as goal

pub loop-router-init : goal.loop-router-init
loop-router-init c =
    let count : length c.args.configs.now - 0 ≡ length c.args.configs.now = omega arith in
    record {
      rest = sym (all_from_on c.args.said.now);
      bytes = ap (λ n. c.args.bytes.now.items ++ bytes_of_all (map (own_lsa c.args.configs.now c.args.said.now) (numbers_from 0 n))) count;
    }

pub split_at-requires : goal.split_at-requires
split_at-requires c = omega (arith, c.own_count.ensures, count_within c.loop-router.router c.loop-router.rest.now)

pub push_router_lsa-requires : goal.push_router_lsa-requires
push_router_lsa-requires c =
    let router = c.loop-router.router in
    let rest = c.loop-router.rest.now in
    let parts = taken_off router c.args.said.now rest c.requires.in_order c.loop-router.invariant.rest in
    let own : c.split_at.result.0.now ≡ own_links router c.args.said.now = c.split_at.ensures.front ∙ ap (λ n. take n rest) c.own_count.ensures ∙ parts.0 in
    omega (arith, ap length own, own_within router c.args.said.now, c.requires.few)

pub loop-router-preserved : goal.loop-router-preserved
loop-router-preserved c =
    let router = c.loop-router.router in
    let rest = c.loop-router.rest.now in
    let parts = taken_off router c.args.said.now rest c.requires.in_order c.loop-router.invariant.rest in
    let own : c.split_at.result.0.now ≡ own_links router c.args.said.now = c.split_at.ensures.front ∙ ap (λ n. take n rest) c.own_count.ensures ∙ parts.0 in
    record {
      rest = c.split_at.ensures.back ∙ ap (λ n. drop n rest) c.own_count.ensures ∙ parts.1;
      bytes = router_turn c.args.configs.now c.args.said.now c.split_at.result.0.now router c.id_of.result
          c.loop-router.bytes.items c.push_router_lsa.new.bytes.items _ c.loop-router-test.true c.id_of.ensures own
          c.in_ok-push_router_lsa.ensures c.loop-router.invariant.bytes;
    }

pub returns : goal.returns
returns c = router_end c.args.configs.now c.args.said.now c.loop-router.router c.loop-router.bytes.items _
    c.loop-router-test.false c.loop-router.invariant.bytes
