use Rattle.std.proofs.Common.{Bor, List, ℕ, ◌++◌, [], ◌∷◌, not, true, false, take, reverse, map, ap, sym, ◌∙◌}
use Rattle.std.specs.List.{list_any}
use Rattle.std.proofs.lemmas.List.{at_drop_all}
use Rattle.cost_base.specs.Lists.{same_bytes}
use Rattle.interface_model.specs.Records.{Router}
use Rattle.lsdb_build.specs.Topology.{second_of_name, at_config}
use Rattle.lsdb_build.proofs.FirstPlaces.{names_of, names_seen, name_test}
use Rattle.lsdb_build.specs.declared.fault.TopologyFault.TheVariants.{NameTwice}
use Rattle.lsdb_build.proofs.checks.refuse_seen_name.Goals as goal

abbrev now : Bor (List ℕ) → List ℕ
now n = n.now

pub loop-i-preserved : goal.loop-i-preserved
loop-i-preserved c =
    let configs = c.args.configs.now in
    let i = c.loop-i.i in
    let r = c.index-configs-i.result in
    let names = map now c.loop-i.seen.keys in
    let named = ap (λ (x : Router). x.name) c.config.view_is in
    let new = c.in_ok-see.ensures.new ∙ ap (λ name. not (list_any (same_bytes name) names)) named in
    record {
      seen = names_seen names configs i r c.loop-i-test.true c.index-configs-i.is c.loop-i.invariant.seen (map now c.see.new.seen.keys)
          (c.in_ok-see.ensures.added c.if-not-branch.false ∙ ap (λ name. names ++ name ∷ []) named);
      left = name_test names configs i r c.loop-i-test.true c.index-configs-i.is c.loop-i.invariant.seen
          c.loop-i.invariant.left true (sym c.if-not-branch.false ∙ new);
    }

pub returns-then-not-branch : goal.returns-then-not-branch
returns-then-not-branch c =
    let configs = c.args.configs.now in
    let i = c.loop-i.i in
    let r = c.index-configs-i.result in
    let names = map now c.loop-i.seen.keys in
    let new = c.in_ok-see.ensures.new ∙ ap (λ name. not (list_any (same_bytes name) names)) (ap (λ (x : Router). x.name) c.config.view_is) in
    rw c.at.ensures (ap (at_config NameTwice) (name_test names configs i r c.loop-i-test.true c.index-configs-i.is
    c.loop-i.invariant.seen c.loop-i.invariant.left false (sym c.if-not-branch.true ∙ new)))

pub returns : goal.returns
returns c =
    ap (at_config NameTwice) (c.loop-i.invariant.left
    ∙ at_drop_all (second_of_name (reverse (names_of (take c.loop-i.i c.args.configs.now))) c.loop-i.i)
    c.args.configs.now c.loop-i.i c.loop-i-test.false)
