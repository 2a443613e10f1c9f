use Rattle.std.proofs.Common.{◌∙◌, ◌++◌, List, None, ap, arith, length, refl, subst, sym}
use Rattle.std.specs.Prelude.{count_by}
use Rattle.std.proofs.lemmas.List.{length-map}
use Rattle.lsa_writer.specs.declared.ends.LinkEnd.{LinkEnd}
use Rattle.lsa_writer.specs.Ends.{end_of}
use Rattle.live_area.specs.declared.Difference.{Difference}
use Rattle.live_area.specs.declared.interfaces.Compared.{Compared}
use Rattle.live_area.specs.Differences.{compared_lines, is_as_said}
use Rattle.live_area.specs.Indexes.{HasLinkMetrics}
use Rattle.live_area.proofs.AllLines.{all_lines}
use Rattle.live_area.proofs.Counts.{compared_count}
use Rattle.live_area.proofs.comparing.compare.Goals as goal

pub same_count-requires : goal.same_count-requires
same_count-requires c =
    let same_ends = c.deref.ensures.value ∙ sym c.deref-3.ensures.value in
    let has = subst (λ (ends : List LinkEnd). HasLinkMetrics c.in_ok-metrics.metrics.by_name ends c.deref-2.result.now) same_ends c.in_ok-metrics.ensures in
    omega (
      arith,
      ap length c.deref-5.ensures.value,
      ap length (c.in_ok-interfaces.ensures c.deref-2.result.now has),
      compared_count c.as_slice-lsas.result.now c.deref-2.result.now c.as_slice-links.result.now c.args.costs.now 0 c.deref-3.result.now,
      ap length c.deref-3.ensures.value,
      ap length c.in_ok-ends.ensures,
      length-map c.as_slice-links.result.now (end_of c.args.configs.now),
      ap length c.as_slice-links.ensures,
      ap (λ d. length d.links) c.lsdb.view_is,
      c.lsdb.invariant.links,
    )

pub returns : goal.returns
returns c =
    let same_ends = c.deref.ensures.value ∙ sym c.deref-3.ensures.value in
    let has = subst (λ (ends : List LinkEnd). HasLinkMetrics c.in_ok-metrics.metrics.by_name ends c.deref-2.result.now) same_ends c.in_ok-metrics.ensures in
    all_lines c.args.configs.now c.args.lsdb.now c.args.costs.now c.args.live.now c.as_slice-lsas.result.now c.deref-2.result.now
    c.as_slice-links.result.now c.deref-3.result.now c.in_ok-interfaces.interfaces.items c.same_count.result _
    c.push_interface_lines.new.lines.items c.push_router_lines.new.lines.items _
    (record {
      same_lsas = c.as_slice-lsas.ensures.items;
      same_found = c.deref-2.ensures.value ∙ c.in_ok-found.ensures;
      same_links = c.as_slice-links.ensures ∙ ap (λ d. d.links) c.lsdb.view_is;
      same_ends = c.deref-3.ensures.value ∙ c.in_ok-ends.ensures;
    })
    (c.in_ok-interfaces.ensures c.deref-2.result.now has)
    (c.in_ok-push_interface_lines.ensures
    ∙ ap (λ (xs : List Difference). xs ++ compared_lines None c.deref-4.result.now) c.new-lines.ensures.items
    ∙ ap (λ (cs : List Compared). compared_lines None cs) c.deref-4.ensures.value)
    (c.in_ok-push_router_lines.ensures c.deref-3.result.now c.deref-2.result.now has)
    (c.same_count.ensures ∙ ap (count_by is_as_said) c.deref-5.ensures.value)
    refl c.in_ok-push.ensures.items
