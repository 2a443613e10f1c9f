use Rattle.std.proofs.Common.{◌∙◌, ap, sym, subst, List, length, Bool, false}
use Rattle.std.specs.Prelude.{filter, not, ◌||◌}
use Rattle.std.specs.List.{list_any}
use Rattle.cost_base.specs.Lists.{first_of, numbers_from}
use Rattle.cost_base.specs.Marks.{is_marked}
use Rattle.lsdb_build.specs.Graphs.{Database, IsAreaDatabase}
use Rattle.wanted_paths.specs.Paths.{next_name}
use Rattle.wanted_paths.specs.LineFaults.{fault_unless, is_router_part, parts_faults}
use Rattle.wanted_paths.specs.Paths.{outline}
use Rattle.wanted_paths.specs.Excluded.{excluded_by_all}
use Rattle.wanted_paths.proofs.Withouts.{excluded_marks, without_faults_are}
use Rattle.wanted_paths.proofs.ExcludedEdges.{marked_are}
use Rattle.wanted_paths.specs.declared.fault.ResolutionFault.TheVariants.{PathExcluded}
use Rattle.wanted_paths.proofs.paths.Resolver.without.Goals as goal

pub returns-then-is_excluded-clause-refused : goal.returns-then-is_excluded-clause-refused
returns-then-is_excluded-clause-refused c =
    let d = c.args.self.now in
    let is = c.self.view_is in
    let g = c.self.inside.graph.now in
    let route = c.args.route.now in
    let parts = c.args.parts.now in
    let base = subst IsAreaDatabase is c.links-links.ensures.base in
    let words = sym (ap (λ (b : Database). parts_faults b c.args.line parts) is) ∙ c.in_ok-excluded.ensures.made.0 in
    let all = c.in_ok-excluded.ensures.made.1 ∙ ap (λ (b : Database). excluded_by_all b g parts) is in
    let excluded = excluded_marks d g parts c.deref.result.now c.in_ok-excluded.excluded.items c.self.inside.marks.items c.mark_excluded.new.marks.items
    (c.self.invariant.graph ∙ ap outline is) c.deref.ensures.value c.mark_excluded.ensures.marks all c.mark_excluded.ensures.count c.self.invariant.marks in
    let tests = c.is_excluded.ensures ∙ ap (λ (ms : List Bool).
    list_any (is_router_part (next_name route.hops route.last)) parts
    || list_any (is_marked ms) c.args.walk.now.path.edges) c.deref-2.ensures.value in
    rw c.at.ensures (ap first_of (without_faults_are d c.args.line route c.args.walk.now parts c.in_ok-excluded.excluded.items c.mark_excluded.new.marks.items
    c.is_excluded.result
    base c.requires.walk c.requires.walks words excluded tests
    ∙ ap (λ b. fault_unless (not b) (PathExcluded c.args.line)) c.if-is_excluded.true))

pub returns-clause-made : goal.returns-clause-made
returns-clause-made c =
    let d = c.args.self.now in
    let is = c.self.view_is in
    let g = c.self.inside.graph.now in
    let route = c.args.route.now in
    let parts = c.args.parts.now in
    let base = subst IsAreaDatabase is c.links-links.ensures.base in
    let words = sym (ap (λ (b : Database). parts_faults b c.args.line parts) is) ∙ c.in_ok-excluded.ensures.made.0 in
    let all = c.in_ok-excluded.ensures.made.1 ∙ ap (λ (b : Database). excluded_by_all b g parts) is in
    let excluded = excluded_marks d g parts c.deref.result.now c.in_ok-excluded.excluded.items c.self.inside.marks.items c.mark_excluded.new.marks.items
    (c.self.invariant.graph ∙ ap outline is) c.deref.ensures.value c.mark_excluded.ensures.marks all c.mark_excluded.ensures.count c.self.invariant.marks in
    let tests = c.is_excluded.ensures ∙ ap (λ (ms : List Bool).
    list_any (is_router_part (next_name route.hops route.last)) parts
    || list_any (is_marked ms) c.args.walk.now.path.edges) c.deref-2.ensures.value in (
      without_faults_are d c.args.line route c.args.walk.now parts c.in_ok-excluded.excluded.items c.mark_excluded.new.marks.items c.is_excluded.result
          base c.requires.walk c.requires.walks words excluded tests
          ∙ ap (λ b. fault_unless (not b) (PathExcluded c.args.line)) c.if-is_excluded.false,
      c.in_ok-marked.ensures ∙ ap (λ (ms : List Bool). filter (is_marked ms) (numbers_from 0 (length ms))) c.deref-3.ensures.value
          ∙ marked_are d (outline d) parts c.in_ok-excluded.excluded.items c.mark_excluded.new.marks.items excluded.are excluded.all excluded.count,
    )
