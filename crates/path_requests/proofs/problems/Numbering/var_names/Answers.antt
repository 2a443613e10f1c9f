-- one link further
use Rattle.std.proofs.Common.{◌≡◌, ◌∙◌, ◌<◌, ◌+◌, refl, ap, arith, List, [], ◌∷◌, length, get_or, drop, if◌then◌else◌}
use Rattle.std.specs.Prelude.{slice_index_or}
use Rattle.design_problem.specs.declared.problem.VarName.{VarName}
use Rattle.lsdb_build.specs.declared.Linked.{Linked}
use Rattle.wanted_paths.proofs.LoopSteps.{added}
use Rattle.path_requests.specs.Meaning.{range_of, is_free, variable_of, names_from}
use Rattle.path_requests.proofs.LinkSteps.{link_there}
use Rattle.path_requests.proofs.problems.Numbering.var_names.Goals as goal

pub push_name-requires : goal.push_name-requires
push_name-requires c =
    let links = c.args.self.now.choices.now.database.links in
    let within : c.loop-i.i < length links = omega (arith, c.loop-i-test.true, ap length c.links-link-items.ensures.value) in
    link_there links c.loop-i.i c.link-item.result within
    (c.link-item.is ∙ ap (λ (ls : List Linked). get_or ls c.loop-i.i c.link-item.result) c.links-link-items.ensures.value)

pub loop-i-preserved : goal.loop-i-preserved
loop-i-preserved c =
    let a = c.args.self.now.choices.now.asked in
    let d = c.args.self.now.choices.now.database in
    let i = c.loop-i.i in
    let link = c.link-item.result in
    let within : i < length d.links = omega (arith, c.loop-i-test.true, ap length c.links-link-items.ensures.value) in
    added (names_from a d i) d.links i link c.loop-i.made.items
    (if is_free (range_of a d link) then
    record {
      router = slice_index_or d.routers link.router [];
      interface = link.interface;
      var = variable_of a d i;
    } ∷ [] else []) c.push_name.new.made.items
    (names_from a d 0 d.links) (names_from a d (i + 1) (drop (i + 1) d.links)) within
    (c.link-item.is ∙ ap (λ (ls : List Linked). get_or ls i link) c.links-link-items.ensures.value)
    refl c.in_ok-push_name.ensures c.loop-i.invariant
