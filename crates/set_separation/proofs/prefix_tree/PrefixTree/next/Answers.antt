use Rattle.std.proofs.Common.{refl, sym, subst, arith, List}
use Rattle.set_separation.specs.declared.prefix_tree.Step.{Step}
use Rattle.set_separation.specs.PrefixTrees.{IsPrefixStep}
use Rattle.set_separation.proofs.PrefixLemmas.{step_found}
use Rattle.set_separation.proofs.prefix_tree.PrefixTree.next.Goals as goal

pub overflow_add-result : goal.overflow_add-result
overflow_add-result c = let within = c.in-Some.ensures.within in let few = c.len-few.ensures.small in let count = c.len-few.ensures.len in omega arith

pub returns-in-Some : goal.returns-in-Some
returns-in-Some c = (
  c.in-Some.index,
  subst (λ (steps : List Step). IsPrefixStep steps c.args.place c.args.edge c.in-Some.index) c.self.view_is
      (step_found c.self.inside.steps.keys c.args.place c.args.edge c.in-Some.index (sym c.in-Some.ensures.index)),
  refl,
)
