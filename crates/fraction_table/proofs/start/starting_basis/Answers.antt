-- One more form is put.
use Rattle.std.proofs.Common.{refl, []}
use Rattle.std.specs.Prelude.{slice_index}
use Rattle.cost_base.proofs.ListLemmas.{put_more}
use Rattle.design_problem.specs.declared.tree.Member.TheVariants.{Low}
use Rattle.fraction_table.proofs.start.starting_basis.Goals as goal

pub loop-var-preserved : goal.loop-var-preserved
loop-var-preserved c =
    put_more [] c.loop-var.basis.items c.push.new.self.items (λ v. Low v (slice_index c.args.low.now v)) c.loop-var.var
    _ c.in_ok-push.ensures.items c.loop-var.invariant refl
