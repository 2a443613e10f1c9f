-- A source and the pool of a search, before work with them and after it.
use Rattle.std.specs.Prelude.{List, All}
use Rattle.design_problem.specs.Forms.{Form}
use Rattle.form_search.specs.declared.source.FormSource.{Ghosts}
use Rattle.form_search.specs.Sources.{Grows, SameSource}

-- a source and a pool that go together: the source's own lists are in step with the pool, whose forms are true ones
pub record AreInStep {Source : Type 0} (members : Ghosts Source) (source : Source) (forms : List Form) : Type 0 where
  pub lists : members.in_step source forms
  pub true_forms : All (members.true_form source) forms

-- What work with a source leaves: true forms came at the pool's end, what no call changes is the same, and where the
-- work ended well the source's lists are in step with the pool.
pub record Leaves {Source : Type 0} (members : Ghosts Source) (WhereEnded : Type 0 → Type 0) (old new : Source)
    (old_forms new_forms : List Form) : Type 0 where
  pub grows : Grows (members.true_form old) old_forms new_forms
  pub same : SameSource members.count members.accepted members.true_form members.possible_forms old new
  pub lists : WhereEnded (members.in_step new new_forms)
