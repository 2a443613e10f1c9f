-- One more list is empty.
use Rattle.std.specs.declared.alloc.Global.{Global}
use Rattle.std.proofs.Common.{Vec, [], ◌∷◌, ◌∙◌, ap}
use Rattle.std.proofs.lemmas.List.{map-append}
use Rattle.cost_base.proofs.ListLemmas.{put_more}
use Rattle.integer_pivots.specs.declared.uses.Use.{Use}
use Rattle.integer_pivots.specs.Uses.{uses_in}
use Rattle.integer_pivots.proofs.uses.empty_uses.Goals as goal

pub loop-preserved : goal.loop-preserved
loop-preserved c =
    put_more [] (uses_in c.loop.uses.items) (uses_in c.push.new.self.items) (λ var. []) c.loop.counter c.new.result.items
    (ap uses_in c.in_ok-push.ensures.items ∙ map-append (λ (list : Vec Use Global). list.items) c.loop.uses.items (c.new.result ∷ []))
    c.loop.invariant c.new.ensures.items
