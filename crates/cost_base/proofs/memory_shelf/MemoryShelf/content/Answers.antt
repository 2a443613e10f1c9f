use Rattle.std.proofs.Common.{sym, ◌∙◌, inl}
use Rattle.cost_base.proofs.memory_shelf.MemoryShelf.content.Goals as goal

pub returns-then-contains-clause-none : goal.returns-then-contains-clause-none
returns-then-contains-clause-none c =
    λ _. inl (rw (sym c.deref.ensures.value) (sym c.contains.ensures.value ∙ c.if-contains.true))
