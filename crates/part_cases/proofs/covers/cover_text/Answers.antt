use Rattle.std.proofs.Common.{sym, subst, ℕ, List, Option, Vec, Global}
use Rattle.std.specs.Prelude.{IfSome}
use Rattle.core_covers.specs.Cores.{AreCores}
use Rattle.part_cases.proofs.covers.cover_text.Goals as goal

pub find_cover-requires : goal.find_cover-requires
find_cover-requires c =
    let count = c.next_number-count.result in
    subst (AreCores count) (sym c.as_slice.ensures.value)
    (subst (λ (lists : Option (Vec (List ℕ) Global)). IfSome lists (λ list. AreCores count list.items)) c.in-Some.is c.in_ok-cores.ensures)
