use Rattle.std.proofs.Common.{◌≡◌, sym, subst, ℕ, List}
use Rattle.std.proofs.lemmas.List.Elements.{All-push}
use Rattle.core_covers.specs.Cores.{AreCores, IsVariableSet}
use Rattle.part_cases.proofs.covers.cores_of.Goals as goal

pub loop-word-preserved : goal.loop-word-preserved
loop-word-preserved c =
    let n = c.args.count in
    let same : c.as_slice.result.now ≡ c.from_items.result = cc (c.as_slice.ensures.value, c.from_items.ensures) in
    subst (AreCores n) (sym {A = List (List ℕ)} c.in_ok-push.ensures.items)
    (All-push (IsVariableSet n) c.loop-word.cores.items c.from_items.result c.loop-word.invariant
    (subst (IsVariableSet n) same c.if-not-is_variable_set.ensures))
