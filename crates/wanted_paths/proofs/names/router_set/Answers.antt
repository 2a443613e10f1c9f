use Rattle.std.proofs.Common.{Bor, List, ℕ, ◌∙◌, sym}
use Rattle.std.proofs.lemmas.List.{get_or_default}
use Rattle.cost_base.specs.Lists.{same_bytes}
use Rattle.wanted_paths.proofs.LookUps.{keys_step}
use Rattle.cost_base.proofs.ByteLemmas.{same_bytes-true}
use Rattle.wanted_paths.proofs.names.router_set.Goals as goal

pub loop-router-preserved : goal.loop-router-preserved
loop-router-preserved c =
    let now : Bor (List ℕ) → List ℕ = λ name. name.now in
    let test = λ (key : Bor (List ℕ)). same_bytes c.as_bytes.result.now key.now in
    rw c.in_ok-insert.ensures.keys
    (keys_step now test c.loop-router.set.keys c.as_bytes.result c.args.routers.now c.loop-router.router-index
    c.requires c.loop-router-test.true c.loop-router.invariant
    (λ d. c.as_bytes.ensures ∙ c.router-item.is ∙ get_or_default c.args.routers.now c.loop-router.router-index c.router-item.result d c.loop-router-test.true)
    (λ key same. sym (same_bytes-true c.as_bytes.result.now key.now same)))
