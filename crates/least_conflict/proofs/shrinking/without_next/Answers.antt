-- The next member's place is the number of those that were tried.
use Rattle.std.proofs.Common.{◌≡◌, ℕ, length, arith}
use Rattle.std.proofs.lemmas.Result.{IfOk-weaker}
use Rattle.std.specs.List.{remove}
use Rattle.std.specs.Prelude.{Vec}
use Rattle.std.specs.declared.alloc.Global.{Global}
use Rattle.least_conflict.proofs.Sets.{others_are}
use Rattle.least_conflict.proofs.shrinking.without_next.Goals as goal

pub returns : goal.returns
returns c =
    let shrunk = c.args.shrunk.now in
    let members = shrunk.members in
    let tried : c.len.result ≡ length shrunk.without.items = omega (arith, c.len.ensures, shrunk.without.ok.0) in
    IfOk-weaker c.without_one.result (λ (rest : Vec ℕ Global). rest.items ≡ remove c.as_slice.result.now c.len.result)
    (λ (rest : Vec ℕ Global). rest.items ≡ remove members (length shrunk.without.items))
    (λ rest is. others_are members rest.items c.as_slice.result.now c.len.result (length shrunk.without.items)
    c.as_slice.ensures tried is) c.without_one.ensures
