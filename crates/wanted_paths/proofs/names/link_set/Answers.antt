use Rattle.std.proofs.Common.{◌≡◌, ◌<◌, Bor, List, ℕ, map, length, arith, ◌∙◌, sym, ap, refl}
use Rattle.std.specs.Prelude.{◌==◌, ◌&&◌}
use Rattle.std.proofs.lemmas.List.{length-map, get_or-map}
use Rattle.std.proofs.lemmas.Bool.{and_parts, eqb-true}
use Rattle.cost_base.specs.Lists.{same_bytes}
use Rattle.wanted_paths.specs.Keys.{link_key}
use Rattle.wanted_paths.proofs.LookUps.{keys_step}
use Rattle.cost_base.proofs.ByteLemmas.{same_bytes-true}
use Rattle.wanted_paths.proofs.names.link_set.Goals as goal

same_pair : (a b : ℕ) (xs ys : List ℕ) → a ≡ b → xs ≡ ys → ◌≡◌ {A = ℕ × List ℕ} (a, xs) (b, ys)
same_pair a b xs ys first second = cc

pub loop-link-preserved : goal.loop-link-preserved
loop-link-preserved c =
    let now : ℕ × Bor (List ℕ) → ℕ × List ℕ = λ key. (key.0, key.1.now) in
    let link = c.link-item.result in
    let key : ℕ × Bor (List ℕ) = (link.router, c.as_bytes.result) in
    let test = λ (other : ℕ × Bor (List ℕ)). link.router == other.0 && same_bytes c.as_bytes.result.now other.1.now in
    let xs = map link_key c.args.links.now in
    let within : c.loop-link.link-index < length xs = omega (arith, length-map c.args.links.now link_key, c.loop-link-test.true) in
    rw c.in_ok-insert.ensures.keys
    (keys_step now test c.loop-link.set.keys key xs c.loop-link.link-index c.requires within c.loop-link.invariant
    (λ d. same_pair link.router link.router c.as_bytes.result.now link.interface refl c.as_bytes.ensures
    ∙ ap link_key c.link-item.is
    ∙ sym (get_or-map link_key c.args.links.now c.loop-link.link-index link d c.loop-link-test.true))
    (λ other same. let parts = and_parts (link.router == other.0) (same_bytes c.as_bytes.result.now other.1.now) same in
    same_pair other.0 link.router other.1.now c.as_bytes.result.now (sym (eqb-true link.router other.0 parts.0))
    (sym (same_bytes-true c.as_bytes.result.now other.1.now parts.1))))
