use Rattle.std.proofs.Common.{◌∙◌, Bor, List, ℕ, map, ap, sym, subst}
use Rattle.std.specs.Prelude.{◌==◌, ◌&&◌, position}
use Rattle.std.specs.List.{list_any}
use Rattle.cost_base.specs.Lists.{same_bytes}
use Rattle.lsdb_build.specs.Graphs.{Database, IsAreaDatabase}
use Rattle.wanted_paths.specs.Keys.{link_key}
use Rattle.wanted_paths.proofs.LookUps.{link_placed, link_found}
use Rattle.wanted_paths.proofs.names.Names.find_link.Goals as goal

pub returns-in-Some : goal.returns-in-Some
returns-in-Some c = λ name known is.
    let now : ℕ × Bor (List ℕ) → ℕ × List ℕ = λ key. (key.0, key.1.now) in
    let keys = c.self.inside.links.keys in
    let base = subst IsAreaDatabase c.self.view_is c.self.invariant.base in
    let are = c.self.invariant.links ∙ ap (λ (d : Database). map link_key d.links) c.self.view_is in (
      sym (link_found c.args.self.now name c.args.interface.now now keys base known are)
          ∙ ap (λ r. list_any (λ (key : ℕ × Bor (List ℕ)). r == key.0 && same_bytes c.args.interface.now key.1.now)
          keys) (sym is) ∙ sym c.in-Some.ensures.found,
      sym (link_placed c.args.self.now name c.args.interface.now now keys (c.args.router, c.args.interface) c.in-Some.place base known are
          (ap (λ r. position (λ (key : ℕ × Bor (List ℕ)). r == key.0 && same_bytes c.args.interface.now key.1.now) keys)
          (sym is) ∙ sym c.in-Some.ensures.index)),
    )

pub returns-in-None : goal.returns-in-None
returns-in-None c = λ name known is.
    let now : ℕ × Bor (List ℕ) → ℕ × List ℕ = λ key. (key.0, key.1.now) in
    let keys = c.self.inside.links.keys in
    let base = subst IsAreaDatabase c.self.view_is c.self.invariant.base in
    let are = c.self.invariant.links ∙ ap (λ (d : Database). map link_key d.links) c.self.view_is in
    sym (link_found c.args.self.now name c.args.interface.now now keys base known are)
    ∙ ap (λ r. list_any (λ (key : ℕ × Bor (List ℕ)). r == key.0 && same_bytes c.args.interface.now key.1.now) keys) (sym is) ∙ sym c.in-None.ensures.found
