use Rattle.std.proofs.Common.{Bor, List, ℕ, cond, map, not, ◌++◌, [], ◌∷◌, ap, sym, ◌∙◌}
use Rattle.std.specs.List.{list_any}
use Rattle.std.proofs.lemmas.Bool.{not-true}
use Rattle.std.proofs.lemmas.List.{map-append}
use Rattle.cost_base.specs.Lists.{same_bytes}
use Rattle.cost_base.proofs.ListLemmas.{list_any-map}
use Rattle.lsdb_build.proofs.checks.see.Goals as goal

pub returns-clause-new : goal.returns-clause-new
returns-clause-new c =
    let now : Bor (List ℕ) → List ℕ = λ n. n.now in
    let keys = c.args.seen.now.keys in
    c.in_ok-insert.ensures.added
    ∙ ap not (ap (λ (name : List ℕ). list_any (λ (key : Bor (List ℕ)). same_bytes name key.now) keys) c.as_bytes.ensures
    ∙ sym (list_any-map (same_bytes c.args.name.now) now keys))

pub returns-clause-added : goal.returns-clause-added
returns-clause-added c = λ new.
    let now : Bor (List ℕ) → List ℕ = λ n. n.now in
    let keys = c.args.seen.now.keys in
    ap (map now) c.in_ok-insert.ensures.keys
    ∙ ap (λ b. map now (cond b keys (keys ++ c.as_bytes.result ∷ []))) (not-true _ (sym c.in_ok-insert.ensures.added ∙ new))
    ∙ map-append now keys (c.as_bytes.result ∷ [])
    ∙ ap (λ (name : List ℕ). map now keys ++ name ∷ []) c.as_bytes.ensures
