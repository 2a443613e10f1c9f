use Rattle.std.proofs.Common.{◌∙◌, ap, map, Bor, List, ℕ, not, [], ◌∷◌, ◌++◌, cond}
use Rattle.std.specs.List.{list_any}
use Rattle.cost_base.specs.Lists.{same_bytes}
use Rattle.text_lines.proofs.Images.{any-map, map-unless}
use Rattle.text_lines.proofs.names.Names.add.Goals as goal

pub returns-clause-new : goal.returns-clause-new
returns-clause-new c = c.in_ok-new.ensures.added
    ∙ ap not (any-map (same_bytes c.args.name.now) (λ (k : Bor (List ℕ)). k.now) c.self.inside.names.keys
    ∙ ap (list_any (same_bytes c.args.name.now)) c.self.view_is)

pub returns-clause-names : goal.returns-clause-names
returns-clause-names c =
    ap (map (λ (k : Bor (List ℕ)). k.now)) c.in_ok-new.ensures.keys
    ∙ map-unless (same_bytes c.args.name.now) (λ (k : Bor (List ℕ)). k.now) c.self.inside.names.keys c.args.name
    ∙ ap (λ (names : List (List ℕ)). cond (list_any (same_bytes c.args.name.now) names) names (names ++ c.args.name.now ∷ [])) c.self.view_is
