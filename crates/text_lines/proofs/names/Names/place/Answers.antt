use Rattle.std.proofs.Common.{◌∙◌, ap, Bor, List, ℕ}
use Rattle.std.specs.Prelude.{position}
use Rattle.std.specs.List.{list_any}
use Rattle.cost_base.specs.Lists.{same_bytes}
use Rattle.text_lines.proofs.Images.{position-map, any-map}
use Rattle.text_lines.proofs.names.Names.place.Goals as goal

pub returns-clause-place : goal.returns-clause-place
returns-clause-place c = c.get_index_of.ensures.index
    ∙ position-map (same_bytes c.args.name.now) (λ (k : Bor (List ℕ)). k.now) c.self.inside.names.keys
    ∙ ap (position (same_bytes c.args.name.now)) c.self.view_is

pub returns-clause-found : goal.returns-clause-found
returns-clause-found c = c.get_index_of.ensures.found
    ∙ any-map (same_bytes c.args.name.now) (λ (k : Bor (List ℕ)). k.now) c.self.inside.names.keys
    ∙ ap (list_any (same_bytes c.args.name.now)) c.self.view_is
