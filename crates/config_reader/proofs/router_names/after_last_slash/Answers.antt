use Rattle.std.proofs.Common.{◌≡◌, ◌≢◌, List, ℕ, [], ◌∷◌, refl, sym, ap, ◌∙◌}
use Rattle.std.specs.Prelude.{unwrap_or}
use Rattle.cost_base.specs.Lists.{last_of}
use Rattle.text_lines.specs.Numbers.{split}
use Rattle.text_lines.proofs.Pieces.{split-some}
use Rattle.config_reader.specs.RouterNames as definition
use Rattle.config_reader.proofs.router_names.after_last_slash.Goals as goal

last_of-behind : (x : List ℕ) (xs : List (List ℕ)) → xs ≢ [] → last_of (x ∷ xs) ≡ last_of xs
last_of-behind x [] some = absurd (some refl)
last_of-behind x (y ∷ ys) some = refl

-- the last part behind a slash
behind_slash : (left first behind : List ℕ) → split 47 left ≡ first ∷ split 47 behind → definition.after_last_slash behind ≡ definition.after_last_slash left
behind_slash left first behind pieces =
    ap (λ o. unwrap_or o []) (sym (ap last_of pieces ∙ last_of-behind first (split 47 behind) (split-some 47 behind)))

pub loop-behind-preserved : goal.loop-behind-preserved
loop-behind-preserved c = behind_slash c.loop-behind.left.now c.in-Some.field-0-0.now c.in-Some.behind.now c.in-Some.ensures.pieces ∙ c.loop-behind.invariant
