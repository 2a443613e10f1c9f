-- Addresses off the grammar.
use Rattle.std.proofs.Common.{◌≡◌, ◌≢◌, ℕ, List, [], ◌∷◌, map, Option, Some, None, refl, ap, ◌∙◌}
use Rattle.text_lines.specs.Numbers.{split, number_within, joined_quad, quad, prefix, prefix_of_pieces}
use Rattle.text_lines.proofs.Pieces.{split-some}

-- five groups are no address
joined_quad-long : (a b c d e : Option ℕ) (es : List (Option ℕ)) → joined_quad (a ∷ b ∷ c ∷ d ∷ e ∷ es) ≡ None
joined_quad-long None b c d e es = refl
joined_quad-long (Some a) None c d e es = refl
joined_quad-long (Some a) (Some b) None d e es = refl
joined_quad-long (Some a) (Some b) (Some c) None e es = refl
joined_quad-long (Some a) (Some b) (Some c) (Some d) e es = refl

joined_quad-more : (a b c d : List ℕ) (ps : List (List ℕ)) → ps ≢ [] → joined_quad (map (number_within 3 255) (a ∷ b ∷ c ∷ d ∷ ps)) ≡ None
joined_quad-more a b c d [] some = absurd (some refl)
joined_quad-more a b c d (p ∷ ps) some =
    joined_quad-long (number_within 3 255 a) (number_within 3 255 b) (number_within 3 255 c) (number_within 3 255 d)
    (number_within 3 255 p) (map (number_within 3 255) ps)

-- a text with four dots is no address
pub quad-long : (text a b c d r s t e : List ℕ) → split 46 text ≡ a ∷ split 46 r → split 46 r ≡ b ∷ split 46 s →
    split 46 s ≡ c ∷ split 46 t → split 46 t ≡ d ∷ split 46 e → quad text ≡ None
quad-long text a b c d r s t e first second third fourth =
    let pieces : split 46 text ≡ a ∷ b ∷ c ∷ d ∷ split 46 e =
    first ∙ ap (λ ps. a ∷ ps) (second ∙ ap (λ ps. b ∷ ps) (third ∙ ap (λ ps. c ∷ ps) fourth)) in
    ap (λ ps. joined_quad (map (number_within 3 255) ps)) pieces ∙ joined_quad-more a b c d (split 46 e) (split-some 46 e)

prefix_of_pieces-more : (a b : List ℕ) (ps : List (List ℕ)) → ps ≢ [] → prefix_of_pieces (a ∷ b ∷ ps) ≡ None
prefix_of_pieces-more a b [] some = absurd (some refl)
prefix_of_pieces-more a b (p ∷ ps) some = refl

-- a text with two slashes is no address with a length
pub prefix-long : (text a b r e : List ℕ) → split 47 text ≡ a ∷ split 47 r → split 47 r ≡ b ∷ split 47 e → prefix text ≡ None
prefix-long text a b r e first second =
    ap prefix_of_pieces (first ∙ ap (λ ps. a ∷ ps) second) ∙ prefix_of_pieces-more a b (split 47 e) (split-some 47 e)
