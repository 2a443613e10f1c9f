use Rattle.std.proofs.Common.{◌≡◌, ℕ, List, [], ◌∷◌, ◌++◌, MatchOption, IfSome, Option, Some, None, Bor}
use Rattle.text_lines.specs.Numbers.{split}
use Rattle.cost_base.specs.Words.{HasNoSpace}
use Rattle.refusal_sentences.specs.Sentences.{IsCutIn}
use Rattle.refusal_sentences.proofs.Cuts.{first_same, one_piece}
use Rattle.refusal_sentences.proofs.line.cut_at_first_space.Goals as goal

-- what is cut at the first space
found : (text word rest : List ℕ) (r : Option (Bor (List ℕ) × Bor (List ℕ))) → HasNoSpace word → text ≡ word ++ 32 ∷ rest →
    MatchOption r (split 32 text ≡ text ∷ []) (λ p. split 32 text ≡ p.0.now ∷ split 32 p.1.now) →
    IfSome r (λ p. text ≡ p.0.now ++ 32 ∷ p.1.now) → IsCutIn word rest r
found text word rest None none is pieces parts = absurd (one_piece text word rest none is pieces)
found text word rest (Some p) none is pieces parts = first_same text word rest p.0.now p.1.now none is pieces parts

pub returns : goal.returns
returns c word rest none is =
    found c.args.text.now word rest c.cut.result none is c.cut.ensures.pieces c.cut.ensures.parts
