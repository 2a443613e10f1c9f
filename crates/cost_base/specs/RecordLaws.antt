-- Records of what went through a shelf or a sink, one part after another.
use Rattle.std.proofs.Common.{ℕ, refl, sym, ◌∙◌, ap, subst, List, [], ◌∷◌, ◌++◌, append_assoc, Option}
use Rattle.cost_base.specs.HistoryLaws.{handed_none, handed_more}
use Rattle.cost_base.specs.Records.{PutPiece, AreTakenOf, IsNoted, IsNotedInPieces}

-- bytes taken of some pieces, and then bytes taken of others, are taken of all of them
taken_more : (puts later : List PutPiece) (xs ys : List ℕ) → AreTakenOf puts xs → AreTakenOf later ys → AreTakenOf (puts ++ later) (xs ++ ys)
taken_more [] later xs ys first second = subst (λ (bytes : List ℕ). AreTakenOf later (bytes ++ ys)) (sym first) second
taken_more (put ∷ puts) later xs ys first second = (
  first.0,
  (
    first.1.0 ++ ys,
    first.1.1,
    taken_more puts later first.1.0 ys first.1.2 second,
    ap (λ (bytes : List ℕ). bytes ++ ys) first.1.3 ∙ append_assoc first.0 first.1.0 ys,
  ),
)

-- a shelf that gave nothing noted nothing
pub noted_none : {A : Type 0} (gave : List A → Type 0) (a : Option (List A)) → gave [] → IsNoted gave a a []
noted_none gave a given = record { given = given; noted = handed_none a }

-- a shelf that gave and noted one list and then another gave and noted both
pub noted_more : {A : Type 0} (First Second Both : List A → Type 0) (a b c : Option (List A)) (xs ys : List A) →
    (First xs → Second ys → Both (xs ++ ys)) → IsNoted First a b xs → IsNoted Second b c ys → IsNoted Both a c (xs ++ ys)
noted_more First Second Both a b c xs ys more first second = record {
  given = more first.given second.given;
  noted = handed_more a b c xs ys first.noted second.noted;
}

-- a sink that was handed nothing noted no piece
pub pieces_none : (handed : List ℕ → Type 0) (a : Option (List PutPiece)) → handed [] → IsNotedInPieces handed a a []
pieces_none handed a given = record { given = given; puts = []; noted = handed_none a; taken = refl }

-- a sink that was handed one text and noted its pieces, and then another, was handed both and noted the pieces of both
pub pieces_more : (First Second Both : List ℕ → Type 0) (a b c : Option (List PutPiece)) (xs ys : List ℕ) →
    (First xs → Second ys → Both (xs ++ ys)) → IsNotedInPieces First a b xs → IsNotedInPieces Second b c ys →
    IsNotedInPieces Both a c (xs ++ ys)
pieces_more First Second Both a b c xs ys more first second = record {
  given = more first.given second.given;
  puts = first.puts ++ second.puts;
  noted = handed_more a b c first.puts second.puts first.noted second.noted;
  taken = taken_more first.puts second.puts xs ys first.taken second.taken;
}
