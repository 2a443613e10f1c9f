-- A record that grows by one call.
use Rattle.std.proofs.Common.{◌≡◌, ℕ, refl, sym, subst, Bool, true, false, List, [], ◌∷◌, ◌++◌, append-nil, take, Option, Result, Ok, Err}
use Rattle.std.specs.Result.{is_ok}
use Rattle.cost_base.specs.Histories.{Hands}
use Rattle.cost_base.specs.Outside.{GotAll}
use Rattle.cost_base.specs.Records.{unless_lacking, PutPiece, IsNotedInPieces}

-- one more thing at its end is what a record grew by
pub grew_one : {A : Type 0} (lacking : Bool) (before now : List A) (x y : A) → y ≡ x → now ≡ before ++ y ∷ [] →
    GotAll (unless_lacking lacking before) (unless_lacking lacking now) (x ∷ [])
grew_one {A} true before now x y same grown = tt
grew_one {A} false before now x y same grown = subst (λ (z : A). now ≡ before ++ z ∷ []) same grown

-- a piece that was put and noted
pub hands_noted : {T E : Type 0} (handed : List ℕ → Type 0) (before now : Option (List PutPiece)) (piece : List ℕ) (result : Result T E) →
    Hands handed piece result → GotAll before now (record { piece = piece; whole = is_ok result } ∷ []) → Hands (IsNotedInPieces handed before now) piece result
hands_noted handed before now piece (Ok x) h grew =
    record {
      given = h;
      puts = record { piece = piece; whole = true } ∷ [];
      noted = grew;
      taken = (piece, ([], refl, refl, sym (append-nil piece)));
    }
hands_noted handed before now piece (Err e) h grew = (
  h.0,
  record {
    given = h.1;
    puts = record { piece = piece; whole = false } ∷ [];
    noted = grew;
    taken = (take h.0 piece, ([], (h.0, refl), refl, sym (append-nil (take h.0 piece))));
  },
)
