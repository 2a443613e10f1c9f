-- Texts put one after another.
use Rattle.std.proofs.Common.{◌≡◌, ℕ, ◌++◌, List, sym, subst, arith, Option, Result, Ok, Err}
use Rattle.std.proofs.lemmas.Bool.{false≢true}
use Rattle.std.specs.Result.{IsErr}
use Rattle.cost_base.specs.HistoryLaws.{handed_more}
use Rattle.cost_base.proofs.PutPieces.{whole_part, part_more}
use Rattle.evidence_text.specs.Lines.{IsPieceHanded}

-- a text was put, and then another one is put or refused
pub put-then : {T E : Type 0} {a b c : Option (List ℕ)} {f0 f1 f2 : ℕ} {x : T} {xs ys : List ℕ} (result : Result T E) →
    IsPieceHanded {T = T} {E = E} a b f0 f1 xs (Ok x) → IsPieceHanded b c f1 f2 ys result → IsPieceHanded a c f0 f2 (xs ++ ys) result
put-then {T} {E} {a} {b} {c} {f0} {f1} {f2} {x} {xs} {ys} (Ok y) p q =
    record {
      whole = handed_more a b c xs ys p.whole q.whole;
      part = tt;
      cause = record { later = omega (arith, p.cause.later, q.cause.later); failed = tt };
    }
put-then {T} {E} {a} {b} {c} {f0} {f1} {f2} {x} {xs} {ys} (Err y) p q =
    record {
      whole = tt;
      part = whole_part a b c xs ys p.whole q.part;
      cause = record { later = omega (arith, p.cause.later, q.cause.later); failed = omega (arith, p.cause.later, q.cause.failed) };
    }

-- at the exit of a `?`: a text was refused, and what would have followed isn't put
pub put-cut : {T E F : Type 0} {a b : Option (List ℕ)} {f0 f1 : ℕ} {x : E} {xs : List ℕ} (ys : List ℕ)
    (result : Result T F) → IsErr result → IsPieceHanded {T = T} {E = E} a b f0 f1 xs (Err x) →
    IsPieceHanded a b f0 f1 (xs ++ ys) result
put-cut {T} {E} {F} {a} {b} {f0} {f1} {x} {xs} ys (Ok y) h p = absurd (false≢true h)
put-cut {T} {E} {F} {a} {b} {f0} {f1} {x} {xs} ys (Err y) h p =
    record {
      whole = tt;
      part = part_more a b xs ys p.part;
      cause = record { later = p.cause.later; failed = p.cause.failed };
    }

-- a text under its other name
pub put-as : {T E : Type 0} {a b : Option (List ℕ)} {f0 f1 : ℕ} {xs ys : List ℕ} {result : Result T E} → ys ≡ xs →
    IsPieceHanded a b f0 f1 xs result → IsPieceHanded a b f0 f1 ys result
put-as {T} {E} {a} {b} {f0} {f1} {xs} {ys} {result} e p = subst (λ (bytes : List ℕ). IsPieceHanded a b f0 f1 bytes result) (sym e) p
