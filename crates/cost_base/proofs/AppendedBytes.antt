-- Writes one after another.
use Rattle.std.proofs.Common.{ℕ, ◌+◌, sym, ◌∙◌, ap, List, [], ◌++◌, take, drop, append_assoc, append-nil, Option, Some, None}
use Rattle.std.proofs.Math.Seq.{take-add}
use Rattle.std.specs.Io.KnownBytes.{Appends, Keeps}

-- bytes that stay grow by nothing
pub keeps_appends : (a b : Option (List ℕ)) → Keeps a b → Appends a b []
keeps_appends None b same = tt
keeps_appends (Some x) None same = absurd same
keeps_appends (Some x) (Some y) same = same ∙ sym (append-nil x)

-- the first n bytes of a piece and the next k are the first n + k
pub appends_more : (a b c : Option (List ℕ)) (piece : List ℕ) (n k : ℕ) → Appends a b (take n piece) →
    Appends b c (take k (drop n piece)) → Appends a c (take (n + k) piece)
appends_more None b c piece n k first second = tt
appends_more (Some x) None c piece n k first second = absurd first
appends_more (Some x) (Some y) None piece n k first second = absurd second
appends_more (Some x) (Some y) (Some z) piece n k first second =
    second ∙ ap (λ bytes. bytes ++ take k (drop n piece)) first ∙ append_assoc x (take n piece) (take k (drop n piece))
    ∙ ap (λ bytes. x ++ bytes) (sym (take-add n k piece))
