-- Pieces that are cut off a text and handed over one by one.
use Rattle.std.proofs.Common.{◌≡◌, ℕ, List, [], ◌∷◌, ◌++◌, take, drop, refl, sym, subst, ap, ◌∙◌, inl, inr}
use Rattle.std.specs.Prelude.{Result, Ok, Err, MatchResult}
use Rattle.std.specs.Result.{IsErr}
use Rattle.std.proofs.lemmas.Bool.{false≢true}
use Rattle.cost_base.specs.declared.OutOfMemory.{OutOfMemory}
use Rattle.cost_base.specs.declared.Status.{Status}
use Rattle.report_writer.specs.declared.report.Report.{Report}
use Rattle.report_writer.specs.declared.report.Text.{Text}
use Rattle.report_writer.specs.declared.report.Text.TheVariants.{Made, Fixed, Lsas}
use Rattle.report_writer.specs.Reports.{bytes_in}
use Rattle.report_writer.specs.Cutting.{AreCutOff, AreHanded, ArePutOf, IsPutInPieces, PutsPieces, PutsByPieces, size_of_piece}

cut_more : (size : List ℕ → ℕ) (pieces : List (List ℕ)) (text left : List ℕ) → AreCutOff size pieces text left →
    AreCutOff size (pieces ++ take (size left) left ∷ []) text (drop (size left) left)
cut_more size [] text left same = subst (λ (t : List ℕ). AreCutOff size (take (size left) left ∷ []) t (drop (size left) left)) same (refl, refl)
cut_more size (piece ∷ pieces) text left cut = (cut.0, cut_more size pieces (drop (size text) text) left cut.1)

handed_later : {K : Type 0} (handed : K → K → List ℕ → Type 0) (before : K) (pieces : List (List ℕ)) (middle now : K)
    (piece : List ℕ) → AreHanded handed before pieces middle → handed middle now piece →
    AreHanded handed before (pieces ++ piece ∷ []) now
handed_later {K} handed before [] middle now piece same h = (now, subst (λ (s : K). handed s now piece) same h, refl)
handed_later {K} handed before (first ∷ pieces) middle now piece chain h =
    (chain.0, chain.1, handed_later handed chain.0 pieces middle now piece chain.2 h)

-- before the first piece
pub put_none : {K : Type 0} (handed : K → K → List ℕ → Type 0) (before : K) (size : List ℕ → ℕ) (text : List ℕ) →
    ArePutOf handed before before size text text
put_none handed before size text = record { pieces = []; given = refl; cut = refl }

-- the next piece was put
pub put_next : {K : Type 0} (handed : K → K → List ℕ → Type 0) (before middle now : K) (size : List ℕ → ℕ)
    (text left : List ℕ) (n : ℕ) (piece rest : List ℕ) → n ≡ size left → piece ≡ take n left → rest ≡ drop n left →
    ArePutOf handed before middle size text left → handed middle now piece → ArePutOf handed before now size text rest
put_next handed before middle now size text left n piece rest sized front back so_far h =
    let first : piece ≡ take (size left) left = front ∙ ap (λ (k : ℕ). take k left) sized in
    let last : drop (size left) left ≡ rest = ap (λ (k : ℕ). drop k left) (sym sized) ∙ sym back in
    record {
      pieces = so_far.pieces ++ take (size left) left ∷ [];
      given = handed_later handed before so_far.pieces middle now (take (size left) left) so_far.given
          (subst (λ (p : List ℕ). handed middle now p) first h);
      cut = subst (λ (r : List ℕ). AreCutOff size (so_far.pieces ++ take (size left) left ∷ []) text r) last
          (cut_more size so_far.pieces text left so_far.cut);
    }

-- the sink refused the next piece
pub put_short : {K T E : Type 0} (handed : K → K → List ℕ → Type 0) (before middle now : K) (size : List ℕ → ℕ)
    (text left : List ℕ) (n : ℕ) (piece : List ℕ) (result : Result T E) → IsErr result → n ≡ size left → piece ≡ take n left →
    ArePutOf handed before middle size text left → ((k : ℕ) × handed middle now (take k piece)) → IsPutInPieces handed before now size text result
put_short handed before middle now size text left n piece (Ok x) err sized front so_far part = absurd (false≢true err)
put_short handed before middle now size text left n piece (Err e) err sized front so_far part =
    let first : piece ≡ take (size left) left = front ∙ ap (λ (k : ℕ). take k left) sized in
    record {
      left = left;
      middle = middle;
      whole = so_far;
      length = part.0;
      part = subst (λ (p : List ℕ). handed middle now (take part.0 p)) first part.1;
    }

-- a report's text was put line by line, or LSA by LSA
pub text_by_pieces : {K : Type 0} (handed : K → K → List ℕ → Type 0) (before now : K) (text : Text) (end : Status) →
    PutsPieces handed before now (size_of_piece text) (bytes_in text) end → PutsByPieces handed before now end
text_by_pieces handed before now (Made bytes) end h = (bytes.items, inl h)
text_by_pieces handed before now (Fixed text) end h = (text.now, inl h)
text_by_pieces handed before now (Lsas bytes) end h = (bytes.items, inr h)

-- so was nothing
pub none_by_pieces : {K : Type 0} (handed : K → K → List ℕ → Type 0) (before now : K) (end : Status) → now ≡ before →
    PutsByPieces handed before now end
none_by_pieces handed before now end same = ([], inl (inl (record { pieces = []; given = same; cut = refl })))

-- what was put of a report that memory sufficed for, or not
pub made_by_pieces : {K : Type 0} (handed : K → K → List ℕ → Type 0) (before now : K) (made : Result Report OutOfMemory)
    (end : Status) → MatchResult made (λ report. PutsPieces handed before now (size_of_piece report.text) (bytes_in report.text) end)
    (λ e. now ≡ before) → PutsByPieces handed before now end
made_by_pieces handed before now (Ok report) end h = text_by_pieces handed before now report.text end h
made_by_pieces handed before now (Err e) end h = none_by_pieces handed before now end h
