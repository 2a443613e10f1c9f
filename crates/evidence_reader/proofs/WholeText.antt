-- The parts of an answer that were read, as its whole text.
use Rattle.std.proofs.Common.{◌≡◌, ℕ, zero, suc, ◌≤◌, Some, None, inl, inr, List, [], ◌∷◌, ◌++◌, length, codes, sym, ap, subst, ◌∙◌, append_assoc, append-nil}
use Rattle.std.proofs.lemmas.List.Elements.{All-nil, All-cons}
use Rattle.cost_base.specs.declared.refusal.Refusal.{Refusal}
use Rattle.design_problem.specs.Answers.{AnswerParts}
use Rattle.design_problem.specs.Text.{costs_lines, tree_lines, text, FitsCosts, FitsTree, FitsAnswer, head_lines, floor_line, rows_lines, end_lines}
use Rattle.answer_lines.specs.Grammar.{TextPlace, Next, AtHead, AtVerdict, AtCosts, AtSections, AtInterface, AtCost, AtExit, AtFloor, AtRows, AtRow, AtTree, AtEnd, AfterEnd, AtOtherHead, AtInnerHead, AtOtherVerdict, AtOtherCosts, AtSectionsEnd, AtUnread}
use Rattle.text_lines.specs.Lines.{with_ends}
use Rattle.evidence_text.specs.Lines.{AreShort}
use Rattle.answer_lines.specs.Lawful.{HasLineRoom, LeadOn, IsRead}
use Rattle.evidence_reader.specs.Refusals.{IsReaderStop}
use Rattle.evidence_text.specs.declared.TreePart.TheVariants.{Proof, Undecided}
use Rattle.evidence_reader.specs.declared.fault.AnswerFault.{AnswerFault}
use Rattle.evidence_text.proofs.AnswerOrder.{ordered, after_floor, answer_lines-ordered}
use Rattle.evidence_reader.proofs.NextPlaces.{go-then}

-- a stop in the text as it was when nothing was read
pub stop_at_start : (before : ℕ) (bytes whole : List ℕ) (stop : Refusal AnswerFault ℕ) → before ≡ 0 → bytes ≡ whole →
    IsReaderStop AtHead before bytes stop → IsReaderStop AtHead 0 whole stop
stop_at_start before bytes whole stop none same h = subst (λ b. IsReaderStop AtHead 0 b stop) same (subst (λ n. IsReaderStop AtHead n bytes stop) none h)

-- the parts of an answer, one behind another
pub parts_read : (a : AnswerParts) {b0 b1 b2 b3 b4 b5 b6 : ℕ} {bytes behind_head behind_costs behind_rows behind_proof behind_trees : List ℕ} →
    IsRead AtHead b0 bytes (head_lines a.verdict) AtCosts b1 behind_head →
    IsRead AtCosts b1 behind_head (costs_lines a.costs ++ floor_line a.floor ∷ []) AtRows b2 behind_costs →
    IsRead AtRows b2 behind_costs (rows_lines a.rows) (AtRow 0) b3 behind_rows →
    IsRead (AtRow 0) b3 behind_rows (tree_lines (codes "proof") a.proof) (AtTree Proof 0 0) b4 behind_proof →
    IsRead (AtTree Proof 0 0) b4 behind_proof (tree_lines (codes "open") a.undecided) (AtTree Undecided 0 0) b5 behind_trees →
    IsRead (AtTree Undecided 0 0) b5 behind_trees end_lines AfterEnd b6 [] →
    IsRead AtHead b0 bytes (ordered a) AfterEnd b6 []
parts_read a {b0} {b1} {b2} {b3} {b4} {b5} {b6} {bytes} {behind_head} head costs rows proof undecided end =
    let others = go-then rows (go-then proof (go-then undecided end)) in
    go-then head
    (subst (λ lines. IsRead AtCosts b1 behind_head lines AfterEnd b6 [])
    (append_assoc (costs_lines a.costs) (floor_line a.floor ∷ []) (after_floor a)) (go-then costs others))

-- a place of an answer's own text
abbrev IsOwn : TextPlace → Type 0
IsOwn (AtSections (Some text) before) = ⊥
IsOwn (AtInterface (Some text) router) = ⊥
IsOwn (AtCost (Some text) router) = ⊥
IsOwn (AtExit (Some text) router) = ⊥
IsOwn (AtOtherHead text) = ⊥
IsOwn AtInnerHead = ⊥
IsOwn (AtOtherVerdict text) = ⊥
IsOwn (AtOtherCosts text) = ⊥
IsOwn (AtSectionsEnd text) = ⊥
IsOwn (AtUnread more) = ⊥
IsOwn place = Unit {0}

-- lines lead from such a place to another, and are read
own-next : (place : TextPlace) (line : List ℕ) (next : TextPlace) → IsOwn place → Next place line next → HasLineRoom place line →
    IsOwn next × (length line ≤ 65536)
own-next AtHead line next own is short = rw is.1 (tt, short)
own-next AtVerdict line next own is short = rw is.leads (tt, short)
own-next AtCosts line next own (inl none) short = rw none.1 (tt, short)
own-next AtCosts line next own (inr some) short = rw some.leads (tt, short)
own-next (AtSections None before) line next own (inl is) short = rw is.leads (tt, short)
own-next (AtSections None None) line next own (inr (inl is)) short = absurd is
own-next (AtSections None (Some router)) line next own (inr (inl is)) short = rw is.leads (tt, short)
own-next (AtSections None before) line next own (inr (inr is)) short = rw is.leads (tt, short)
own-next (AtInterface None router) line next own is short = rw is.leads (tt, short)
own-next (AtCost None router) line next own is short = rw is.leads (tt, short)
own-next (AtExit None router) line next own is short = rw is.1 (tt, short)
own-next AtFloor line next own is short = rw is.leads (tt, short)
own-next AtRows line next own is short = rw is.leads (tt, short)
own-next (AtRow zero) line next own (inl none) short = rw none.1 (tt, short)
own-next (AtRow zero) line next own (inr some) short = rw some.leads (tt, short)
own-next (AtRow (suc left)) line next own is short = rw is.leads (tt, short)
own-next (AtTree part (suc places) (suc left)) line next own is short = rw is.leads (tt, short)
own-next (AtTree part zero (suc left)) line next own is short = absurd is
own-next (AtTree part (suc places) zero) line next own is short = absurd is
own-next (AtTree Proof zero zero) line next own (inl none) short = rw none.1 (tt, short)
own-next (AtTree Proof zero zero) line next own (inr some) short = rw some.leads (tt, short)
own-next (AtTree Undecided zero zero) line next own is short = rw is.1 (tt, short)
own-next AtEnd line next own is short = rw is.1 (tt, short)
own-next AfterEnd line next own is short = absurd is
own-next (AtSections (Some text) before) line next own is short = absurd own
own-next (AtInterface (Some text) router) line next own is short = absurd own
own-next (AtCost (Some text) router) line next own is short = absurd own
own-next (AtExit (Some text) router) line next own is short = absurd own
own-next (AtOtherHead text) line next own is short = absurd own
own-next AtInnerHead line next own is short = absurd own
own-next (AtOtherVerdict text) line next own is short = absurd own
own-next (AtOtherCosts text) line next own is short = absurd own
own-next (AtSectionsEnd text) line next own is short = absurd own
own-next (AtUnread more) line next own is short = absurd own

-- lawful lines of an answer's own text are short
lead-short : (from to : TextPlace) (lines : List (List ℕ)) → IsOwn from → LeadOn from lines to → AreShort lines
lead-short from to [] own lead = All-nil (λ (line : List ℕ). length line ≤ 65536)
lead-short from to (line ∷ lines) own lead =
    let next = own-next from line lead.0 own lead.1.is lead.1.short in
    All-cons (λ (l : List ℕ). length l ≤ 65536) line lines next.1 (lead-short lead.0 to lines next.0 lead.2)

-- what was read to the end is the answer's text
pub text_read : (a : AnswerParts) (before : ℕ) (bytes whole : List ℕ) {b : ℕ} → bytes ≡ whole →
    IsRead AtHead before bytes (ordered a) AfterEnd b [] → whole ≡ text a
text_read a before bytes whole same read = sym same ∙ read.parts ∙ append-nil (with_ends (ordered a)) ∙ ap with_ends (sym (answer_lines-ordered a))

-- an answer whose lines were read keeps what every answer keeps
pub answer_kept : (a : AnswerParts) {b0 b : ℕ} {bytes : List ℕ} → FitsCosts a.costs → FitsTree a.proof →
    FitsTree a.undecided → IsRead AtHead b0 bytes (ordered a) AfterEnd b [] → FitsAnswer a
answer_kept a costs proof undecided read =
    record {
      costs = costs;
      proof = proof;
      undecided = undecided;
      lines = subst AreShort (sym (answer_lines-ordered a)) (lead-short AtHead AfterEnd (ordered a) tt read.lead);
    }
