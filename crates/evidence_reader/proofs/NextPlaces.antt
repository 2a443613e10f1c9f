-- Going on from place to place.
use Rattle.std.proofs.Common.{◌≡◌, ℕ, List, [], ◌∷◌, ◌++◌, sym, ap, subst, ◌∙◌, arith, append_assoc, length-append}
use Rattle.cost_base.specs.declared.refusal.Refusal.{Refusal}
use Rattle.cost_base.specs.declared.refusal.Refusal.TheVariants.{Refused, OutOfMemory}
use Rattle.text_lines.specs.Lines.{with_ends}
use Rattle.answer_lines.specs.Grammar.{TextPlace}
use Rattle.answer_lines.specs.Lawful.{LeadOn, IsRead}
use Rattle.evidence_reader.specs.declared.fault.AnswerFault.{AnswerFault}
use Rattle.text_lines.proofs.LineLaws.{with_ends-append}
use Rattle.evidence_reader.specs.Refusals.{IsTextRefused, IsReaderStop}

pub lead-then : (from mid to : TextPlace) (xs ys : List (List ℕ)) → LeadOn from xs mid → LeadOn mid ys to → LeadOn from (xs ++ ys) to
lead-then from mid to [] ys first second = subst (λ p. LeadOn p ys to) (sym first) second
lead-then from mid to (x ∷ xs) ys first second = (first.0, first.1, lead-then first.0 mid to xs ys first.2 second)

parts-then : (bytes middle left : List ℕ) (xs ys : List (List ℕ)) → bytes ≡ with_ends xs ++ middle →
    middle ≡ with_ends ys ++ left → bytes ≡ with_ends (xs ++ ys) ++ left
parts-then bytes middle left xs ys first second =
    first ∙ ap (λ t. with_ends xs ++ t) second ∙ sym (append_assoc (with_ends xs) (with_ends ys) left) ∙ ap (λ t. t ++ left) (sym (with_ends-append xs ys))

-- a refusal behind lines that were read
pub refused-then : (from mid : TextPlace) (b0 b1 : ℕ) (bytes middle : List ℕ) (xs : List (List ℕ)) (kind : AnswerFault)
    (line : ℕ) → IsRead from b0 bytes xs mid b1 middle → IsTextRefused mid b1 middle kind line →
    IsTextRefused from b0 bytes kind line
refused-then from mid b0 b1 bytes middle xs kind line first second =
    record {
      lines = xs ++ second.lines;
      place = second.place;
      rest = second.rest;
      lead = lead-then from mid second.place xs second.lines first.lead second.lead;
      parts = parts-then bytes middle second.rest xs second.lines first.parts second.parts;
      line_is = omega (arith, first.count, second.line_is, length-append xs second.lines);
      fault = second.fault;
    }

-- a stop behind lines that were read
pub stop-then : {from mid : TextPlace} {b0 b1 : ℕ} {bytes middle : List ℕ} {xs : List (List ℕ)} (stop : Refusal AnswerFault ℕ) →
    IsRead from b0 bytes xs mid b1 middle → IsReaderStop mid b1 middle stop → IsReaderStop from b0 bytes stop
stop-then {from} {mid} {b0} {b1} {bytes} {middle} {xs} (Refused kind line) first second = refused-then from mid b0 b1 bytes middle xs kind line first second
stop-then OutOfMemory first second = tt

-- more lines are read behind some
pub go-then : {from mid to : TextPlace} {b0 b1 b2 : ℕ} {bytes middle left : List ℕ} {xs ys : List (List ℕ)} →
    IsRead from b0 bytes xs mid b1 middle → IsRead mid b1 middle ys to b2 left →
    IsRead from b0 bytes (xs ++ ys) to b2 left
go-then {from} {mid} {to} {b0} {b1} {b2} {bytes} {middle} {left} {xs} {ys} first second =
    record {
      lead = lead-then from mid to xs ys first.lead second.lead;
      parts = parts-then bytes middle left xs ys first.parts second.parts;
      count = omega (arith, first.count, second.count, length-append xs ys);
    }
