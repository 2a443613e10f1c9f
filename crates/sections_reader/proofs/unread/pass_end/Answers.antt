use Rattle.std.proofs.Common.{◌≡◌, ◌++◌, ◌∷◌, [], true, false, codes, sym, ap, ◌∙◌}
use Rattle.cost_base.specs.Lists.{same_bytes}
use Rattle.answer_lines.specs.Grammar.{AtUnread}
use Rattle.answer_lines.proofs.FirstLines.{read-none}
use Rattle.evidence_reader.proofs.NextPlaces.{go-then, stop-then}
use Rattle.sections_reader.proofs.UnreadLines.{end-passed, other-passed, unread-begun, unread-lacks}
use Rattle.sections_reader.proofs.unread.pass_end.Goals as goal

pub loop-line-init : goal.loop-line-init
loop-line-init c = record { passed = λ more. ([], read-none (AtUnread more) c.args.text.read c.args.text.left.now) }

pub returns-in_default : goal.returns-in_default
returns-in_default c =
    λ more.
    let rest = c.loop-line.left.left.now in
    stop-then _ (c.loop-line.invariant.passed more).1
    (c.fault_at.ensures.stops (AtUnread more) (λ e. cc) (unread-lacks more rest c.in_default.ensures) (unread-begun more rest c.in_default.ensures))

pub returns-then-eq : goal.returns-then-eq
returns-then-eq c =
    let line = c.in-Some.line.now in
    let is : same_bytes line (codes "end") ≡ true = ap (λ w. same_bytes line w) (sym c.as_slice.ensures) ∙ sym c.eq.ensures ∙ c.if-eq.true in
    let found = c.in-Some.ensures in
    λ more.
    let before = c.loop-line.invariant.passed more in
    (before.0 ++ line ∷ [], go-then before.1 (end-passed more line c.in-Some.rest.left.now is found.0 found.1 found.2))

pub loop-line-preserved : goal.loop-line-preserved
loop-line-preserved c =
    let line = c.in-Some.line.now in
    let isnt : same_bytes line (codes "end") ≡ false = ap (λ w. same_bytes line w) (sym c.as_slice.ensures) ∙ sym c.eq.ensures ∙ c.if-eq.false in
    let found = c.in-Some.ensures in
    record {
      passed = λ more.
          let before = c.loop-line.invariant.passed more in
          (before.0 ++ line ∷ [], go-then before.1 (other-passed more line c.in-Some.rest.left.now isnt found.0 found.1 found.2));
    }
