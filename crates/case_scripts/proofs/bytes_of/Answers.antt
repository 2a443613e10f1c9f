use Rattle.std.proofs.Common.{◌++◌, [], ◌∙◌, ap, lit<}
use Rattle.std.proofs.lemmas.Iterator.{items_from_drains}
use Rattle.std.proofs.lemmas.Iterator.Splits.{YieldsList-from_str_split}
use Rattle.case_scripts.specs.Escapes.{unescaped}
use Rattle.case_scripts.proofs.Pieces.{texts_of, begun_bytes, more_bytes}
use Rattle.case_scripts.proofs.bytes_of.Goals as goal

pub loop-piece-init : goal.loop-piece-init
loop-piece-init c =
    begun_bytes c.args.text.now c.as_slice.result.now c.in-Some.first.now c.in-Some.others.now c.extend_from_slice.new.self.items
    (ap texts_of (c.as_slice.ensures.value ∙ c.in_ok-pieces.ensures.ran.2.0)
    ∙ items_from_drains c.in_ok-pieces.ensures.ran.0 c.in_ok-pieces.ensures.ran.1
    (YieldsList-from_str_split 92 c.args.text.now (lit< tt) c.split.ensures.text c.split.ensures.has_more c.split.ensures.pattern))
    c.in-Some.ensures.cases.0
    (c.in_ok-extend_from_slice.ensures.items ∙ ap (λ bytes. bytes ++ c.as_bytes.result.now) c.new-bytes.ensures.items ∙ c.as_bytes.ensures.value)

pub loop-piece-preserved : goal.loop-piece-preserved
loop-piece-preserved c =
    more_bytes c.args.text.now c.in-Some.others.now c.loop-piece.piece-index (record { ref_ptr = (0, 0); now = [] })
    c.loop-piece.bytes.items c.extend_from_slice-in-loop-piece.new.self.items c.unescaped-byte.result.0 c.unescaped-byte.result.1.now
    c.loop-piece-test.true
    (c.in_ok-extend_from_slice-2.ensures.items ∙ ap (λ bytes. bytes ++ c.unescaped-byte.result.1.now) c.in_ok-push.ensures.items)
    (c.unescaped-byte.ensures ∙ ap unescaped c.as_bytes-in-loop-piece.ensures.value)
    c.loop-piece.invariant
