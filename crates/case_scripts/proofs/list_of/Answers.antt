use Rattle.std.proofs.Common.{[], ◌∙◌, ap, lit<}
use Rattle.std.proofs.lemmas.Iterator.{items_from_drains}
use Rattle.std.proofs.lemmas.Iterator.Splits.{YieldsList-from_str_split}
use Rattle.case_scripts.specs.Words.{comma_parts}
use Rattle.case_scripts.proofs.Pieces.{texts_of}
use Rattle.case_scripts.proofs.Listing.{listed_none, listed_more, listed_all}
use Rattle.case_scripts.proofs.list_of.Goals as goal

pub loop-part-init : goal.loop-part-init
loop-part-init g t =
    listed_none g.T.FromStr.from_str_gives t.as_slice-part-items.result.now (comma_parts t.args.word.now) t.new-list.result.items
    t.new-list.ensures.items
    (ap texts_of (t.as_slice-part-items.ensures.value ∙ t.in_ok-parts.ensures.ran.2.0)
    ∙ items_from_drains t.in_ok-parts.ensures.ran.0 t.in_ok-parts.ensures.ran.1
    (YieldsList-from_str_split 44 t.args.word.now (lit< tt) t.split.ensures.text t.split.ensures.has_more t.split.ensures.pattern))

pub loop-part-preserved : goal.loop-part-preserved
loop-part-preserved g t =
    listed_more g.T.FromStr.from_str_gives t.loop-part.part-index t.as_slice-part-items.result.now (record { ref_ptr = (0, 0); now = [] })
    (comma_parts t.args.word.now) t.loop-part.list.items t.add_value.new.list.items t.parse.result
    t.loop-part-test.true t.parse.ensures.value t.in_ok-add_value.ensures t.loop-part.invariant

pub returns : goal.returns
returns g t =
    listed_all g.T.FromStr.from_str_gives t.loop-part.part-index t.as_slice-part-items.result.now (comma_parts t.args.word.now) t.loop-part.list.items
    t.loop-part-test.false t.loop-part.invariant
