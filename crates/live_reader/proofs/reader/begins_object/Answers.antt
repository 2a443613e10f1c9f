use Rattle.std.proofs.Common.{sym, ap, ◌∙◌, refl}
use Rattle.std.proofs.lemmas.List.{drop_all}
use Rattle.live_reader.specs.LiveFiles.{begins_object}
use Rattle.live_reader.proofs.ReaderLaws.{blank_first, other_first}
use Rattle.live_reader.proofs.reader.begins_object.Goals as goal

pub loop-byte-init : goal.loop-byte-init
loop-byte-init c = refl

pub returns-then-not-is_space : goal.returns-then-not-is_space
returns-then-not-is_space c =
    sym (other_first c.args.bytes.now c.loop-byte.byte-index c.loop-byte-test.true (sym c.if-not-is_space.ensures)) ∙ c.loop-byte.invariant

pub loop-byte-preserved : goal.loop-byte-preserved
loop-byte-preserved c =
    sym (blank_first c.args.bytes.now c.loop-byte.byte-index c.loop-byte-test.true (sym c.if-not-is_space.ensures)) ∙ c.loop-byte.invariant

pub returns : goal.returns
returns c = sym (ap begins_object (drop_all c.loop-byte.byte-index c.args.bytes.now c.loop-byte-test.false)) ∙ c.loop-byte.invariant
