-- The new table is what a tableau keeps.
use Rattle.std.proofs.Common.{suc, ◌∙◌, ap, length}
use Rattle.fraction_lines.proofs.BlankLines.{blank_long}
use Rattle.fraction_table.proofs.SoundTables.{started}
use Rattle.fraction_table.proofs.start.starting_table.Goals as goal

pub returns-clause-sound : goal.returns-clause-sound
returns-clause-sound c =
    started _ c.args.costs.now c.as_slice-2.result.now c.requires.ranges c.requires.few
    c.in_ok-copy.ensures c.new.ensures.items c.as_slice-2.ensures c.in_ok-starting_basis.ensures c.in_ok-lines.ensures.lines c.in_ok-lines.ensures.numbers
    (blank_long c.in_ok-zero.field-0 (length c.as_slice.result.now) c.in_ok-zero.ensures ∙ ap (λ low. suc (length low)) c.as_slice.ensures)
    (blank_long c.in_ok-zero-2.field-0 (length c.as_slice.result.now) c.in_ok-zero-2.ensures ∙ ap (λ low. suc (length low)) c.as_slice.ensures)
