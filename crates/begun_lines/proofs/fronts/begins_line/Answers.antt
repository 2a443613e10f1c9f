use Rattle.std.proofs.Common.{sym, drop, length}
use Rattle.std.proofs.lemmas.Slice.Eq.{starts_is}
use Rattle.std.proofs.lemmas.Bool.Decides.{Decides-eqb}
use Rattle.begun_lines.proofs.fronts.begins_line.Goals as goal

pub returns : goal.returns
returns c =
    let is = starts_is Decides-eqb c.args.line.now c.args.rest.now c.starts_with.result c.starts_with.ensures.value in (
      λ yes. (drop (length c.args.rest.now) c.args.line.now, sym (is.0 yes)),
      λ front. is.1 front.0 (sym front.1),
    )
