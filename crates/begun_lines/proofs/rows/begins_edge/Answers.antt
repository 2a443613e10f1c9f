use Rattle.std.proofs.Common.{◌≡◌, Some, [], ◌∷◌, ◌++◌, sym, subst, ap, ◌∙◌}
use Rattle.std.proofs.lemmas.List.{append_cancel_right}
use Rattle.std.proofs.lemmas.Slice.Eq.{strip_suffix_is}
use Rattle.std.proofs.lemmas.Bool.Decides.{Decides-eqb}
use Rattle.begun_lines.specs.Begun.{IsLineOfRow}
use Rattle.begun_lines.proofs.rows.begins_edge.Goals as goal

pub returns-in-Some : goal.returns-in-Some
returns-in-Some c =
    let cut : c.args.rest.now ≡ c.in-Some.line.now ++ c.as_slice.result.now =
    strip_suffix_is Decides-eqb c.args.rest.now c.as_slice.result.now
    (Some c.in-Some.line) c.in-Some.ensures.cases in
    let parts : c.args.rest.now ≡ c.in-Some.line.now ++ 32 ∷ [] = cut ∙ ap (λ bytes. c.in-Some.line.now ++ bytes) c.as_slice.ensures in (
      λ yes. (c.in-Some.line.now, c.is_row.ensures.0 yes, parts, c.if-rest-ge-LONGEST.false),
      λ edge. c.is_row.ensures.1 (subst IsLineOfRow (append_cancel_right edge.0 c.in-Some.line.now (32 ∷ []) (sym edge.2 ∙ parts)) edge.1),
    )
