use Rattle.std.proofs.Common.{rules, ◌≡◌, ◌∙◌, sym, ap, ℕ, List, nat_eq, true}
use Rattle.spread_sets.specs.Spreads.{name_of_set}
use Rattle.spread_sets.proofs.LineNumbers.{line_there, no_line}
use Rattle.spread_sets.proofs.member_sets.is_first.Goals as goal

pub line_at-requires : goal.line_at-requires
line_at-requires c = (line_there c.args.lines.now c.args.path c.in-Some.number (sym c.in-Some.is ∙ c.requires)).0

pub returns-in-Some : goal.returns-in-Some
returns-in-Some c = ap (λ (n : ℕ). nat_eq n c.args.path) (c.first_of.ensures
    ∙ ap name_of_set (c.line_at.ensures ∙ (line_there c.args.lines.now c.args.path c.in-Some.number (sym c.in-Some.is ∙ c.requires)).1))

pub returns-in-None : goal.returns-in-None
returns-in-None c =
    let alone = no_line 0 c.args.lines.now c.args.path (sym c.requires ∙ c.in-None.is) in
    let same : nat_eq c.args.path c.args.path ≡ true = search rules in
    sym (ap (λ (set : List ℕ). nat_eq (name_of_set set) c.args.path) alone ∙ same)
