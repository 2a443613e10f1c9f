-- Members, multipliers and steps, as they are written.
use Rattle.std.specs.Prelude.{ℕ, List, ◌++◌, codes}
use Rattle.std.specs.Fmt.{decimal}
use Rattle.design_problem.specs.declared.tree.Member.{Member}
use Rattle.design_problem.specs.declared.tree.Member.TheVariants.{Low, High, Row}

-- a member of a basis: its kind and number, and the bound that it has
abbrev pub member_text : Member → List ℕ
member_text (Low var bound) = codes " low" ++ (decimal var ++ (codes "=" ++ decimal bound))
member_text (High var bound) = codes " high" ++ (decimal var ++ (codes "=" ++ decimal bound))
member_text (Row row) = codes " row" ++ decimal row

-- a row's number and its multiplier, as a script writes them
abbrev pub part_text : ℕ → ℕ → List ℕ
part_text row multiplier = codes " " ++ (decimal multiplier ++ (codes "*row" ++ decimal row))
