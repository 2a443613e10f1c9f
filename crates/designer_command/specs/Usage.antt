-- The text that tells how the program is called.
use Rattle.std.specs.Prelude.{ℕ, List, [], ◌∷◌, codes}
use Rattle.text_lines.specs.Lines.{with_ends}

-- a line for each command
abbrev pub usage_lines : List (List ℕ)
usage_lines =
    codes "usage: ospfcost design --request F [--nodes N] [--bits B] CONFIG.."
    ∷ codes "       ospfcost check --request F --answer A CONFIG.."
    ∷ codes "       ospfcost audit --request F [--live L] CONFIG.."
    ∷ codes "       ospfcost rewrite --answer A CONFIG"
    ∷ codes "       ospfcost trial --blocks T [--start S]"
    ∷ codes "       ospfcost conflict --request F [--nodes N] [--bits B] CONFIG.."
    ∷ codes "       ospfcost spread --request F --sets G [--nodes N] [--bits B] CONFIG.."
    ∷ codes "       ospfcost total --request F [--nodes N] [--bits B] CONFIG.."
    ∷ codes "       ospfcost lsas --request F CONFIG.."
    ∷ codes "       ospfcost route --lsas L --from A.B.C.D --to A.B.C.D"
    ∷ codes "       ospfcost change --request F [--nodes N] [--bits B] CONFIG.."
    ∷ codes "       ospfcost steps --request F --answer A [--nodes N] [--by line|router] CONFIG.."
    ∷ codes "       ospfcost compare --live L --request F CONFIG.."
    ∷ codes "       ospfcost help [COMMAND]"
    ∷ codes "       ospfcost version"
    ∷ []

-- the text that tells how the program is called
abbrev pub usage : List ℕ
usage = with_ends usage_lines
