-- How wanted paths stand at present costs.
use Rattle.std.proofs.Common.{◌≡◌, ℕ, ◌+◌, ◌<◌, refl, sym, ◌∙◌, ap, List, [], ◌∷◌, ◌++◌, length, get_or, take, drop, drop-cons, add-one, append_assoc}
use Rattle.std.specs.List.{AllZip}
use Rattle.std.proofs.lemmas.List.{take_more}
use Rattle.cost_base.proofs.ListLemmas.{zip_push}
use Rattle.path_commands.specs.declared.audit.AuditedPath.{AuditedPath}
use Rattle.path_commands.specs.Audits.{audit_line, audit_lines}

-- what is found of the next thing goes behind what was found of those before
pub found_push : {X Y : Type 0} (R : X → Y → Type 0) (things : List X) (i : ℕ) (thing : X) (found more : List Y) (new : Y) →
    i < length things → thing ≡ get_or things i thing → AllZip R (take i things) found → R thing new → more ≡ found ++ new ∷ [] →
    AllZip R (take (i + 1) things) more
found_push R things i thing found more new below is zip here pushed =
    let are : take (i + 1) things ≡ take i things ++ thing ∷ [] = take_more things i thing below ∙ ap (λ x. take i things ++ x ∷ []) (sym is) in
    rw (pushed, are) (zip_push R (take i things) found thing new zip here)

-- the line of the next path was made, and put behind the text
pub audit_turn : (paths : List AuditedPath) (i : ℕ) (text more line : List ℕ) (d : AuditedPath) → i < length paths →
    line ≡ audit_line i (get_or paths i d) → more ≡ text ++ line →
    text ++ audit_lines i (drop i paths) ≡ audit_lines 0 paths → more ++ audit_lines (i + 1) (drop (i + 1) paths) ≡ audit_lines 0 paths
audit_turn paths i text more line d below made pushed so_far =
    rw (pushed, made)
    (append_assoc text (audit_line i (get_or paths i d)) (audit_lines (i + 1) (drop (i + 1) paths))
    ∙ ap (λ (bs : List ℕ). text ++ bs) (sym (ap (audit_lines i) (drop-cons paths i d below) ∙ rw add-one refl))
    ∙ so_far)
