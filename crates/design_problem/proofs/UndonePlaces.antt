-- Open places that get an Undone, one after another.
use Rattle.std.proofs.Common.{◌≡◌, ◌<◌, ◌∙◌, ap, List, [], ◌∷◌, ◌++◌, length, append_assoc, arith}
use Rattle.design_problem.specs.declared.tree.Entry.{Entry}
use Rattle.design_problem.specs.declared.tree.Entry.TheVariants.{Undone}
use Rattle.design_problem.specs.Earnest.{OpenPlace}
use Rattle.design_problem.specs.OpenPlaces.{Growing, grown, places_after, undones}

moved : (entries : List Entry) (places : List OpenPlace) → 0 < length places →
    (entries ++ Undone ∷ []) ++ undones (length (places_after places Undone)) ≡ entries ++ undones (length places)
moved entries [] some = absurd (omega arith)
moved entries (place ∷ places) some = append_assoc entries (Undone ∷ []) (undones (length places))

-- the entries with an Undone at each open place stay the same
pub undone_more : (tree next : Growing) (all : List Entry) → 0 < length tree.places → next ≡ grown tree Undone →
    tree.entries ++ undones (length tree.places) ≡ all → next.entries ++ undones (length next.places) ≡ all
undone_more tree next all some is same =
    ap (λ (t : Growing). t.entries ++ undones (length t.places)) is ∙ moved tree.entries tree.places some ∙ same

fewer : (places : List OpenPlace) → 0 < length places → length (places_after places Undone) < length places
fewer [] some = absurd (omega arith)
fewer (place ∷ places) some = omega arith

-- one place less is open
pub undone_fewer : (tree next : Growing) → 0 < length tree.places → next ≡ grown tree Undone → length next.places < length tree.places
undone_fewer tree next some is = omega (arith, ap (λ (t : Growing). length t.places) is, fewer tree.places some)
