-- All lines of a comparison, part by part.
use Rattle.std.proofs.Common.{◌≡◌, ℕ, List, [], ◌∷◌, ◌++◌, length, None, ap, ◌∙◌, append_assoc}
use Rattle.std.specs.Prelude.{count_by, flat_map}
use Rattle.interface_model.specs.Records.{Router}
use Rattle.lsdb_build.specs.declared.Linked.{Linked}
use Rattle.lsdb_build.specs.Graphs.{Database}
use Rattle.lsa_bytes.specs.declared.Lsa.{Lsa}
use Rattle.lsa_writer.specs.declared.ends.LinkEnd.{LinkEnd}
use Rattle.lsa_writer.specs.Ends.{link_ends}
use Rattle.live_area.specs.declared.Difference.{Difference}
use Rattle.live_area.specs.declared.Difference.TheVariants.{Same}
use Rattle.live_area.specs.declared.links.LiveLink.{LiveLink}
use Rattle.live_area.specs.declared.interfaces.Compared.{Compared}
use Rattle.live_area.specs.LiveLinks.{live_links_of}
use Rattle.live_area.specs.Differences.{compared_from, compared_lines, difference_lines, is_as_said, lsa_lines}

-- the lines of these LSAs, links, and ends
abbrev lines_by : List Router → List ℕ → List Lsa → List LiveLink → List Linked → List LinkEnd → List Difference
lines_by configs costs lsas found links ends =
    compared_lines None (compared_from lsas found links costs 0 ends)
    ++ (flat_map (lsa_lines configs ends) lsas ++ Same (count_by is_as_said (compared_from lsas found links costs 0 ends)) (length links) ∷ [])

-- what a comparison works with is what its input says
pub record ArePartsOf (configs : List Router) (lsdb : Database) (live lsas : List Lsa) (found : List LiveLink) (links : List Linked) (ends : List LinkEnd) :
    Type 0 where
  pub same_lsas : lsas ≡ live
  pub same_found : found ≡ flat_map live_links_of lsas
  pub same_links : links ≡ lsdb.links
  pub same_ends : ends ≡ link_ends configs links

whole : (configs : List Router) (lsdb : Database) (costs : List ℕ) (live lsas : List Lsa) (found : List LiveLink) (links : List Linked) (ends : List LinkEnd) →
    ArePartsOf configs lsdb live lsas found links ends → lines_by configs costs lsas found links ends ≡ difference_lines configs lsdb costs live
whole configs lsdb costs live lsas found links ends parts =
    ap (λ (f : List LiveLink). lines_by configs costs lsas f links ends) parts.same_found
    ∙ ap (λ (es : List LinkEnd). lines_by configs costs lsas (flat_map live_links_of lsas) links es) parts.same_ends
    ∙ ap (λ (ls : List Linked). lines_by configs costs lsas (flat_map live_links_of lsas) ls (link_ends configs ls)) parts.same_links
    ∙ ap (λ (ls : List Lsa). lines_by configs costs ls (flat_map live_links_of ls) lsdb.links (link_ends configs lsdb.links)) parts.same_lsas

-- the lines of the interfaces, then those of the router-LSAs, and the count are all
pub all_lines : (configs : List Router) (lsdb : Database) (costs : List ℕ) (live lsas : List Lsa) (found : List LiveLink) (links : List Linked)
    (ends : List LinkEnd)
    (interfaces : List Compared) (same linked : ℕ) (first second lines : List Difference) →
    ArePartsOf configs lsdb live lsas found links ends → interfaces ≡ compared_from lsas found links costs 0 ends →
    first ≡ compared_lines None interfaces → second ≡ first ++ flat_map (lsa_lines configs ends) lsas →
    same ≡ count_by is_as_said interfaces → linked ≡ length links → lines ≡ second ++ Same same linked ∷ [] →
    lines ≡ difference_lines configs lsdb costs live
all_lines configs lsdb costs live lsas found links ends interfaces same linked first second lines parts are first_is second_is same_is linked_is is =
    let routers : List Difference = flat_map (lsa_lines configs ends) lsas in
    is
    ∙ ap (λ (xs : List Difference). xs ++ Same same linked ∷ []) (second_is ∙ ap (λ (xs : List Difference). xs ++ routers) first_is)
    ∙ append_assoc (compared_lines None interfaces) routers (Same same linked ∷ [])
    ∙ ap (λ n. compared_lines None interfaces ++ (routers ++ Same n linked ∷ [])) same_is
    ∙ ap (λ n. compared_lines None interfaces ++ (routers ++ Same (count_by is_as_said interfaces) n ∷ [])) linked_is
    ∙ ap (λ (cs : List Compared). compared_lines None cs ++ (routers ++ Same (count_by is_as_said cs) (length links) ∷ [])) are
    ∙ whole configs lsdb costs live lsas found links ends parts
