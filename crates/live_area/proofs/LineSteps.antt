-- Lines that are added one after another.
use Rattle.std.proofs.Common.{◌≡◌, ◌&&◌, ℕ, ◌+◌, ◌<◌, ◌≤◌, Bool, true, cond, nat_eq, not, List, [], ◌∷◌, ◌++◌, length, map, drop, take, get_or, Option, None, Some, refl, sym, ap, subst, ◌∙◌, append_assoc, append-nil}
use Rattle.std.specs.Prelude.{flat_map, option_to_list, slice_get, slice_index, unwrap_or}
use Rattle.std.specs.List.{list_any}
use Rattle.std.specs.Option.{option_map}
use Rattle.std.proofs.lemmas.Bool.{eq-eqb}
use Rattle.std.proofs.lemmas.Option.{get_or_from_slice_get, slice_get-map, slice_get_within, unwrap_or-slice_get}
use Rattle.std.proofs.lemmas.List.Folds.{list_any_at}
use Rattle.std.proofs.lemmas.List.{at_drop_more, drop_all, take_more}
use Rattle.interface_model.specs.Records.{Router}
use Rattle.lsdb_build.specs.declared.Linked.{Linked}
use Rattle.lsdb_build.specs.Graphs.{router_of}
use Rattle.lsdb_build.proofs.Pairs.{at_map}
use Rattle.lsa_bytes.specs.declared.Lsa.{Lsa}
use Rattle.lsa_bytes.specs.Databases.{is_router_lsa, is_router_of}
use Rattle.lsa_bytes.specs.Ids.{is_id}
use Rattle.lsa_writer.specs.declared.ends.LinkEnd.{LinkEnd}
use Rattle.lsa_writer.specs.Ends.{no_end}
use Rattle.live_area.specs.declared.Difference.{Difference}
use Rattle.live_area.specs.declared.Difference.TheVariants.{Stranger}
use Rattle.live_area.specs.declared.links.LiveLink.{LiveLink}
use Rattle.live_area.specs.declared.interfaces.Compared.{Compared}
use Rattle.live_area.specs.LiveLinks.{is_end_named, live_links_of, metric_at, name_of_end, name_of_link}
use Rattle.live_area.specs.Differences.{compared_from, has_address, lines_of_router, lsa_lines, unknown_line, unknown_lines}

-- an end has its own name
pub own_name : (end : LinkEnd) → is_end_named (name_of_end end) end ≡ true
own_name end = ap (λ b. b && nat_eq end.address end.address) (eq-eqb end.router end.router refl) ∙ eq-eqb end.address end.address refl

-- one of some ends has the name of the end at a place
pub end_known : (ends : List LinkEnd) (number : ℕ) (end : LinkEnd) → slice_get ends number ≡ Some end → list_any (is_end_named (name_of_end end)) ends ≡ true
end_known ends number end there =
    subst (λ (e : LinkEnd). list_any (is_end_named (name_of_end e)) ends ≡ true) (get_or_from_slice_get ends number end no_end there)
    (list_any_at (is_end_named (name_of_end (get_or ends number no_end))) ends number no_end (slice_get_within ends number end there)
    (own_name (get_or ends number no_end)))

-- the number of the router of the link of a number
pub router_there : (links : List Linked) (l : ℕ) (link : Linked) → slice_get links l ≡ Some link → link.router ≡ router_of links l
router_there links l link at =
    sym (get_or_from_slice_get (map (λ (x : Linked). x.router) links) l link.router 0 (at_map (λ (x : Linked). x.router) links l link at))

-- and where there is no such link
pub router_missing : (links : List Linked) (l : ℕ) → slice_get links l ≡ None → 0 ≡ router_of links l
router_missing links l at =
    sym (ap (λ (o : Option ℕ). unwrap_or o 0) (slice_get-map (λ (x : Linked). x.router) links l ∙ ap (option_map (λ (x : Linked). x.router)) at))
    ∙ unwrap_or-slice_get (map (λ (x : Linked). x.router) links) l 0

-- the router of a link, where it is there and where it isn't
pub ruleset routers_known = (router_there, router_missing)

-- one interface more
pub compared_step : (lsas : List Lsa) (all : List LiveLink) (links : List Linked) (costs : List ℕ) (ends : List LinkEnd) (i : ℕ) (d : LinkEnd)
    (made : Compared) (olds news whole : List Compared) → i < length ends → news ≡ olds ++ made ∷ [] →
    made ≡ record {
      router = router_of links i;
      link = i;
      cost = slice_index costs i;
      counts = list_any (is_router_of (get_or ends i d).router) lsas;
      metric = metric_at (get_or ends i d) all;
    } → olds ++ compared_from lsas all links costs i (drop i ends) ≡ whole →
    news ++ compared_from lsas all links costs (i + 1) (drop (i + 1) ends) ≡ whole
compared_step lsas all links costs ends i d made olds news whole within is made_is before =
    let rest : List Compared = compared_from lsas all links costs (i + 1) (drop (i + 1) ends) in
    ap (λ (xs : List Compared). xs ++ rest) is
    ∙ append_assoc olds (made ∷ []) rest
    ∙ ap (λ (x : Compared). olds ++ x ∷ rest) made_is
    ∙ sym (ap (λ (xs : List Compared). olds ++ xs) (at_drop_more (compared_from lsas all links costs i) ends i d within))
    ∙ before

-- the line of one link more
pub unknown_step : (ends : List LinkEnd) (links : List LiveLink) (i : ℕ) (d : LiveLink) (line : Option Difference) (olds news whole : List Difference) →
    i < length links → news ≡ olds ++ option_to_list line → line ≡ unknown_line ends (take i links) (get_or links i d) →
    olds ++ unknown_lines ends (take i links) (drop i links) ≡ whole → news ++ unknown_lines ends (take (i + 1) links) (drop (i + 1) links) ≡ whole
unknown_step ends links i d line olds news whole within is line_is before =
    let rest : List Difference = unknown_lines ends (take (i + 1) links) (drop (i + 1) links) in
    ap (λ (xs : List Difference). xs ++ rest) is
    ∙ append_assoc olds (option_to_list line) rest
    ∙ ap (λ (l : Option Difference). olds ++ (option_to_list l ++ rest)) line_is
    ∙ ap (λ (seen : List LiveLink). olds ++ (option_to_list (unknown_line ends (take i links) (get_or links i d)) ++
    unknown_lines ends seen (drop (i + 1) links)))
    (take_more links i d within)
    ∙ sym (ap (λ (xs : List Difference). olds ++ xs) (at_drop_more (unknown_lines ends (take i links)) links i d within))
    ∙ before

-- no link is left
pub unknown_end : (ends : List LinkEnd) (links : List LiveLink) (i : ℕ) (lines whole : List Difference) → length links ≤ i →
    lines ++ unknown_lines ends (take i links) (drop i links) ≡ whole → lines ≡ whole
unknown_end ends links i lines whole over before =
    sym (append-nil lines)
    ∙ sym (ap (λ (left : List LiveLink). lines ++ unknown_lines ends (take i links) left) (drop_all i links over))
    ∙ before

-- the line of a link, by whether an end is its own and none before has its data
pub line_is : (ends : List LinkEnd) (before : List LiveLink) (link : LiveLink) (known first : Bool) → known ≡ list_any (is_end_named (name_of_link link)) ends →
    first ≡ not (list_any (has_address link.address) before) →
    cond (known && first) None (Some (Difference.Unknown link.router link.address link.metric)) ≡ unknown_line ends before link
line_is ends before link known first known_is first_is =
    ap (λ b. cond (b && first) None (Some (Difference.Unknown link.router link.address link.metric))) known_is
    ∙ ap (λ b. cond (list_any (is_end_named (name_of_link link)) ends && b) None (Some (Difference.Unknown link.router link.address link.metric))) first_is

-- the lines of a router-LSA whose router is known
pub known_lines : (configs : List Router) (ends : List LinkEnd) (lsa : Lsa) (links : List LiveLink) → is_router_lsa lsa ≡ true →
    list_any (λ config. is_id lsa.router config.router_id) configs ≡ true → links ≡ live_links_of lsa → unknown_lines ends [] links ≡ lsa_lines configs ends lsa
known_lines configs ends lsa links router known is =
    ap (unknown_lines ends []) is
    ∙ sym (ap (λ b. cond b (unknown_lines ends [] (live_links_of lsa)) (Stranger lsa.router ∷ [])) known)
    ∙ sym (ap (λ b. cond b (lines_of_router configs ends lsa) []) router)

-- the lines of one LSA more
pub lsa_step : (lines_of : Lsa → List Difference) (lsas : List Lsa) (i : ℕ) (d : Lsa) (olds news whole : List Difference) → i < length lsas →
    news ≡ olds ++ lines_of (get_or lsas i d) → olds ++ flat_map lines_of (drop i lsas) ≡ whole → news ++ flat_map lines_of (drop (i + 1) lsas) ≡ whole
lsa_step lines_of lsas i d olds news whole within is before =
    ap (λ (xs : List Difference). xs ++ flat_map lines_of (drop (i + 1) lsas)) is
    ∙ append_assoc olds (lines_of (get_or lsas i d)) (flat_map lines_of (drop (i + 1) lsas))
    ∙ sym (ap (λ (xs : List Difference). olds ++ xs) (at_drop_more (flat_map lines_of) lsas i d within))
    ∙ before

-- no LSA is left
pub lsa_end : (lines_of : Lsa → List Difference) (lsas : List Lsa) (i : ℕ) (lines whole : List Difference) → length lsas ≤ i →
    lines ++ flat_map lines_of (drop i lsas) ≡ whole → lines ≡ whole
lsa_end lines_of lsas i lines whole over before =
    sym (append-nil lines) ∙ sym (ap (λ (left : List Lsa). lines ++ flat_map lines_of left) (drop_all i lsas over)) ∙ before
