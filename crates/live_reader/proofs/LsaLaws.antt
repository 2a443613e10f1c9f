-- What a router-LSA in JSON says, and what a stop tells of it.
use Rattle.std.proofs.Common.{◌≡◌, ℕ, List, Some, None, sym, ap, ◌∙◌, subst}
use Rattle.std.specs.Prelude.{codes, Result, Err}
use Rattle.std.specs.Option.{option_and_then}
use Rattle.cost_base.specs.declared.refusal.Refusal.{Refusal}
use Rattle.cost_base.specs.declared.refusal.Refusal.TheVariants.{Refused, OutOfMemory}
use Rattle.json.specs.Json.{Json}
use Rattle.lsa_bytes.specs.declared.LsaLink.{LsaLink}
use Rattle.live_reader.specs.declared.heads.Head.{Head}
use Rattle.live_reader.specs.declared.fault.Lack.{Lack}
use Rattle.live_reader.specs.Stops.{TellsLack}
use Rattle.live_reader.specs.Places.{Member, object_members, those_last, member_values}
use Rattle.live_reader.specs.JsonLinks.{links_in}
use Rattle.live_reader.specs.JsonLsas.{head_of, inner, with_links, lsa_with, lsa_read}

-- an LSA of an object whose head and links are there
pub lsa_reads : (around place at : ℕ) (j : Json) (head : Head) (members inside : List Member) → object_members place j ≡ Some members →
    Some head ≡ option_and_then head_of (object_members place j) → option_and_then (inner (codes "routerLinks")) (object_members place j) ≡ Some (at, inside) →
    lsa_read around place (object_members place j) ≡ with_links place head (links_in at (member_values (those_last inside)))
lsa_reads around place at j head members inside is headed linked =
    ap (lsa_read around place) is
    ∙ ap (λ o. lsa_with place o (inner (codes "routerLinks") members)) (sym (headed ∙ ap (option_and_then head_of) is))
    ∙ ap (lsa_with place (Some head)) (sym (ap (option_and_then (inner (codes "routerLinks"))) is) ∙ linked)

-- an object without its head
pub lsa_headless : (around place : ℕ) (j : Json) (members : List Member) → object_members place j ≡ Some members →
    None ≡ option_and_then head_of (object_members place j) → lsa_read around place (object_members place j) ≡ Err place
lsa_headless around place j members is headed =
    ap (lsa_read around place) is
    ∙ ap (λ o. lsa_with place o (inner (codes "routerLinks") members)) (sym (headed ∙ ap (option_and_then head_of) is))

-- what a stop tells of the links it tells of the LSA
pub lsa_tells : (place : ℕ) (head : Head) (links : Result (List LsaLink) ℕ) (stop : Refusal Lack ℕ) → TellsLack links stop →
    TellsLack (with_links place head links) stop
lsa_tells place head links (Refused lack lacking) tells = ap (with_links place head) tells
lsa_tells place head links OutOfMemory tells = tt

-- what it tells of one thing it tells of the same thing
pub tells_same : {X : Type 0} (one other : Result X ℕ) (stop : Refusal Lack ℕ) → one ≡ other → TellsLack other stop → TellsLack one stop
tells_same one other stop same tells = subst (λ r. TellsLack r stop) (sym same) tells
