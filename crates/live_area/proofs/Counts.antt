-- How many interfaces are compared.
use Rattle.std.proofs.Common.{◌≡◌, ℕ, suc, ◌+◌, List, [], ◌∷◌, length, refl, ap}
use Rattle.lsdb_build.specs.declared.Linked.{Linked}
use Rattle.lsa_bytes.specs.declared.Lsa.{Lsa}
use Rattle.lsa_writer.specs.declared.ends.LinkEnd.{LinkEnd}
use Rattle.live_area.specs.declared.links.LiveLink.{LiveLink}
use Rattle.live_area.specs.Differences.{compared_from}

-- one for each end
pub compared_count : (lsas : List Lsa) (live : List LiveLink) (links : List Linked) (costs : List ℕ) (l : ℕ) (ends : List LinkEnd) →
    length (compared_from lsas live links costs l ends) ≡ length ends
compared_count lsas live links costs l [] = refl
compared_count lsas live links costs l (end ∷ ends) = ap suc (compared_count lsas live links costs (l + 1) ends)
