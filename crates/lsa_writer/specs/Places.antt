-- How many stand in front. No public clause cites it.
use Rattle.std.specs.Prelude.{ℕ, suc, ◌==◌, List, [], ◌∷◌, if◌then◌else◌}
use Rattle.lsa_writer.specs.declared.said.OwnedLink.{OwnedLink}

-- how many links at the front of a list are of a router
abbrev pub own_count : ℕ → List OwnedLink → ℕ
own_count router [] = 0
own_count router (said ∷ more) = if said.router == router then suc (own_count router more) else 0
