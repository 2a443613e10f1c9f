-- By what a link is looked up. No public clause cites it.
use Rattle.std.specs.Prelude.{ℕ, List}
use Rattle.lsdb_build.specs.declared.Linked.{Linked}

-- by what a link is looked up: its router's number and its interface's name
abbrev pub link_key : Linked → ℕ × List ℕ
link_key link = (link.router, link.interface)
