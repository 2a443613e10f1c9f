-- the links that are left are those of the routers that are left, which with what was written make the whole
use Rattle.std.proofs.Common.{◌≡◌, ◌-◌, ◌++◌, nat_le, length, map, filter}
use Rattle.cost_base.specs.Lists.{numbers_from}
use Rattle.lsa_bytes.specs.Written.{bytes_of_all}
use Rattle.lsa_writer.specs.WrittenLsas.{own_lsa, router_lsas}
use Rattle.lsa_writer.proofs.writing.push_router_lsas.Given as goal

abbrev pub invariant-loop-router : goal.invariant-loop-router
invariant-loop-router l = record {
  rest : l.rest ≡ filter (λ s. nat_le l.router s.router) l.said;
  bytes : l.bytes.items ++ bytes_of_all
      (map (own_lsa l.configs l.said) (numbers_from l.router (length l.configs - l.router))) ≡ l.fn.bytes.items
      ++ bytes_of_all (router_lsas l.configs l.said);
}
