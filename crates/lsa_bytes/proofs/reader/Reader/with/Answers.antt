use Rattle.std.proofs.Common.{◌≡◌, ◌&&◌, List, false, sym, subst, ◌∙◌, ap}
use Rattle.std.specs.Prelude.{nat_le, count_by}
use Rattle.std.specs.List.{list_any}
use Rattle.std.proofs.lemmas.Bool.{not-true}
use Rattle.lsa_bytes.specs.declared.Lsa.{Lsa}
use Rattle.lsa_bytes.specs.Seen.{HasSeen}
use Rattle.lsa_bytes.specs.Databases.{HaveNoFault, is_router_lsa, is_same}
use Rattle.lsa_bytes.proofs.Entries.{faultless_push}
use Rattle.lsa_bytes.proofs.reader.Reader.with.Goals as goal

pub invariant_of-result : goal.invariant_of-result
invariant_of-result c =
    let before = c.self.inside.lsas.items in
    let lsa = c.args.lsa in
    let room : (is_router_lsa lsa && nat_le 1000 (count_by is_router_lsa before)) ≡ false =
    ap (λ (lsas : List Lsa). is_router_lsa lsa && nat_le 1000 (count_by is_router_lsa lsas)) c.self.view_is ∙ sym c.has_no_room.ensures ∙
    c.if-has_no_room.false in
    let new : list_any (is_same lsa) before ≡ false = not-true _ (sym (c.in_ok-add.ensures.new before c.self.invariant.seen) ∙ c.if-not-branch.false) in
    record {
      seen = subst (HasSeen c.add.new.self) (sym c.in_ok-push.ensures.items) (c.in_ok-add.ensures.added before c.self.invariant.seen c.if-not-branch.false);
      faultless = subst HaveNoFault (sym c.in_ok-push.ensures.items)
          (faultless_push before lsa c.self.invariant.faultless c.requires room new (sym c.has_zero_metric.ensures ∙ c.if-has_zero_metric.false));
    }
