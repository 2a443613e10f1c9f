-- Drafts are what the lines say of interfaces.
use Rattle.std.proofs.Common.{◌≡◌, ℕ, List, [], ◌∷◌, ◌++◌, Bool, cond, true, false, ◌||◌, refl, sym, ap, ◌∙◌, Option, Some, None, append-nil, append_assoc}
use Rattle.std.specs.Prelude.{unwrap_or}
use Rattle.std.specs.List.{filter, filter_map, list_any, cons_option}
use Rattle.std.specs.Option.{option_or}
use Rattle.std.proofs.Math.Bool.{or-false}
use Rattle.std.proofs.lemmas.Bool.{false≢true}
use Rattle.std.proofs.lemmas.List.Folds.{list_any-append}
use Rattle.std.proofs.lemmas.List.Elements.{filter_map-append}
use Rattle.cost_base.specs.Lists.{first_of, same_bytes}
use Rattle.cost_base.proofs.ByteLemmas.{same_bytes-swap}
use Rattle.cost_base.proofs.ListLemmas.{option_or-none}
use Rattle.text_lines.specs.Numbers.{Prefix}
use Rattle.interface_model.specs.declared.Interface.{Interface}
use Rattle.interface_model.specs.declared.Kind.{Kind}
use Rattle.interface_model.specs.declared.Kind.TheVariants.{Broadcast}
use Rattle.config_reader.specs.declared.drafts.Draft.{Draft}
use Rattle.config_reader.specs.declared.networks.NetworkLine.{NetworkLine}
use Rattle.config_reader.specs.Statements.{Statement, AddressIs, AreaIs, CostIs, KindIs, PriorityIs, PassiveIs, DownIs, RouterIdIs, NetworkIs, PassiveInterfaceIs, Refused, Unread, Block, OfInterface, OfRouter, OfOther}
use Rattle.config_reader.specs.Settings.{Said, about, about_router, is_of, is_of_router, setting, address_said, area_set, cost_set, kind_said, passive_said, down_said, priority_said, passive_name_said, address_part, length_part}
use Rattle.config_reader.specs.Hearing.{sets}
use Rattle.config_reader.specs.Drafting.{new_draft, with_setting, with_address, touch, target, change, is_matched, covers, draft_with, draft_after}
use Rattle.config_reader.proofs.SettingSteps.{about-push, about_router-push, said_where, Made, by_said, by_one_more, by_said-push}

-- an interface by its own settings
unfoldable pub plain_by : List ℕ → ℕ → Made Interface
plain_by name line address area cost kind passive down priority = record {
  name = name;
  line = line;
  address = address_part address;
  length = length_part address;
  area = area;
  cost = cost;
  kind = unwrap_or kind Broadcast;
  passive = unwrap_or passive false;
  down = unwrap_or down false;
  priority = unwrap_or priority 1;
}

unfoldable pub plain : List Statement → List ℕ → ℕ → Interface
plain own name line = by_said (plain_by name line) own

plain-push : (own : List Statement) (name : List ℕ) (line : ℕ) (s : Statement) →
    plain (own ++ s ∷ []) name line ≡ by_one_more (plain_by name line) (option_or (first_of (filter_map address_said own)) (address_said s)) own s
unfolding plain
plain-push own name line s = by_said-push (plain_by name line) own s

-- the first address with one more, by whether there was one
add_address : (name : List ℕ) (line : ℕ) (p : Prefix) (o : Option Prefix) (area cost : Option ℕ) (kind : Option Kind)
    (passive down : Option Bool) (priority : Option ℕ) →
    with_address p (address_part o) (plain_by name line o area cost kind passive down priority)
    ≡ plain_by name line (option_or o (Some p)) area cost kind passive down priority
unfolding plain_by
add_address name line p None area cost kind passive down priority = refl
add_address name line p (Some q) area cost kind passive down priority = refl

-- an interface with one more statement
module _ (own : List Statement) (name : List ℕ) (line : ℕ) where
  quiet : (s : Statement) → address_said s ≡ None →
      plain (own ++ s ∷ []) name line ≡ by_one_more (plain_by name line) (first_of (filter_map address_said own)) own s
  quiet s none =
      plain-push own name line s
      ∙ ap (λ o. by_one_more (plain_by name line) o own s)
      (ap (option_or (first_of (filter_map address_said own))) none ∙ option_or-none (first_of (filter_map address_said own)))

  sets_one : (s : Statement) → plain (own ++ s ∷ []) name line ≡ with_setting s (plain own name line)
  unfolding plain plain_by
  sets_one (AddressIs p) =
      plain-push own name line (AddressIs p)
      ∙ sym (add_address name line p (first_of (filter_map address_said own)) (setting area_set own)
      (setting cost_set own) (setting kind_said own) (setting passive_said own) (setting down_said own)
      (setting priority_said own))
  sets_one (AreaIs a) = quiet (AreaIs a) refl
  sets_one (CostIs n) = quiet (CostIs n) refl
  sets_one (KindIs k) = quiet (KindIs k) refl
  sets_one (PriorityIs n) = quiet (PriorityIs n) refl
  sets_one (PassiveIs b) = quiet (PassiveIs b) refl
  sets_one (DownIs b) = quiet (DownIs b) refl
  sets_one (RouterIdIs id) = quiet (RouterIdIs id) refl
  sets_one (NetworkIs w) = quiet (NetworkIs w) refl
  sets_one (PassiveInterfaceIs other) = quiet (PassiveInterfaceIs other) refl
  sets_one (Refused fault) = quiet (Refused fault) refl
  sets_one Unread = quiet Unread refl

-- whether a `network` line matches an address of these
abbrev pub any_matched : List NetworkLine → List Statement → Bool
any_matched nets own = list_any (λ p. list_any (covers p) nets) (filter_map address_said own)

abbrev pub any_listed : List ℕ → List Statement → Bool
any_listed name router = list_any (same_bytes name) (filter_map passive_name_said router)

matched-push : (nets : List NetworkLine) (own : List Statement) (s : Statement) → any_matched nets (own ++ s ∷ []) ≡ (any_matched nets own || is_matched nets s)
matched-push nets own s =
    ap (list_any (λ p. list_any (covers p) nets)) (filter_map-append address_said own (s ∷ []))
    ∙ list_any-append (λ p. list_any (covers p) nets) (filter_map address_said own) (filter_map address_said (s ∷ []))
    ∙ ap (λ b. any_matched nets own || b) (by s)
  where
    by : (t : Statement) → list_any (λ p. list_any (covers p) nets) (filter_map address_said (t ∷ [])) ≡ is_matched nets t
    by (AddressIs p) = or-false (list_any (covers p) nets)
    by (AreaIs a) = refl
    by (CostIs n) = refl
    by (KindIs k) = refl
    by (PriorityIs n) = refl
    by (PassiveIs b) = refl
    by (DownIs b) = refl
    by (RouterIdIs id) = refl
    by (NetworkIs w) = refl
    by (PassiveInterfaceIs other) = refl
    by (Refused fault) = refl
    by Unread = refl

-- a draft by what its blocks and the router blocks say
abbrev pub draft_from : List NetworkLine → List Statement → List Statement → List ℕ → ℕ → Draft
draft_from nets own router name line =
    record { interface = plain own name line; matched = any_matched nets own; listed = any_listed name router }

plain_name : (own : List Statement) (name : List ℕ) (line : ℕ) → (plain own name line).name ≡ name
unfolding plain plain_by
plain_name own name line = refl

-- one more line, by its block
by_block : (nets : List NetworkLine) (own router : List Statement) (name : List ℕ) (line : ℕ) (block : Block) (s : Statement) →
    touch (target block s) (change nets block s) (draft_from nets own router name line)
    ≡ draft_from nets (own ++ said_where (is_of name block) s)
    (router ++ said_where (is_of_router block) s) name line
by_block nets own router name line OfOther s =
    ap (λ o. draft_from nets o router name line) (sym (append-nil own)) ∙ ap (λ r. draft_from nets (own ++ []) r name line) (sym (append-nil router))
by_block nets own router name line (OfInterface other) s =
    ap (λ n. cond (same_bytes other n) (change nets (OfInterface other) s (draft_from nets own router name line))
    (draft_from nets own router name line)) (plain_name own name line)
    ∙ ap (λ b. cond b (change nets (OfInterface other) s (draft_from nets own router name line))
    (draft_from nets own router name line)) (same_bytes-swap other name)
    ∙ cases (same_bytes name other)
    ∙ ap (λ r. draft_from nets (own ++ said_where (same_bytes name other) s) r name line) (sym (append-nil router))
  where
    cases : (b : Bool) → cond b (change nets (OfInterface other) s (draft_from nets own router name line))
        (draft_from nets own router name line) ≡ draft_from nets (own ++ said_where b s) router name line
    cases true =
        ap (λ i. record (draft_from nets own router name line) {
          interface = i;
          matched = any_matched nets own
              || is_matched nets s;
        }) (sym (sets_one own name line s))
        ∙ ap (λ m. record (draft_from nets (own ++ s ∷ []) router name line) { matched = m }) (sym (matched-push nets own s))
    cases false = ap (λ o. draft_from nets o router name line) (sym (append-nil own))
by_block nets own router name line OfRouter s = by s ∙ ap (λ o. draft_from nets o (router ++ s ∷ []) name line) (sym (append-nil own))
  where
    silent : (t : Statement) → passive_name_said t ≡ None → draft_from nets own router name line ≡ draft_from nets own (router ++ t ∷ []) name line
    silent t none = ap (λ b. record (draft_from nets own router name line) { listed = b })
        (sym (ap (list_any (same_bytes name)) (filter_map-append passive_name_said router (t ∷ [])
        ∙ ap (λ o. filter_map passive_name_said router ++ cons_option o []) none
        ∙ append-nil (filter_map passive_name_said router))))

    by : (t : Statement) → touch (target OfRouter t) (change nets OfRouter t) (draft_from nets own router name line)
        ≡ draft_from nets own (router ++ t ∷ []) name line
    by (PassiveInterfaceIs other) =
        ap (λ n. cond (same_bytes other n) (record (draft_from nets own router name line) { listed = true })
        (draft_from nets own router name line)) (plain_name own name line)
        ∙ ap (λ b. cond b (record (draft_from nets own router name line) { listed = true }) (draft_from nets own router name line)) (same_bytes-swap other name)
        ∙ cases (same_bytes name other) (any_listed name router)
        ∙ ap (λ b. record (draft_from nets own router name line) { listed = b })
        (sym (ap (list_any (same_bytes name))
        (filter_map-append passive_name_said router (PassiveInterfaceIs other ∷ []))
        ∙ list_any-append (same_bytes name) (filter_map passive_name_said router) (other ∷ [])))
      where
        cases : (b l : Bool) → cond b (record (draft_from nets own router name line) { listed = true })
            (record (draft_from nets own router name line) { listed = l })
            ≡ record (draft_from nets own router name line) { listed = l || (b || false) }
        cases true true = refl
        cases true false = refl
        cases false true = refl
        cases false false = refl
    by (AddressIs p) = silent (AddressIs p) refl
    by (AreaIs a) = silent (AreaIs a) refl
    by (CostIs n) = silent (CostIs n) refl
    by (KindIs k) = silent (KindIs k) refl
    by (PriorityIs n) = silent (PriorityIs n) refl
    by (PassiveIs b) = silent (PassiveIs b) refl
    by (DownIs b) = silent (DownIs b) refl
    by (RouterIdIs id) = silent (RouterIdIs id) refl
    by (NetworkIs w) = silent (NetworkIs w) refl
    by (Refused fault) = silent (Refused fault) refl
    by Unread = silent Unread refl

-- a draft by all that is said
abbrev pub draft_of : List NetworkLine → List Said → List ℕ × ℕ → Draft
draft_of nets all head = draft_from nets (about all head.0) (about_router all) head.0 head.1

draft_step : (nets : List NetworkLine) (all : List Said) (head : List ℕ × ℕ) (s : Said) →
    draft_with nets s (draft_of nets all head) ≡ draft_of nets (all ++ s ∷ []) head
draft_step nets all head s =
    by_block nets (about all head.0) (about_router all) head.0 head.1 s.block s.statement
    ∙ ap (λ o. draft_from nets o (about_router all ++ said_where (is_of_router s.block) s.statement) head.0 head.1) (sym (about-push all s head.0))
    ∙ ap (λ r. draft_from nets (about (all ++ s ∷ []) head.0) r head.0 head.1) (sym (about_router-push all s))

drafts_along : (nets : List NetworkLine) (before rest : List Said) (head : List ℕ × ℕ) →
    draft_after nets rest (draft_of nets before head) ≡ draft_of nets (before ++ rest) head
drafts_along nets before [] head = ap (λ all. draft_of nets all head) (sym (append-nil before))
drafts_along nets before (s ∷ rest) head =
    ap (draft_after nets rest) (draft_step nets before head s)
    ∙ drafts_along nets (before ++ s ∷ []) rest head
    ∙ ap (λ all. draft_of nets all head) (append_assoc before (s ∷ []) rest)

new_is : (nets : List NetworkLine) (head : List ℕ × ℕ) → new_draft head ≡ draft_of nets [] head
unfolding plain plain_by
new_is nets head = refl

-- a mark that isn't set leaves a draft as it is
unmarked : (d : Draft) (c : Bool) → cond c (record d { matched = d.matched || false }) d ≡ d
unmarked d true = ap (λ m. record d { matched = m }) (or-false d.matched)
unmarked d false = refl

-- a line that sets nothing changes no draft
unset : (nets : List NetworkLine) (block : Block) (s : Statement) (d : Draft) → sets s ≡ false → touch (target block s) (change nets block s) d ≡ d
unset nets block (Refused fault) d quiet = by block
  where
    by : (b : Block) → touch (target b (Refused fault)) (change nets b (Refused fault)) d ≡ d
    by (OfInterface name) = unmarked d (same_bytes name d.interface.name)
    by OfRouter = refl
    by OfOther = refl
unset nets block Unread d quiet = by block
  where
    by : (b : Block) → touch (target b Unread) (change nets b Unread) d ≡ d
    by (OfInterface name) = unmarked d (same_bytes name d.interface.name)
    by OfRouter = refl
    by OfOther = refl
unset nets block (AddressIs p) d quiet = absurd (false≢true (sym quiet))
unset nets block (AreaIs a) d quiet = absurd (false≢true (sym quiet))
unset nets block (CostIs n) d quiet = absurd (false≢true (sym quiet))
unset nets block (KindIs k) d quiet = absurd (false≢true (sym quiet))
unset nets block (PriorityIs n) d quiet = absurd (false≢true (sym quiet))
unset nets block (PassiveIs b) d quiet = absurd (false≢true (sym quiet))
unset nets block (DownIs b) d quiet = absurd (false≢true (sym quiet))
unset nets block (RouterIdIs id) d quiet = absurd (false≢true (sym quiet))
unset nets block (NetworkIs w) d quiet = absurd (false≢true (sym quiet))
unset nets block (PassiveInterfaceIs other) d quiet = absurd (false≢true (sym quiet))

-- the lines that set something are enough
after_settings : (nets : List NetworkLine) (all : List Said) (d : Draft) → draft_after nets (filter (λ s. sets s.statement) all) d ≡ draft_after nets all d
after_settings nets [] d = refl
after_settings nets (s ∷ all) d = cases (sets s.statement) refl (λ e. after_settings nets all e)
  where
    cases : (b : Bool) → sets s.statement ≡ b →
        ((e : Draft) → draft_after nets (filter (λ t. sets t.statement) all) e ≡ draft_after nets all e) →
        draft_after nets (cond b (s ∷ filter (λ t. sets t.statement) all) (filter (λ t. sets t.statement) all)) d
        ≡ draft_after nets all (draft_with nets s d)
    cases true e more = more (draft_with nets s d)
    cases false e more = more d ∙ ap (draft_after nets all) (sym (unset nets s.block s.statement d e))

-- the draft of a head after all lines
pub drafted : (nets : List NetworkLine) (all : List Said) (head : List ℕ × ℕ) →
    draft_after nets (filter (λ s. sets s.statement) all) (new_draft head) ≡ draft_of nets all head
drafted nets all head = after_settings nets all (new_draft head) ∙ ap (draft_after nets all) (new_is nets head) ∙ drafts_along nets [] all head
