-- One more line for drafts.
use Rattle.std.proofs.Common.{◌≡◌, ℕ, zero, suc, ◌+◌, ◌<◌, ◌≤◌, List, [], ◌∷◌, ◌++◌, length, map, take, drop, drop-cons, set, get_or, Bool, cond, true, false, refl, sym, ap, ◌∙◌, arith, subst, append-nil, Option, Some, None}
use Rattle.std.specs.Prelude.{position}
use Rattle.std.proofs.Math.ListN.{get_or-map}
use Rattle.std.specs.List.{list_any}
use Rattle.std.proofs.lemmas.Bool.{false≢true, false_from_ne_true, or_parts}
use Rattle.std.proofs.lemmas.List.{map-append, length-map, take_more}
use Rattle.std.proofs.lemmas.List.Folds.{list_any_at}
use Rattle.std.proofs.lemmas.List.Quantifiers.{position-Some}
use Rattle.cost_base.specs.Lists.{same_bytes}
use Rattle.cost_base.proofs.ByteLemmas.{same_bytes-refl, same_bytes-true}
use Rattle.config_reader.specs.declared.drafts.Draft.{Draft}
use Rattle.config_reader.specs.declared.drafts.Drafts.{Drafts}
use Rattle.config_reader.specs.declared.networks.NetworkLine.{NetworkLine}
use Rattle.config_reader.specs.Statements.{Statement, AddressIs, AreaIs, CostIs, KindIs, PriorityIs, PassiveIs, DownIs, RouterIdIs, NetworkIs, PassiveInterfaceIs, Refused, Unread, Block, OfInterface, OfRouter, OfOther}
use Rattle.config_reader.specs.Settings.{Said}
use Rattle.config_reader.specs.Configs.{firsts}
use Rattle.config_reader.specs.Drafting.{new_draft, touch, target, change, draft_with, draft_after, with_address}
use Rattle.config_reader.specs.Gathered.{NamesApart, IsOpened, IsGathered}
use Rattle.config_reader.specs.declared.reader.Said.{Said as SpokenLine}
use Rattle.config_reader.specs.Heards.{head_heard, said_of}
use Rattle.config_reader.specs.declared.reader.NamedHead.{NamedHead}
use Rattle.text_lines.proofs.Images.{any-map}
use Rattle.config_reader.proofs.BlockFacts.{firsts-apart}
use Rattle.config_reader.proofs.HeadSteps.{firsts-push, unless_known, is_headed}

abbrev pub names_of : List Draft → List (List ℕ)
names_of ds = map (λ d. d.interface.name) ds

map_same : (f : Draft → Draft) (ds : List Draft) → ((d : Draft) → f d ≡ d) → ds ≡ map f ds
map_same f [] same = refl
map_same f (d ∷ ds) same = cc (same d, map_same f ds same)

-- a line about no interface
pub untouched : (t : Option (List ℕ)) (f : Draft → Draft) (ds : List Draft) → None ≡ t → ds ≡ map (touch t f) ds
untouched None f ds e = map_same (touch None f) ds (λ d. refl)
untouched (Some name) f ds e = absurd (cc)

others : (name : List ℕ) (f : Draft → Draft) (ds : List Draft) → list_any (same_bytes name) (names_of ds) ≡ false → ds ≡ map (touch (Some name) f) ds
others name f [] none = refl
others name f (d ∷ ds) none =
    let parts = or_parts (same_bytes name d.interface.name) (list_any (same_bytes name) (names_of ds)) none in
    cc (ap (λ b. cond b (f d) d) parts.0, others name f ds parts.1)

-- a line about an interface that has no draft
pub unmatched : (name : List ℕ) (f : Draft → Draft) (ds : List Draft) (names : List (List ℕ)) → names ≡ names_of ds →
    false ≡ list_any (same_bytes name) names → ds ≡ map (touch (Some name) f) ds
unmatched name f ds names named none = others name f ds (sym (none ∙ ap (list_any (same_bytes name)) named))

touched : (name : List ℕ) (f : Draft → Draft) (ds : List Draft) (i : ℕ) (d : Draft) → i < length ds →
    (get_or ds i d).interface.name ≡ name → NamesApart (names_of ds) →
    set ds i (f (get_or ds i d)) ≡ map (touch (Some name) f) ds
touched name f [] i d within named apart = absurd (omega arith)
touched name f (x ∷ ds) zero d within named apart =
    let lacks : list_any (same_bytes name) (names_of ds) ≡ false = ap (λ n. list_any (same_bytes n) (names_of ds)) (sym named) ∙ apart.0 in
    let here : same_bytes name x.interface.name ≡ true = ap (same_bytes name) named ∙ same_bytes-refl name in
    cc (ap (λ b. cond b (f x) x) here, others name f ds lacks)
touched name f (x ∷ ds) (suc i) d within named apart =
    let short : i < length ds = omega arith in
    let other : same_bytes name x.interface.name ≡ false =
    false_from_ne_true (same_bytes name x.interface.name)
    (λ same. false≢true (sym apart.0 ∙ there (same_bytes-true name x.interface.name same) short)) in
    cc (ap (λ b. cond b (f x) x) other, touched name f ds i d short named apart.1)
  where
    there : name ≡ x.interface.name → i < length ds → list_any (same_bytes x.interface.name) (names_of ds) ≡ true
    there same short =
        list_any_at (same_bytes x.interface.name) (names_of ds) i d.interface.name (omega (arith, short, length-map ds (λ (y : Draft). y.interface.name)))
        (ap (same_bytes x.interface.name) (get_or-map (λ (y : Draft). y.interface.name) ds i d ∙ named ∙ same) ∙ same_bytes-refl x.interface.name)

-- a line about an interface changes its draft
pub touched_at : (name : List ℕ) (f : Draft → Draft) (ds : List Draft) (names : List (List ℕ)) (i : ℕ) (d : Draft) →
    names ≡ names_of ds → NamesApart names → position (same_bytes name) names ≡ Some i →
    set ds i (f (get_or ds i d)) ≡ map (touch (Some name) f) ds
touched_at name f ds names i d named apart at =
    let found = position-Some (same_bytes name) names i d.interface.name at in
    let within : i < length ds = omega (arith, found.0, ap length named, length-map ds (λ (y : Draft). y.interface.name)) in
    touched name f ds i d within (sym
    (same_bytes-true name (get_or ds i d).interface.name
    (ap (same_bytes name) (sym (get_or-map (λ (y : Draft). y.interface.name) ds i d) ∙ ap (λ ns. get_or ns i d.interface.name) (sym named))
    ∙ found.1))) (subst_apart named apart)
  where
    subst_apart : names ≡ names_of ds → NamesApart names → NamesApart (names_of ds)
    subst_apart e h = subst NamesApart e h

-- a line leaves the name of a draft
change_named : (nets : List NetworkLine) (block : Block) (s : Statement) (d : Draft) → (change nets block s d).interface.name ≡ d.interface.name
change_named nets OfRouter s d = refl
change_named nets OfOther s d = refl
change_named nets (OfInterface name) (AddressIs p) d = first d.interface.address
  where
    first : (o : Option ℕ) → (with_address p o d.interface).name ≡ d.interface.name
    first None = refl
    first (Some a) = refl
change_named nets (OfInterface name) (AreaIs a) d = refl
change_named nets (OfInterface name) (CostIs n) d = refl
change_named nets (OfInterface name) (KindIs k) d = refl
change_named nets (OfInterface name) (PriorityIs n) d = refl
change_named nets (OfInterface name) (PassiveIs b) d = refl
change_named nets (OfInterface name) (DownIs b) d = refl
change_named nets (OfInterface name) (RouterIdIs id) d = refl
change_named nets (OfInterface name) (NetworkIs w) d = refl
change_named nets (OfInterface name) (PassiveInterfaceIs other) d = refl
change_named nets (OfInterface name) (Refused fault) d = refl
change_named nets (OfInterface name) Unread d = refl

pub with_named : (nets : List NetworkLine) (s : Said) (d : Draft) → (draft_with nets s d).interface.name ≡ d.interface.name
with_named nets s d = by (target s.block s.statement)
  where
    by : (t : Option (List ℕ)) → (touch t (change nets s.block s.statement) d).interface.name ≡ d.interface.name
    by None = refl
    by (Some name) = cases (same_bytes name d.interface.name)
      where
        cases : (b : Bool) → (cond b (change nets s.block s.statement d) d).interface.name ≡ d.interface.name
        cases true = change_named nets s.block s.statement d
        cases false = refl

pub names_kept : (nets : List NetworkLine) (s : Said) (ds : List Draft) → names_of (map (draft_with nets s) ds) ≡ names_of ds
names_kept nets s [] = refl
names_kept nets s (d ∷ ds) = cc (with_named nets s d, names_kept nets s ds)

-- a line and then the rest
pub after_more : (nets : List NetworkLine) (s : Said) (rest : List Said) (ds : List Draft) →
    map (draft_after nets rest) (map (draft_with nets s) ds) ≡ map (draft_after nets (s ∷ rest)) ds
after_more nets s rest [] = refl
after_more nets s rest (d ∷ ds) = ap (λ more. draft_after nets (s ∷ rest) d ∷ more) (after_more nets s rest ds)

pub after_none : (nets : List NetworkLine) (ds : List Draft) → map (draft_after nets []) ds ≡ ds
after_none nets [] = refl
after_none nets (d ∷ ds) = ap (λ more. d ∷ more) (after_none nets ds)

-- one more head
pub opened_more : (heads : List NamedHead) (i : ℕ) (old new : Drafts) (d : NamedHead) → i < length heads → IsOpened (map head_heard (take i heads)) old →
    new.drafts.items ≡ cond (list_any (same_bytes (get_or heads i d).name.now) old.names) old.drafts.items
    (old.drafts.items ++ new_draft (head_heard (get_or heads i d)) ∷ []) →
    new.names ≡ cond (list_any (same_bytes (get_or heads i d).name.now) old.names) old.names (old.names ++ (get_or heads i d).name.now ∷ []) →
    IsOpened (map head_heard (take (i + 1) heads)) new
opened_more heads i old new d within so_far drafts names = record {
  drafts = drafts ∙ drafts_by (list_any (same_bytes head.name.now) old.names) refl;
  names = names ∙ names_by (list_any (same_bytes head.name.now) old.names) refl;
}
  where
    head : NamedHead
    head = get_or heads i d

    hs : List (List ℕ × ℕ)
    hs = map head_heard (take i heads)

    grown : map head_heard (take (i + 1) heads) ≡ hs ++ head_heard head ∷ []
    grown =
        ap (map head_heard) (take_more heads i d within)
        ∙ map-append head_heard (take i heads) (get_or heads i d ∷ [])

    known : list_any (same_bytes head.name.now) old.names ≡ is_headed head.name.now (firsts [] hs)
    known = ap (list_any (same_bytes head.name.now)) so_far.names ∙ sym (any-map (same_bytes head.name.now) (λ (h : List ℕ × ℕ). h.0) (firsts [] hs))

    firsts_now : firsts [] (map head_heard (take (i + 1) heads)) ≡ firsts [] hs ++
        unless_known (list_any (same_bytes head.name.now) old.names) (head_heard head)
    firsts_now = ap (firsts []) grown ∙ firsts-push [] hs (head_heard head) ∙ ap (λ b. firsts [] hs ++ unless_known b (head_heard head)) (sym known)

    drafts_by : (b : Bool) → list_any (same_bytes head.name.now) old.names ≡ b →
        cond b old.drafts.items (old.drafts.items ++ new_draft (head_heard head) ∷ [])
        ≡ map new_draft (firsts [] (map head_heard (take (i + 1) heads)))
    drafts_by true e =
        so_far.drafts
        ∙ ap (map new_draft) (sym (append-nil (firsts [] hs)) ∙ ap (λ b. firsts [] hs ++ unless_known b (head_heard head)) (sym e) ∙ sym firsts_now)
    drafts_by false e =
        ap (λ ds. ds ++ new_draft (head_heard head) ∷ []) so_far.drafts
        ∙ sym (map-append new_draft (firsts [] hs) (head_heard head ∷ []))
        ∙ ap (map new_draft) (ap (λ b. firsts [] hs ++ unless_known b (head_heard head)) (sym e) ∙ sym firsts_now)

    names_by : (b : Bool) → list_any (same_bytes head.name.now) old.names ≡ b →
        cond b old.names (old.names ++ head.name.now ∷ [])
        ≡ map (λ h. h.0) (firsts [] (map head_heard (take (i + 1) heads)))
    names_by true e =
        so_far.names
        ∙ ap (map (λ (h : List ℕ × ℕ). h.0)) (sym (append-nil (firsts [] hs))
        ∙ ap (λ b. firsts [] hs ++ unless_known b (head_heard head)) (sym e) ∙ sym firsts_now)
    names_by false e =
        ap (λ ns. ns ++ head.name.now ∷ []) so_far.names
        ∙ sym (map-append (λ (h : List ℕ × ℕ). h.0) (firsts [] hs) (head_heard head ∷ []))
        ∙ ap (map (λ (h : List ℕ × ℕ). h.0)) (ap (λ b. firsts [] hs ++ unless_known b (head_heard head)) (sym e) ∙ sym firsts_now)

-- the names of drafts that were opened stand apart
pub opened_names : (heads : List (List ℕ × ℕ)) (d : Drafts) → IsOpened heads d → (d.names ≡ names_of d.drafts.items) × NamesApart d.names
opened_names heads d opened = (
  opened.names ∙ sym (ap names_of opened.drafts ∙ same (firsts [] heads)),
  subst NamesApart (sym opened.names) (firsts-apart [] heads),
)
  where
    same : (hs : List (List ℕ × ℕ)) → names_of (map new_draft hs) ≡ map (λ h. h.0) hs
    same [] = refl
    same (h ∷ hs) = ap (λ ns. h.0 ∷ ns) (same hs)

-- the drafts of opened ones after what is said
pub gathered : (nets : List NetworkLine) (heads : List (List ℕ × ℕ)) (all : List Said) (opened d : Drafts) →
    IsOpened heads opened → map (draft_after nets []) d.drafts.items ≡ map (draft_after nets all) opened.drafts.items →
    d.names ≡ names_of d.drafts.items → IsGathered nets heads all d
gathered nets heads all opened d open_is made named = record {
  drafts = sym (after_none nets d.drafts.items) ∙ made ∙ ap (map (draft_after nets all)) open_is.drafts ∙ both (firsts [] heads);
  names = named;
}
  where
    both : (hs : List (List ℕ × ℕ)) → map (draft_after nets all) (map new_draft hs) ≡ map (λ head. draft_after nets all (new_draft head)) hs
    both [] = refl
    both (h ∷ hs) = ap (λ ds. draft_after nets all (new_draft h) ∷ ds) (both hs)

drop_past : {X : Type 0} (xs : List X) (i : ℕ) → length xs ≤ i → drop i xs ≡ []
drop_past [] zero past = refl
drop_past [] (suc i) past = refl
drop_past (x ∷ xs) zero past = absurd (omega arith)
drop_past (x ∷ xs) (suc i) past = drop_past xs i (omega arith)

-- one more line of those that are gone over
pub gathered_more : (said : List SpokenLine) (i : ℕ) (d : SpokenLine) (nets : List NetworkLine) (old new : List Draft) →
    i < length said → new ≡ map (draft_with nets (said_of (get_or said i d))) old →
    map (draft_after nets (map said_of (drop (i + 1) said))) new ≡ map (draft_after nets (map said_of (drop i said))) old
gathered_more said i d nets old new within made =
    let next : i + 1 ≡ suc i = omega arith in
    ap (map (draft_after nets (map said_of (drop (i + 1) said)))) made
    ∙ ap (λ k. map (draft_after nets (map said_of (drop k said))) (map (draft_with nets (said_of (get_or said i d))) old)) next
    ∙ after_more nets (said_of (get_or said i d)) (map said_of (drop (suc i) said)) old
    ∙ ap (λ ls. map (draft_after nets (map said_of ls)) old) (sym (drop-cons said i d within))

pub gathered_names : (said : List SpokenLine) (i : ℕ) (d : SpokenLine) (nets : List NetworkLine) (names : List (List ℕ))
    (old new : List Draft) → names ≡ names_of old → new ≡ map (draft_with nets (said_of (get_or said i d))) old →
    names ≡ names_of new
gathered_names said i d nets names old new named made = named ∙ sym (ap names_of made ∙ names_kept nets (said_of (get_or said i d)) old)

-- all lines are gone over
pub gathered_all : (said : List SpokenLine) (i : ℕ) (nets : List NetworkLine) (heads : List (List ℕ × ℕ))
    (opened d : Drafts) → length said ≤ i → IsOpened heads opened →
    map (draft_after nets (map said_of (drop i said))) d.drafts.items
    ≡ map (draft_after nets (map said_of said)) opened.drafts.items → d.names ≡ names_of d.drafts.items →
    IsGathered nets heads (map said_of said) d
gathered_all said i nets heads opened d past open_is made named =
    gathered nets heads (map said_of said) opened d open_is
    (ap (λ ls. map (draft_after nets (map said_of ls)) d.drafts.items) (sym (drop_past said i past)) ∙ made) named
