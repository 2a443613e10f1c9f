-- What holds of the rows that entries name.
use Rattle.std.proofs.Common.{◌≡◌, ℕ, ◌<◌, refl, ◌∙◌, ap, List, [], ◌∷◌, map, Bool, true}
use Rattle.std.specs.Prelude.{All, slice_index_or}
use Rattle.std.proofs.lemmas.Bool.{eq-eqb}
use Rattle.std.proofs.lemmas.List.Folds.{list_any_at}
use Rattle.std.proofs.lemmas.List.Elements.{All-head, All-tail, All-map, All-weaker}
use Rattle.design_problem.specs.declared.tree.Member.{Member}
use Rattle.design_problem.specs.declared.tree.Member.TheVariants.{Low as ByLow, High as ByHigh, Row as ByRow}
use Rattle.design_problem.specs.declared.tree.Entry.{Entry}
use Rattle.design_problem.specs.declared.tree.Entry.TheVariants.{Tighten, Split, Halve, Refute, Undone}
use Rattle.design_problem.specs.Renumbering.{renumbered, renumbered_member, renumbered_multiplier}
use Rattle.printed_rows.specs.NamedRows.{EachMember, EachNamed, NamesBelow, NamesKnown, is_row_named, member_names, names, part_names}

-- what holds of each row that the entry names by the test
member_each : (P : ℕ → Type 0) (member : Member) → ((row : ℕ) → member_names row member ≡ true → P row) → EachMember P member
member_each P (ByLow var value) holds = tt
member_each P (ByHigh var value) holds = tt
member_each P (ByRow row) holds = holds row (eq-eqb row row refl)

pub each_named : (P : ℕ → Type 0) (entry : Entry) → ((row : ℕ) → names row entry ≡ true → P row) → EachNamed P entry
each_named P (Tighten var side value row) holds = holds row (eq-eqb row row refl)
each_named P (Split var value) holds = tt
each_named P (Halve var value wide) holds =
    λ k d k_in. member_each P (slice_index_or wide.basis k d) (λ row is. holds row (list_any_at (member_names row) wide.basis k d k_in is))
each_named P (Refute parts) holds =
    λ k d k_in. (let row = (slice_index_or parts k d).0 in holds row (list_any_at (part_names row) parts k d k_in (eq-eqb row row refl)))
each_named P Undone holds = tt

member_weaker : (P Q : ℕ → Type 0) (member : Member) → ((row : ℕ) → P row → Q row) → EachMember P member → EachMember Q member
member_weaker P Q (ByLow var value) weaker is = tt
member_weaker P Q (ByHigh var value) weaker is = tt
member_weaker P Q (ByRow row) weaker is = weaker row is

pub named_weaker : (P Q : ℕ → Type 0) (entry : Entry) → ((row : ℕ) → P row → Q row) → EachNamed P entry → EachNamed Q entry
named_weaker P Q (Tighten var side value row) weaker is = weaker row is
named_weaker P Q (Split var value) weaker is = tt
named_weaker P Q (Halve var value wide) weaker is = All-weaker (EachMember P) (EachMember Q) (λ member. member_weaker P Q member weaker) wide.basis is
named_weaker P Q (Refute parts) weaker is = All-weaker (λ part. P part.0) (λ part. Q part.0) (λ part. weaker part.0) parts is
named_weaker P Q Undone weaker is = tt

-- two facts together
member_both : (P Q : ℕ → Type 0) (member : Member) → EachMember P member → EachMember Q member → EachMember (λ row. P row × Q row) member
member_both P Q (ByLow var value) p q = tt
member_both P Q (ByHigh var value) p q = tt
member_both P Q (ByRow row) p q = (p, q)

named_both : (P Q : ℕ → Type 0) (entry : Entry) → EachNamed P entry → EachNamed Q entry → EachNamed (λ row. P row × Q row) entry
named_both P Q (Tighten var side value row) p q = (p, q)
named_both P Q (Split var value) p q = tt
named_both P Q (Halve var value wide) p q = λ k d k_in. member_both P Q (slice_index_or wide.basis k d) (p k d k_in) (q k d k_in)
named_both P Q (Refute parts) p q = λ k d k_in. (p k d k_in, q k d k_in)
named_both P Q Undone p q = tt

-- the rows that the entries name pass each test that these rows pass
pub names_known : (test : ℕ → Bool) (n : ℕ) (entries : List Entry) →
    ((row : ℕ) → is_row_named entries row ≡ true → test row ≡ true) → All (NamesBelow n) entries →
    All (NamesKnown test n) entries
names_known test n entries passes below k d k_in =
    let entry = slice_index_or entries k d in
    named_both (λ row. row < n) (λ row. test row ≡ true) entry (below k d k_in)
    (each_named (λ row. test row ≡ true) entry (λ row is. passes row (list_any_at (names row) entries k d k_in is)))

-- numbers that agree at the named rows give the same trees
members_agree : (f g : ℕ → ℕ) (P : ℕ → Type 0) (basis : List Member) → ((k : ℕ) → P k → f k ≡ g k) →
    All (EachMember P) basis → map (renumbered_member f) basis ≡ map (renumbered_member g) basis
members_agree f g P [] agree names = refl
members_agree f g P (member ∷ basis) agree names =
    cc (one member (All-head (EachMember P) member basis names), members_agree f g P basis agree (All-tail (EachMember P) member basis names))
  where
    one : (m : Member) → EachMember P m → renumbered_member f m ≡ renumbered_member g m
    one (ByLow var value) is = refl
    one (ByHigh var value) is = refl
    one (ByRow row) is = ap ByRow (agree row is)

parts_agree : (f g : ℕ → ℕ) (P : ℕ → Type 0) (parts : List (ℕ × ℕ)) → ((k : ℕ) → P k → f k ≡ g k) →
    All (λ part. P part.0) parts → map (renumbered_multiplier f) parts ≡ map (renumbered_multiplier g) parts
parts_agree f g P [] agree names = refl
parts_agree f g P (part ∷ parts) agree names =
    let Q : ℕ × ℕ → Type 0 = λ part. P part.0 in
    let here : renumbered_multiplier f part ≡ renumbered_multiplier g part = ap (λ (k : ℕ). (k, part.1)) (agree part.0 (All-head Q part parts names)) in
    let rest = parts_agree f g P parts agree (All-tail Q part parts names) in
    ap (λ (p : ℕ × ℕ). p ∷ map (renumbered_multiplier f) parts) here ∙ ap (λ (ps : List (ℕ × ℕ)). renumbered_multiplier g part ∷ ps) rest

pub entry_agrees : (f g : ℕ → ℕ) (P : ℕ → Type 0) (entry : Entry) → ((k : ℕ) → P k → f k ≡ g k) → EachNamed P entry → renumbered f entry ≡ renumbered g entry
entry_agrees f g P (Tighten var side value row) agree names = ap (λ (k : ℕ). Tighten var side value k) (agree row names)
entry_agrees f g P (Split var value) agree names = refl
entry_agrees f g P (Halve var value wide) agree names =
    ap (λ (ms : List Member). Halve var value
    (record { step = wide.step; left = wide.left; right = wide.right; basis = ms }))
    (members_agree f g P wide.basis agree names)
entry_agrees f g P (Refute parts) agree names = ap Refute (parts_agree f g P parts agree names)
entry_agrees f g P Undone agree names = refl

pub entries_agree : (f g : ℕ → ℕ) (P : ℕ → Type 0) (entries : List Entry) → ((k : ℕ) → P k → f k ≡ g k) →
    All (EachNamed P) entries → map (renumbered f) entries ≡ map (renumbered g) entries
entries_agree f g P [] agree names = refl
entries_agree f g P (e ∷ entries) agree names =
    let here = entry_agrees f g P e agree (All-head (EachNamed P) e entries names) in
    let rest = entries_agree f g P entries agree (All-tail (EachNamed P) e entries names) in
    ap (λ (x : Entry). x ∷ map (renumbered f) entries) here ∙ ap (λ (es : List Entry). renumbered g e ∷ es) rest

-- what is named anew is below the count of the new numbers
pub entry_below : (f : ℕ → ℕ) (P : ℕ → Type 0) (n : ℕ) (entry : Entry) → ((k : ℕ) → P k → f k < n) → EachNamed P entry → NamesBelow n (renumbered f entry)
entry_below f P n (Tighten var side value row) below names = below row names
entry_below f P n (Split var value) below names = tt
entry_below f P n (Halve var value wide) below names =
    All-map (EachMember (λ row. row < n)) (renumbered_member f) wide.basis
    (All-weaker (EachMember P) (λ member. EachMember (λ row. row < n) (renumbered_member f member)) one
    wide.basis names)
  where
    one : (m : Member) → EachMember P m → EachMember (λ row. row < n) (renumbered_member f m)
    one (ByLow v w) is = tt
    one (ByHigh v w) is = tt
    one (ByRow row) is = below row is
entry_below f P n (Refute parts) below names =
    All-map (λ (part : ℕ × ℕ). part.0 < n) (renumbered_multiplier f) parts
    (All-weaker (λ part. P part.0) (λ part. f part.0 < n) (λ part is. below part.0 is) parts names)
entry_below f P n Undone below names = tt
