-- What a configuration says keeps the facts of a router.
use Rattle.std.proofs.Common.{IfSome, ◌≡◌, ◌≢◌, ℕ, zero, suc, ◌+◌, ◌<◌, ◌≤◌, List, [], ◌∷◌, ◌++◌, length, get_or, map, All, Bool, cond, true, false, ◌&&◌, not, refl, sym, ap, ◌∙◌, subst, arith, Option, Some, None, eqb}
use Rattle.std.specs.Prelude.{◌==◌, codes, AllPairs, nat_le}
use Rattle.std.specs.List.{filter_map, list_any, list_all, AllByRecursion}
use Rattle.std.proofs.lemmas.Bool.{false≢true, and_parts, or_left, or_right, or_from, ne_eqb, leb-true, not-true, eqb-false}
use Rattle.std.proofs.lemmas.List.Folds.{list_all-append}
use Rattle.std.proofs.lemmas.List.Elements.{All-nil, All-cons}
use Rattle.cost_base.specs.Lists.{numbers_from, first_of, last_of, same_bytes}
use Rattle.cost_base.specs.Words.{is_blank, ends_a_word, IsOneWord, IsWord}
use Rattle.cost_base.proofs.ByteLemmas.{same_bytes-refl}
use Rattle.cost_base.proofs.ListLemmas.{each_append}
use Rattle.text_lines.specs.Lines.{lines, words, ends_word, grow, kind_of, is_head}
use Rattle.text_lines.specs.Numbers.{Prefix, prefix, prefix_of_pieces, joined_prefix, quad, number_within, split}
use Rattle.text_lines.proofs.NumberLaws.{number_within-le}
use Rattle.text_lines.specs.declared.LineKind.{LineKind}
use Rattle.text_lines.specs.declared.LineKind.TheVariants.{Blank, Comment, Head, Indented}
use Rattle.interface_model.specs.declared.Interface.{Interface}
use Rattle.interface_model.specs.Records.{IsInterface, IsRouter}
use Rattle.config_reader.specs.Statements.{Statement, AddressIs, AreaIs, CostIs, KindIs, PriorityIs, PassiveIs, DownIs, RouterIdIs, NetworkIs, PassiveInterfaceIs, Refused, Unread, Block, OfInterface, OfRouter, OfOther, block_of, head_statement, interface_statement, router_statement, address_statement, area_statement, cost_statement, priority_statement, network_statement, router_id_statement, alone, begin_with}
use Rattle.config_reader.specs.Settings.{Said, said, said_by, about, is_of, interface_as_set, address_said, cost_set, length_part}
use Rattle.config_reader.specs.Configs.{config_of, first_heads, opened_at, name_with_line, name_opened}
use Rattle.config_reader.specs.RouterNames.{is_name_byte, is_router_name, router_name_said}
use Rattle.config_reader.specs.Reading.{open_block}
use Rattle.config_reader.proofs.SaidSteps.{said_after, said-push, opened_from}
use Rattle.config_reader.proofs.SettingSteps.{about-push, said_where}
use Rattle.config_reader.specs.declared.fault.ConfigFault.{ConfigFault}
use Rattle.config_reader.specs.declared.fault.ConfigFault.TheVariants.{BadNumber}
use Rattle.config_reader.specs.Gathered.{NamesApart}
use Rattle.config_reader.specs.FaultList.{is_short}
use Rattle.interface_model.specs.declared.Kind.{Kind}
use Rattle.config_reader.proofs.HeadSteps.{first_heads-push, heads_with, is_headed, unless_known}
use Rattle.config_reader.proofs.PrintedLines.{lacks_end, all_lack_end}
use Rattle.config_reader.proofs.BlockFacts.{by_lines, head_names, firsts-apart}

-- what a statement keeps: a prefix length is at most 32, and a cost is positive
abbrev pub FitsStatement : Statement → Type 0
FitsStatement (AddressIs p) = p.length ≤ 32
FitsStatement (CostIs n) = 0 < n
FitsStatement _ = Unit {0}

pub record Fits (s : Statement) : Type 0 where
  pub fact : FitsStatement s

ok : (s : Statement) → FitsStatement s → Fits s
ok s f = record { fact = f }

fits_cond : (b : Bool) (s t : Statement) → Fits s → Fits t → Fits (cond b s t)
fits_cond true s t f g = f
fits_cond false s t f g = g

address_fits : (text : List ℕ) → Fits (address_statement (prefix text))
address_fits text = by_pieces (split 47 text)
  where
    joined : (a l : Option ℕ) → ((n : ℕ) → l ≡ Some n → n ≤ 32) → Fits (address_statement (joined_prefix a l))
    joined (Some a) (Some l) small = record { fact = small l refl }
    joined (Some a) None small = record { fact = tt }
    joined None (Some l) small = record { fact = tt }
    joined None None small = record { fact = tt }

    by_pieces : (ps : List (List ℕ)) → Fits (address_statement (prefix_of_pieces ps))
    by_pieces [] = record { fact = tt }
    by_pieces (a ∷ []) = record { fact = tt }
    by_pieces (a ∷ l ∷ []) = joined (quad a) (number_within 2 32 l) (λ n e. number_within-le 2 32 l n e)
    by_pieces (a ∷ l ∷ m ∷ ps) = record { fact = tt }

alone_fits : (b : Bool) (s : Statement) → Fits s → Fits (alone b s)
alone_fits true s f = f
alone_fits false s f = record { fact = tt }

area_fits : (b : Bool) (o : Option ℕ) → Fits (area_statement b o)
area_fits b (Some a) = alone_fits b (AreaIs a) (record { fact = tt })
area_fits b None = record { fact = tt }

cost_fits : (b : Bool) (o : Option ℕ) → Fits (cost_statement b o)
cost_fits b None = record { fact = tt }
cost_fits b (Some n) = cases (eqb n 0) refl
  where
    cases : (z : Bool) → eqb n 0 ≡ z → Fits (cond z (Refused BadNumber) (alone b (CostIs n)))
    cases true e = record { fact = tt }
    cases false e = alone_fits b (CostIs n) (record { fact = positive n (eqb-false n 0 e) })
      where
        positive : (m : ℕ) → (m ≡ 0 → ⊥) → 0 < m
        positive zero ne = absurd (ne refl)
        positive (suc m) ne = omega arith

priority_fits : (b : Bool) (o : Option ℕ) → Fits (priority_statement b o)
priority_fits b (Some n) = alone_fits b (PriorityIs n) (record { fact = tt })
priority_fits b None = record { fact = tt }

kind_fits : (k : Kind) → Fits (KindIs k)
kind_fits k = record { fact = tt }

passive_fits : (b : Bool) → Fits (PassiveIs b)
passive_fits b = record { fact = tt }

down_fits : (b : Bool) → Fits (DownIs b)
down_fits b = record { fact = tt }

refused_fits : (f : ConfigFault) → Fits (Refused f)
refused_fits f = record { fact = tt }

passive_name_fits : (name : List ℕ) → Fits (PassiveInterfaceIs name)
passive_name_fits name = record { fact = tt }

unread_fits : Fits Unread
unread_fits = record { fact = tt }

interface_fits : (ws : List (List ℕ)) → Fits (interface_statement ws)
interface_fits ws = search (
  fits_cond,
  address_fits,
  area_fits,
  cost_fits,
  priority_fits,
  alone_fits,
  kind_fits,
  passive_fits,
  down_fits,
  refused_fits,
  unread_fits,
) depth 40

network_fits : (p : Option Prefix) (b : Bool) (a : Option ℕ) → Fits (network_statement p b a)
network_fits None b a = record { fact = tt }
network_fits (Some p) true (Some a) = record { fact = tt }
network_fits (Some p) true None = record { fact = tt }
network_fits (Some p) false a = record { fact = tt }

router_id_fits : (o : Option ℕ) → Fits (router_id_statement o)
router_id_fits (Some id) = record { fact = tt }
router_id_fits None = record { fact = tt }

router_fits : (ws : List (List ℕ)) → Fits (router_statement ws)
router_fits ws = search (fits_cond, router_id_fits, network_fits, passive_name_fits, refused_fits, unread_fits) depth 20

head_fits : (ws : List (List ℕ)) → Fits (head_statement ws)
head_fits ws = search (fits_cond, refused_fits, unread_fits) depth 10

said_fits : (kind : LineKind) (n : ℕ) (block : Block) (ws : List (List ℕ)) → Fits (said_by kind n block ws).statement
said_fits Blank n block ws = record { fact = tt }
said_fits Comment n block ws = record { fact = tt }
said_fits Head n block ws = head_fits ws
said_fits Indented n (OfInterface name) ws = interface_fits ws
said_fits Indented n OfRouter ws = router_fits ws
said_fits Indented n OfOther ws = record { fact = tt }

-- each of some statements fits
abbrev pub EachFits : List Statement → Type 0
EachFits ss = AllByRecursion Fits ss

each_where : (b : Bool) (s : Statement) → Fits s → EachFits (said_where b s)
each_where true s f = (f, tt)
each_where false s f = tt

-- what is said of an interface fits
pub about_fits : (file : List (List ℕ)) (name : List ℕ) → EachFits (about (said file) name)
about_fits = by_lines (λ file. (name : List ℕ) → EachFits (about (said file) name)) (λ name. tt)
    (λ file line before name. subst EachFits (sym (ap (λ all. about all name) (said-push file line) ∙ about-push (said file) (said_after file line) name))
    (each_append Fits (about (said file) name) (said_where (is_of name (said_after file line).block) (said_after file line).statement) (before name)
    (each_where (is_of name (said_after file line).block) (said_after file line).statement
    (said_fits (kind_of line) (length file + 1) (open_block file) (words line)))))

-- the first address of statements that fit
first_length : (own : List Statement) → EachFits own → length_part (first_of (filter_map address_said own)) ≤ 32
first_length [] fits = omega arith
first_length (AddressIs p ∷ own) fits = fits.0.fact
first_length (AreaIs a ∷ own) fits = first_length own fits.1
first_length (CostIs n ∷ own) fits = first_length own fits.1
first_length (KindIs k ∷ own) fits = first_length own fits.1
first_length (PriorityIs n ∷ own) fits = first_length own fits.1
first_length (PassiveIs b ∷ own) fits = first_length own fits.1
first_length (DownIs b ∷ own) fits = first_length own fits.1
first_length (RouterIdIs id ∷ own) fits = first_length own fits.1
first_length (NetworkIs n ∷ own) fits = first_length own fits.1
first_length (PassiveInterfaceIs n ∷ own) fits = first_length own fits.1
first_length (Refused fault ∷ own) fits = first_length own fits.1
first_length (Unread ∷ own) fits = first_length own fits.1

-- the last cost of statements that fit
last_positive : (own : List Statement) → EachFits own → IfSome (last_of (filter_map cost_set own)) (λ cost. 0 < cost)
last_positive [] fits = tt
last_positive (CostIs n ∷ own) fits = behind (filter_map cost_set own) (last_positive own fits.1)
  where
    behind : (ns : List ℕ) → IfSome (last_of ns) (λ cost. 0 < cost) → IfSome (last_of (n ∷ ns)) (λ cost. 0 < cost)
    behind [] h = fits.0.fact
    behind (m ∷ ns) h = h
last_positive (AddressIs p ∷ own) fits = last_positive own fits.1
last_positive (AreaIs a ∷ own) fits = last_positive own fits.1
last_positive (KindIs k ∷ own) fits = last_positive own fits.1
last_positive (PriorityIs n ∷ own) fits = last_positive own fits.1
last_positive (PassiveIs b ∷ own) fits = last_positive own fits.1
last_positive (DownIs b ∷ own) fits = last_positive own fits.1
last_positive (RouterIdIs id ∷ own) fits = last_positive own fits.1
last_positive (NetworkIs n ∷ own) fits = last_positive own fits.1
last_positive (PassiveInterfaceIs n ∷ own) fits = last_positive own fits.1
last_positive (Refused fault ∷ own) fits = last_positive own fits.1
last_positive (Unread ∷ own) fits = last_positive own fits.1

-- the words of a line without an LF are words, no longer than the line
abbrev pub EachWord : ℕ → List (List ℕ) → Type 0
EachWord n [] = Unit {0}
EachWord n (w ∷ ws) = IsOneWord w × (length w ≤ n) × EachWord n ws

more_room : (n m : ℕ) (ws : List (List ℕ)) → n ≤ m → EachWord n ws → EachWord m ws
more_room n m [] le h = tt
more_room n m (w ∷ ws) le h = (h.0, omega (arith, h.1), more_room n m ws le h.2)

grown : (c : ℕ) (n : ℕ) (ws : List (List ℕ)) → ends_a_word c ≡ false → EachWord n ws → EachWord (suc n) (grow c ws)
grown c n [] solid h = (
  record {
    some = λ e. cc;
    whole = All-cons (λ x. ends_a_word x ≡ false) c [] solid
        (All-nil (λ x. ends_a_word x ≡ false));
  },
  omega arith,
  tt,
)
grown c n (w ∷ ws) solid h =
    (record { some = λ e. cc; whole = All-cons (λ x. ends_a_word x ≡ false) c w solid h.0.whole }, omega (arith, h.1), more_room n (suc n) ws (omega arith) h.2)

pub words-words : (s : List ℕ) → lacks_end s ≡ true → EachWord (length s) (words s)
words-words [] lacks = tt
words-words (c ∷ cs) lacks = cases (is_blank c) (ends_word cs) refl (words-words cs parts.1)
  where
    parts : (not (c == 10) ≡ true) × (lacks_end cs ≡ true)
    parts = and_parts (not (c == 10)) (lacks_end cs) lacks

    cases : (b e : Bool) → is_blank c ≡ b → EachWord (length cs) (words cs) →
        EachWord (suc (length cs)) (cond b (words cs) (cond e ((c ∷ []) ∷ words cs) (grow c (words cs))))
    cases true e blank h = more_room (length cs) (suc (length cs)) (words cs) (omega arith) h
    cases false true blank h =
        let solid : ends_a_word c ≡ false = or_from (is_blank c) (c == 10) blank (not-true (c == 10) parts.0) in (
          record {
            some = λ e. cc;
            whole = All-cons (λ x. ends_a_word x ≡ false) c [] solid
                (All-nil (λ x. ends_a_word x ≡ false));
          },
          omega arith,
          more_room (length cs) (suc (length cs)) (words cs) (omega arith) h,
        )
    cases false false blank h = grown c (length cs) (words cs) (or_from (is_blank c) (c == 10) blank (not-true (c == 10) parts.0)) h

-- no line of a text has an LF
pub lines_lack : (bytes : List ℕ) → all_lack_end (lines bytes) ≡ true
lines_lack [] = refl
lines_lack (c ∷ cs) = cases (c == 10) (lines cs) refl (lines_lack cs)
  where
    cases : (b : Bool) (ls : List (List ℕ)) → (c == 10) ≡ b → all_lack_end ls ≡ true → all_lack_end (cond b ([] ∷ ls) (grow c ls)) ≡ true
    cases true ls e h = h
    cases false [] e h = rw e
    cases false (l ∷ ls) e h = rw e h

-- a line without an LF, of at most 4,096 bytes
abbrev pub is_good_line : List ℕ → Bool
is_good_line line = lacks_end line && nat_le (length line) 4096

-- the name of an interface that a line opens is a word
block_word : (line : List ℕ) → is_good_line line ≡ true → (ws : List (List ℕ)) → EachWord (length line) ws →
    (name : List ℕ) → block_of ws ≡ OfInterface name → IsWord name
block_word line good [] each name e = absurd (cc)
block_word line good (w ∷ []) each name e = absurd (cc)
block_word line good (w ∷ v ∷ ws) each name e =
    cases (length (w ∷ v ∷ ws) == 2 && begin_with (codes "interface" ∷ []) (w ∷ v ∷ ws))
    (length (w ∷ v ∷ ws) == 2 && begin_with (codes "router" ∷ codes "ospf" ∷ []) (w ∷ v ∷ ws)) e
  where
    short : length line ≤ 4096
    short = leb-true (length line) 4096 (and_parts (lacks_end line) (nat_le (length line) 4096) good).1

    word : IsWord v
    word = record { word = each.2.0; short = omega (arith, each.2.1, short) }

    cases : (a b : Bool) → cond a (OfInterface v) (cond b OfRouter OfOther) ≡ OfInterface name → IsWord name
    cases true b h = let same : v ≡ name = cc in subst IsWord same word
    cases false true h = absurd (cc)
    cases false false h = absurd (cc)

opened_word : (n : ℕ) (line name : List ℕ) (m : ℕ) → is_good_line line ≡ true → opened_from n line ≡ Some (name, m) → IsWord name
opened_word n line name m good = by_head (is_head line)
  where
    each : EachWord (length line) (words line)
    each = words-words line (and_parts (lacks_end line) (nat_le (length line) 4096) good).0

    by_block : (block : Block) → block_of (words line) ≡ block → name_with_line (n + 1) (name_opened block) ≡ Some (name, m) → IsWord name
    by_block (OfInterface other) e h =
        let pair : Some (other, n + 1) ≡ Some (name, m) = h in
        let same : other ≡ name = first_same other name (n + 1) m pair in
        subst IsWord same (block_word line good (words line) each other e)
      where
        first_same : (a b : List ℕ) (k l : ℕ) → ◌≡◌ {A = Option (List ℕ × ℕ)} (Some (a, k)) (Some (b, l)) → a ≡ b
        first_same a b k l p = ap (λ (o : Option (List ℕ × ℕ)). first_or_empty o) p
          where
            first_or_empty : Option (List ℕ × ℕ) → List ℕ
            first_or_empty None = []
            first_or_empty (Some q) = q.0
    by_block OfRouter e h = absurd (cc)
    by_block OfOther e h = absurd (cc)

    by_head : (b : Bool) → cond b (name_with_line (n + 1) (name_opened (block_of (words line)))) None ≡ Some (name, m) → IsWord name
    by_head true h = by_block (block_of (words line)) refl h
    by_head false h = absurd (cc)

-- the names of heads are words
abbrev pub EachHead : List (List ℕ × ℕ) → Type 0
EachHead hs = AllByRecursion (λ h. IsWord h.0) hs

heads_words : (file : List (List ℕ)) → list_all is_good_line file ≡ true → EachHead (first_heads file)
heads_words = by_lines (λ file. list_all is_good_line file ≡ true → EachHead (first_heads file)) (λ good. tt) step
  where
    step : (file : List (List ℕ)) (line : List ℕ) → (list_all is_good_line file ≡ true → EachHead (first_heads file)) →
        list_all is_good_line (file ++ line ∷ []) ≡ true → EachHead (first_heads (file ++ line ∷ []))
    step file line before good = subst EachHead (sym (first_heads-push file line)) (cases (opened_from (length file) line) refl)
      where
        parts : (list_all is_good_line file ≡ true) × (list_all is_good_line (line ∷ []) ≡ true)
        parts = and_parts (list_all is_good_line file) (list_all is_good_line (line ∷ [])) (sym (list_all-append is_good_line file (line ∷ [])) ∙ good)

        cases : (o : Option (List ℕ × ℕ)) → opened_from (length file) line ≡ o → EachHead (heads_with o (first_heads file))
        cases None e = before parts.0
        cases (Some head) e = each_append (λ (h : List ℕ × ℕ). IsWord h.0) (first_heads file) (unless_known (is_headed head.0 (first_heads file)) head)
            (before parts.0) (new (is_headed head.0 (first_heads file)))
          where
            new : (b : Bool) → EachHead (unless_known b head)
            new true = tt
            new false = (opened_word (length file) line head.0 head.1 (and_parts (is_good_line line) true parts.1).0 e, tt)

-- the interfaces of a file keep their facts
interfaces_kept : (file : List (List ℕ)) (heads : List (List ℕ × ℕ)) → EachHead heads →
    All IsInterface (map (λ head. interface_as_set (said file) head.0 head.1) heads)
interfaces_kept file [] each = All-nil IsInterface
interfaces_kept file (h ∷ heads) each =
    All-cons IsInterface (interface_as_set (said file) h.0 h.1) (map (λ head. interface_as_set (said file) head.0 head.1) heads)
    (record {
      name = each.0;
      short = first_length (about (said file) h.0) (about_fits file h.0);
      cost = last_positive (about (said file) h.0) (about_fits file h.0);
    })
    (interfaces_kept file heads each.1)

named_at : (all : List Said) (heads : List (List ℕ × ℕ)) (x : List ℕ) (j : ℕ) (d : Interface) →
    j < length (map (λ (head : List ℕ × ℕ). interface_as_set all head.0 head.1) heads) →
    x ≡ (get_or (map (λ (head : List ℕ × ℕ). interface_as_set all head.0 head.1) heads) j d).name → list_any (same_bytes x) (head_names heads) ≡ true
named_at all [] x j d within e = absurd (omega arith)
named_at all (h ∷ heads) x zero d within e =
    or_left (same_bytes x h.0) (list_any (same_bytes x) (head_names heads)) (ap (same_bytes x) (sym e)
    ∙ same_bytes-refl x)
named_at all (h ∷ heads) x (suc j) d within e =
    or_right (same_bytes x h.0) (list_any (same_bytes x) (head_names heads)) (named_at all heads x j d (omega arith) e)

interfaces_apart : (all : List Said) (heads : List (List ℕ × ℕ)) → NamesApart (head_names heads) →
    AllPairs (λ (a b : Interface). a.name ≢ b.name) (map (λ head. interface_as_set all head.0 head.1) heads)
interfaces_apart all [] apart i j d before within = absurd (omega arith)
interfaces_apart all (h ∷ heads) apart i zero d before within = absurd (omega arith)
interfaces_apart all (h ∷ heads) apart zero (suc j) d before within = λ same. false≢true (sym apart.0 ∙ named_at all heads h.0 j d (omega arith) same)
interfaces_apart all (h ∷ heads) apart (suc i) (suc j) d before within = interfaces_apart all heads apart.1 i j d (omega arith) (omega arith)

-- a byte of a router's name ends no word
name_byte_solid : (c : ℕ) → is_name_byte c ≡ true → ends_a_word c ≡ false
name_byte_solid c named =
    let space : eqb c 32 ≡ false = ne_eqb c 32 (λ e. false≢true (sym (ap is_name_byte e) ∙ named)) in
    let tab : eqb c 9 ≡ false = ne_eqb c 9 (λ e. false≢true (sym (ap is_name_byte e) ∙ named)) in
    let cr : eqb c 13 ≡ false = ne_eqb c 13 (λ e. false≢true (sym (ap is_name_byte e) ∙ named)) in
    let lf : eqb c 10 ≡ false = ne_eqb c 10 (λ e. false≢true (sym (ap is_name_byte e) ∙ named)) in
    rw (space, tab, cr, lf)

-- a router's name is a word
pub router_word : (name : List ℕ) → is_router_name name ≡ true → IsWord name
router_word name named =
    let parts = and_parts (nat_le 1 (length name) && nat_le (length name) 64) (list_all is_name_byte name) named in
    let bounds = and_parts (nat_le 1 (length name)) (nat_le (length name) 64) parts.0 in
    record {
      word = record { some = λ e. some name (leb-true 1 (length name) bounds.0) e; whole = each name parts.1 };
      short = omega (arith, leb-true (length name) 64 bounds.1);
    }
  where
    some : (xs : List ℕ) → 1 ≤ length xs → xs ≢ []
    some [] long e = absurd (omega arith)
    some (x ∷ xs) long e = cc

    each : (xs : List ℕ) → list_all is_name_byte xs ≡ true → All (λ c. ends_a_word c ≡ false) xs
    each [] h = All-nil (λ c. ends_a_word c ≡ false)
    each (x ∷ xs) h =
        let parts = and_parts (is_name_byte x) (list_all is_name_byte xs) h in
        All-cons (λ c. ends_a_word c ≡ false) x xs (name_byte_solid x parts.0) (each xs parts.1)

-- a configuration with no line too long and a router's name says a router
pub router_kept : (file_name bytes : List ℕ) → list_all is_short (lines bytes) ≡ true →
    is_router_name (router_name_said file_name (lines bytes)).0 ≡ true → IsRouter (config_of file_name bytes)
router_kept file_name bytes short named = record {
  name = router_word (router_name_said file_name (lines bytes)).0 named;
  interfaces = interfaces_kept (lines bytes) (first_heads (lines bytes)) (heads_words (lines bytes) (both (lines bytes) (lines_lack bytes) short));
  different = interfaces_apart (said (lines bytes)) (first_heads (lines bytes))
      (firsts-apart [] (filter_map (opened_at (lines bytes)) (numbers_from 0 (length (lines bytes)))));
}
  where
    both : (ls : List (List ℕ)) → all_lack_end ls ≡ true → list_all is_short ls ≡ true → list_all is_good_line ls ≡ true
    both [] a b = refl
    both (l ∷ ls) a b =
        let pa = and_parts (lacks_end l) (all_lack_end ls) a in
        let pb = and_parts (is_short l) (list_all is_short ls) b in
        rw (pa.0, pb.0) (both ls pa.1 pb.1)
