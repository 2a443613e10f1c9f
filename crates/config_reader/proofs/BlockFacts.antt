-- Blocks, first heads and what is said of interfaces, for every file.
use Rattle.std.proofs.Common.{◌≡◌, ℕ, ◌+◌, List, [], ◌∷◌, ◌++◌, length, map, Bool, cond, true, false, ◌||◌, refl, sym, ap, ◌∙◌, subst, append-nil, append_assoc, Option, Some, None}
use Rattle.std.specs.List.{filter, list_any}
use Rattle.std.proofs.lemmas.Bool.{false≢true, or_right, or_left, false_from_ne_true}
use Rattle.std.proofs.lemmas.List.Folds.{list_any-append}
use Rattle.std.proofs.lemmas.List.Elements.{filter-append}
use Rattle.cost_base.specs.Lists.{last_of, same_bytes}
use Rattle.cost_base.proofs.ListLemmas.{last_of-push}
use Rattle.cost_base.proofs.ByteLemmas.{same_bytes-refl, same_bytes-true}
use Rattle.text_lines.specs.Lines.{words, kind_of, is_head}
use Rattle.text_lines.specs.declared.LineKind.{LineKind}
use Rattle.text_lines.specs.declared.LineKind.TheVariants.{Blank, Comment, Head, Indented}
use Rattle.config_reader.specs.Statements.{Block, OfInterface, OfRouter, OfOther, block_of}
use Rattle.config_reader.specs.Settings.{said, said_by, block_by_head, about, is_of}
use Rattle.config_reader.specs.Configs.{first_heads, firsts, name_with_line, name_opened}
use Rattle.config_reader.specs.Reading.{open_block}
use Rattle.config_reader.specs.Gathered.{NamesApart}
use Rattle.config_reader.proofs.SaidSteps.{said_after, said-push, opened_from}
use Rattle.config_reader.proofs.SettingSteps.{about-push, said_where}
use Rattle.config_reader.proofs.HeadSteps.{first_heads-push, heads_with, is_headed, unless_known}

-- what holds of no lines, and with each line more, holds of every file
pub by_lines : {X : Type 0} (P : List X → Type 0) → P [] → ((xs : List X) (x : X) → P xs → P (xs ++ x ∷ [])) → (xs : List X) → P xs
by_lines {X} P none more xs = go [] xs none
  where
    go : (front back : List X) → P front → P (front ++ back)
    go front [] h = subst P (sym (append-nil front)) h
    go front (x ∷ back) h = subst P (append_assoc front (x ∷ []) back) (go (front ++ x ∷ []) back (more front x h))

abbrev pub block_with : Bool → List ℕ → Block → Block
block_with true line block = block_of (words line)
block_with false line block = block

-- the open block after one more line
pub open_block-push : (file : List (List ℕ)) (line : List ℕ) → open_block (file ++ line ∷ []) ≡ block_with (is_head line) line (open_block file)
open_block-push file line = ap (λ heads. block_by_head (last_of heads)) (filter-append is_head file (line ∷ [])) ∙ cases (is_head line)
  where
    cases : (b : Bool) → block_by_head (last_of (filter is_head file ++ cond b (line ∷ []) [])) ≡ block_with b line (open_block file)
    cases true = ap block_by_head (last_of-push (filter is_head file) line)
    cases false = ap (λ heads. block_by_head (last_of heads)) (append-nil (filter is_head file))

-- a name that has a head keeps it
pub is_headed-with : (name : List ℕ) (o : Option (List ℕ × ℕ)) (heads : List (List ℕ × ℕ)) →
    is_headed name heads ≡ true → is_headed name (heads_with o heads) ≡ true
is_headed-with name None heads known = known
is_headed-with name (Some head) heads known =
    list_any-append (λ h. same_bytes name h.0) heads (unless_known (is_headed head.0 heads) head)
    ∙ or_left (is_headed name heads) (is_headed name (unless_known (is_headed head.0 heads) head)) known

-- a name that is given a head has one
pub is_headed-opened : (name : List ℕ) (n : ℕ) (heads : List (List ℕ × ℕ)) → is_headed name (heads_with (Some (name, n)) heads) ≡ true
is_headed-opened name n heads =
    list_any-append (λ h. same_bytes name h.0) heads (unless_known (is_headed name heads) (name, n)) ∙ cases (is_headed name heads)
  where
    cases : (b : Bool) → (b || is_headed name (unless_known b (name, n))) ≡ true
    cases true = refl
    cases false = rw (same_bytes-refl name)

-- an open block of an interface has a head
pub open_headed : (file : List (List ℕ)) (name : List ℕ) → open_block file ≡ OfInterface name → is_headed name (first_heads file) ≡ true
open_headed = by_lines (λ file. (name : List ℕ) → open_block file ≡ OfInterface name → is_headed name (first_heads file) ≡ true) (λ name e. absurd (cc)) step
  where
    step : (file : List (List ℕ)) (line : List ℕ) → ((name : List ℕ) → open_block file ≡ OfInterface name → is_headed name (first_heads file) ≡ true) →
        (name : List ℕ) → open_block (file ++ line ∷ []) ≡ OfInterface name → is_headed name (first_heads (file ++ line ∷ [])) ≡ true
    step file line before name here =
        ap (is_headed name) (first_heads-push file line) ∙ cases (is_head line) (sym (open_block-push file line) ∙ here)
      where
        opens : block_of (words line) ≡ OfInterface name →
            is_headed name (heads_with (name_with_line (length file + 1) (name_opened (block_of (words line))))
            (first_heads file)) ≡ true
        opens e = ap (λ b. is_headed name (heads_with (name_with_line (length file + 1) (name_opened b)) (first_heads file)))
            e ∙ is_headed-opened name (length file + 1) (first_heads file)

        cases : (b : Bool) → block_with b line (open_block file) ≡ OfInterface name →
            is_headed name (heads_with (cond b (name_with_line (length file + 1) (name_opened (block_of (words line)))) None)
            (first_heads file)) ≡ true
        cases true e = opens e
        cases false e = before name e

-- the block of what is said after a file is the open block, or none that is read
pub said_block : (file : List (List ℕ)) (line name : List ℕ) → (said_after file line).block ≡ OfInterface name → open_block file ≡ OfInterface name
said_block file line name = cases (kind_of line)
  where
    cases : (kind : LineKind) → (said_by kind (length file + 1) (open_block file) (words line)).block ≡ OfInterface name → open_block file ≡ OfInterface name
    cases Blank e = absurd (cc)
    cases Comment e = absurd (cc)
    cases Head e = absurd (cc)
    cases Indented e = e

is_of-true : (name : List ℕ) (block : Block) → is_of name block ≡ true → block ≡ OfInterface name
is_of-true name (OfInterface other) same = ap (λ n. OfInterface n) (sym (same_bytes-true name other same))
is_of-true name OfRouter same = absurd (cc)
is_of-true name OfOther same = absurd (cc)

-- of a name without a head nothing is said
pub about-unheaded : (file : List (List ℕ)) (name : List ℕ) → is_headed name (first_heads file) ≡ false → about (said file) name ≡ []
about-unheaded = by_lines (λ file. (name : List ℕ) → is_headed name (first_heads file) ≡ false → about (said file) name ≡ []) (λ name e. refl) step
  where
    step : (file : List (List ℕ)) (line : List ℕ) → ((name : List ℕ) → is_headed name (first_heads file) ≡ false → about (said file) name ≡ []) →
        (name : List ℕ) → is_headed name (first_heads (file ++ line ∷ [])) ≡ false → about (said (file ++ line ∷ [])) name ≡ []
    step file line before name none =
        ap (λ all. about all name) (said-push file line)
        ∙ about-push (said file) (said_after file line) name
        ∙ cc (before name unheaded, ap (λ b. said_where b (said_after file line).statement) other)
      where
        unheaded : is_headed name (first_heads file) ≡ false
        unheaded = false_from_ne_true (is_headed name (first_heads file))
            (λ known. false≢true (sym none ∙ ap (is_headed name) (first_heads-push file line)
            ∙ is_headed-with name (opened_from (length file) line) (first_heads file) known))

        other : is_of name (said_after file line).block ≡ false
        other = false_from_ne_true (is_of name (said_after file line).block)
            (λ here. false≢true (sym unheaded
            ∙ open_headed file name
            (said_block file line name (is_of-true name (said_after file line).block here))))

abbrev pub head_names : List (List ℕ × ℕ) → List (List ℕ)
head_names heads = map (λ head. head.0) heads

is_headed-names : (name : List ℕ) (hs : List (List ℕ × ℕ)) → list_any (same_bytes name) (head_names hs) ≡ is_headed name hs
is_headed-names name [] = refl
is_headed-names name (h ∷ hs) = ap (λ b. same_bytes name h.0 || b) (is_headed-names name hs)

-- a name that was there before isn't a first one
firsts-lack : (before : List (List ℕ)) (heads : List (List ℕ × ℕ)) (name : List ℕ) →
    list_any (same_bytes name) before ≡ true → is_headed name (firsts before heads) ≡ false
firsts-lack before [] name known = refl
firsts-lack before (head ∷ heads) name known =
    cases (list_any (same_bytes head.0) before) refl (firsts-lack before heads name known)
    (firsts-lack (head.0 ∷ before) heads name
    (or_right (same_bytes name head.0) (list_any (same_bytes name) before) known))
  where
    cases : (b : Bool) → list_any (same_bytes head.0) before ≡ b → is_headed name (firsts before heads) ≡ false →
        is_headed name (firsts (head.0 ∷ before) heads) ≡ false →
        is_headed name (cond b (firsts before heads) (head ∷ firsts (head.0 ∷ before) heads)) ≡ false
    cases true e old new = old
    cases false e old new =
        let other : same_bytes name head.0 ≡ false =
        false_from_ne_true (same_bytes name head.0)
        (λ same. false≢true (sym e
        ∙ ap (λ n. list_any (same_bytes n) before) (sym (same_bytes-true name head.0 same)) ∙ known)) in
        rw (other, new)

-- the names of first heads are apart
pub firsts-apart : (before : List (List ℕ)) (heads : List (List ℕ × ℕ)) → NamesApart (head_names (firsts before heads))
firsts-apart before [] = tt
firsts-apart before (head ∷ heads) = cases (list_any (same_bytes head.0) before) (firsts-apart before heads) (firsts-apart (head.0 ∷ before) heads)
  where
    cases : (b : Bool) → NamesApart (head_names (firsts before heads)) →
        NamesApart (head_names (firsts (head.0 ∷ before) heads)) →
        NamesApart (head_names (cond b (firsts before heads) (head ∷ firsts (head.0 ∷ before) heads)))
    cases true old new = old
    cases false old new = (
      is_headed-names head.0 (firsts (head.0 ∷ before) heads)
          ∙ firsts-lack (head.0 ∷ before) heads head.0
          (or_left (same_bytes head.0 head.0) (list_any (same_bytes head.0) before) (same_bytes-refl head.0)),
      new,
    )
