-- What is said of each interface once its cost lines are replaced.
use Rattle.std.proofs.Common.{◌≡◌, ℕ, ◌≤◌, List, [], ◌∷◌, ◌++◌, Bool, cond, true, false, ◌&&◌, not, refl, sym, ap, ◌∙◌, Option, Some, None, is_some, append-nil}
use Rattle.std.specs.Prelude.{codes, ◌||◌}
use Rattle.std.specs.List.{filter, list_any}
use Rattle.std.proofs.lemmas.Bool.{and_parts}
use Rattle.std.proofs.lemmas.List.Elements.{filter-append}
use Rattle.std.proofs.lemmas.List.Folds.{list_any-append}
use Rattle.cost_base.specs.Lists.{same_bytes}
use Rattle.cost_base.proofs.ByteLemmas.{same_bytes-true}
use Rattle.text_lines.specs.Lines.{words, kind_of, is_head_kind}
use Rattle.text_lines.specs.declared.LineKind.{LineKind}
use Rattle.text_lines.specs.declared.LineKind.TheVariants.{Blank, Comment, Head, Indented}
use Rattle.config_reader.specs.Statements.{Statement, CostIs, Block, OfInterface, OfRouter, OfOther, block_of, begin_with, ip_ospf, statement_in, interface_statement}
use Rattle.config_reader.specs.Settings.{said, about, cost_set, is_of}
use Rattle.config_reader.specs.Configs.{first_heads}
use Rattle.config_reader.specs.FaultList.{refused}
use Rattle.config_reader.specs.Reading.{open_block}
use Rattle.config_reader.specs.Sections.{cost_after, section_cost_line}
use Rattle.text_lines.proofs.Images.{any-map}
use Rattle.config_reader.proofs.SettingSteps.{said_where}
use Rattle.config_reader.proofs.BlockFacts.{open_block-push, block_with, open_headed, about-unheaded}
use Rattle.config_writer.specs.Rewriting.{new_cost, headed, is_replaced, is_indented_kind, is_first_block, cost_behind}
use Rattle.config_writer.specs.Writing.{heads_with, heads_after_line}
use Rattle.config_writer.proofs.WrittenLines.{headed-push}
use Rattle.config_reader.proofs.SectionLaw.{cost_said_there}
use Rattle.config_writer.proofs.CostStatements.{sets_cost, sets_none}
use Rattle.config_reader.proofs.FineLines.{block_by, statement_by}
use Rattle.config_writer.proofs.SameStatements.{about-line, SameRest, rest_kept, rest_indented, rest_trans, rest_sym}

abbrev pub sets_no_cost : Statement → Bool
sets_no_cost s = not (is_some (cost_set s))

-- what is said of an interface with a new cost, once it has a head
abbrev pub recosted : Option ℕ → Bool → List Statement → List Statement
recosted None known own = own
recosted (Some n) false own = own
recosted (Some n) true own = CostIs n ∷ filter sets_no_cost own

abbrev pub is_known : List (List ℕ) → List ℕ → Bool
is_known file name = list_any (same_bytes name) (headed file)

-- two files say the same, but for the costs of named interfaces
pub record Alike (costs : List (List ℕ × ℕ)) (file_name : List ℕ) (old new : List (List ℕ)) : Type 0 where
  pub rest : SameRest file_name old new
  pub own : (name : List ℕ) → about (said new) name ≡ recosted (cost_after costs name None) (is_known old name) (about (said old) name)

-- an open block of an interface is known
known_open : (file : List (List ℕ)) (h : List ℕ) → open_block file ≡ OfInterface h → is_known file h ≡ true
known_open file h here = sym (any-map (same_bytes h) (λ (head : List ℕ × ℕ). head.0) (first_heads file)) ∙ open_headed file h here

or_none : (a : Bool) → (a || (false || false)) ≡ a
or_none true = refl
or_none false = refl

-- one more name that isn't this one
other_name : (name h : List ℕ) (names : List (List ℕ)) → same_bytes name h ≡ false →
    list_any (same_bytes name) (names ++ h ∷ []) ≡ list_any (same_bytes name) names
other_name name h names other =
    list_any-append (same_bytes name) names (h ∷ [])
    ∙ ap (λ b. list_any (same_bytes name) names || (b || false)) other
    ∙ or_none (list_any (same_bytes name) names)

-- a line that says nothing of an interface
silent : (cost : Option ℕ) (known : Bool) (own : List Statement) → recosted cost known (own ++ []) ≡ recosted cost known own ++ []
silent cost known own = ap (recosted cost known) (append-nil own) ∙ sym (append-nil (recosted cost known own))

unnamed : (cost : Option ℕ) (a b : Bool) (own : List Statement) → cost ≡ None → recosted cost a own ≡ recosted cost b own
unnamed cost a b own none = ap (λ o. recosted o a own) none ∙ sym (ap (λ o. recosted o b own) none)

module _ (costs : List (List ℕ × ℕ)) (name : List ℕ) (own : List Statement) where
  -- a head that isn't followed by a cost
  head_kept : (old : List (List ℕ)) (block : Block) → cond (true && is_first_block old block) (new_cost costs block) None ≡ None →
      recosted (cost_after costs name None) (list_any (same_bytes name) (heads_with (headed old) block)) own
      ≡ recosted (cost_after costs name None) (is_known old name) own
  head_kept old OfRouter none = refl
  head_kept old OfOther none = refl
  head_kept old (OfInterface h) none = cases (is_known old h) none
    where
      cases : (b : Bool) → cond (true && not b) (cost_after costs h None) None ≡ None →
          recosted (cost_after costs name None)
          (list_any (same_bytes name) (cond b (headed old) (headed old ++ h ∷ []))) own
          ≡ recosted (cost_after costs name None) (is_known old name) own
      cases true none = refl
      cases false none = by_name (same_bytes name h) refl
        where
          by_name : (s : Bool) → same_bytes name h ≡ s →
              recosted (cost_after costs name None) (list_any (same_bytes name) (headed old ++ h ∷ [])) own
              ≡ recosted (cost_after costs name None) (is_known old name) own
          by_name true same = unnamed (cost_after costs name None) _ _ own (ap (λ n. cost_after costs n None) (same_bytes-true name h same) ∙ none)
          by_name false other = ap (λ k. recosted (cost_after costs name None) k own) (other_name name h (headed old) other)

  -- a line of an interface's block that isn't taken out
  own_kept : (old : List (List ℕ)) (h : List ℕ) (ws : List (List ℕ)) → open_block old ≡ OfInterface h →
      (is_some (cost_after costs h None) && (true && begin_with (ip_ospf (codes "cost")) ws)) ≡ false →
      recosted (cost_after costs name None) (is_known old name)
      (own ++ said_where (same_bytes name h) (interface_statement ws)) ≡ recosted (cost_after costs name None)
      (is_known old name) own ++ said_where (same_bytes name h) (interface_statement ws)
  own_kept old h ws here kept = by_name (same_bytes name h) refl
    where
      by_cost : (o : Option ℕ) (known : Bool) → (is_some o && (true && begin_with (ip_ospf (codes "cost")) ws))
          ≡ false → known ≡ true → recosted o known (own ++ interface_statement ws ∷ []) ≡ recosted o known own
          ++ interface_statement ws ∷ []
      by_cost None known other true_known = refl
      by_cost (Some n) false other true_known = absurd (cc)
      by_cost (Some n) true other true_known =
          ap (λ s. CostIs n ∷ s)
          (filter-append sets_no_cost own (interface_statement ws ∷ [])
          ∙ ap (λ (o : Option ℕ). filter sets_no_cost own ++ cond (not (is_some o)) (interface_statement ws ∷ []) []) (sets_none ws other))

      by_name : (s : Bool) → same_bytes name h ≡ s →
          recosted (cost_after costs name None) (is_known old name) (own ++ said_where s (interface_statement ws))
          ≡ recosted (cost_after costs name None) (is_known old name) own ++ said_where s (interface_statement ws)
      by_name false other = silent (cost_after costs name None) (is_known old name) own
      by_name true same =
          let is : name ≡ h = same_bytes-true name h same in
          by_cost (cost_after costs name None) (is_known old name)
          (ap (λ n. is_some (cost_after costs n None) && (true && begin_with (ip_ospf (codes "cost")) ws)) is ∙ kept)
          (ap (is_known old) is ∙ known_open old h here)

  -- a line that is kept, and isn't followed by a cost
  line_kept : (old : List (List ℕ)) (line : List ℕ) → is_replaced costs old line ≡ false → cost_behind costs old line ≡ None →
      recosted (cost_after costs name None) (is_known (old ++ line ∷ []) name)
      (own ++ said_where (is_of name (block_by (kind_of line) (open_block old)))
      (statement_by (kind_of line) (open_block old) (words line)))
      ≡ recosted (cost_after costs name None) (is_known old name) own
      ++ said_where (is_of name (block_by (kind_of line) (open_block old)))
      (statement_by (kind_of line) (open_block old) (words line))
  line_kept old line kept alone =
      ap (λ heads. recosted (cost_after costs name None) (list_any (same_bytes name) heads)
      (own ++ said_where (is_of name (block_by (kind_of line) (open_block old)))
      (statement_by (kind_of line) (open_block old) (words line)))) (headed-push old line)
      ∙ by_kind (kind_of line) kept alone
    where
      by_block : (block : Block) → open_block old ≡ block →
          (is_some (new_cost costs block) && (true && begin_with (ip_ospf (codes "cost")) (words line))) ≡ false →
          recosted (cost_after costs name None) (is_known old name)
          (own ++ said_where (is_of name block) (statement_in block (words line)))
          ≡ recosted (cost_after costs name None) (is_known old name) own ++ said_where (is_of name block)
          (statement_in block (words line))
      by_block (OfInterface h) here kept = own_kept old h (words line) here kept
      by_block OfRouter here kept = silent (cost_after costs name None) (is_known old name) own
      by_block OfOther here kept = silent (cost_after costs name None) (is_known old name) own

      by_kind : (kind : LineKind) → (is_some (new_cost costs (open_block old))
          && (is_indented_kind kind && begin_with (ip_ospf (codes "cost")) (words line))) ≡ false →
          cond (is_head_kind kind && is_first_block old (block_of (words line))) (new_cost costs (block_of (words line))) None ≡ None →
          recosted (cost_after costs name None)
          (list_any (same_bytes name) (heads_after_line kind (headed old) (block_of (words line))))
          (own ++ said_where (is_of name (block_by kind (open_block old)))
          (statement_by kind (open_block old) (words line)))
          ≡ recosted (cost_after costs name None) (is_known old name) own
          ++ said_where (is_of name (block_by kind (open_block old)))
          (statement_by kind (open_block old) (words line))
      by_kind Blank kept alone = silent (cost_after costs name None) (is_known old name) own
      by_kind Comment kept alone = silent (cost_after costs name None) (is_known old name) own
      by_kind Head kept alone =
          ap (recosted (cost_after costs name None) (list_any (same_bytes name) (heads_with (headed old) (block_of (words line))))) (append-nil own)
          ∙ head_kept old (block_of (words line)) alone
          ∙ sym (append-nil (recosted (cost_after costs name None) (is_known old name) own))
      by_kind Indented kept alone = by_block (open_block old) refl kept

pub kept : (costs : List (List ℕ × ℕ)) (file_name : List ℕ) (old new : List (List ℕ)) (line : List ℕ) → Alike costs file_name old new →
    is_replaced costs old line ≡ false → cost_behind costs old line ≡ None → Alike costs file_name (old ++ line ∷ []) (new ++ line ∷ [])
kept costs file_name old new line alike stays alone = record {
  rest = rest_kept file_name old new line alike.rest;
  own = λ name.
      about-line new line name
      ∙ ap (λ block. about (said new) name ++ said_where (is_of name (block_by (kind_of line) block))
      (statement_by (kind_of line) block (words line))) alike.rest.block
      ∙ ap (λ own. own ++ said_where (is_of name (block_by (kind_of line) (open_block old)))
      (statement_by (kind_of line) (open_block old) (words line))) (alike.own name)
      ∙ sym (line_kept costs name (about (said old) name) old line stays alone)
      ∙ ap (recosted (cost_after costs name None) (is_known (old ++ line ∷ []) name)) (sym (about-line old line name));
}

-- the first head of a named interface
record FirstHead (costs : List (List ℕ × ℕ)) (old : List (List ℕ)) (line : List ℕ) (n : ℕ) : Type 0 where
  kind : kind_of line ≡ Head
  h : List ℕ
  block : block_of (words line) ≡ OfInterface h
  fresh : is_known old h ≡ false
  cost : cost_after costs h None ≡ Some n

first_head : (costs : List (List ℕ × ℕ)) (old : List (List ℕ)) (line : List ℕ) (n : ℕ) → cost_behind costs old line ≡ Some n → FirstHead costs old line n
first_head costs old line n behind = by_kind (kind_of line) (block_of (words line)) refl refl behind
  where
    by_known : (h : List ℕ) (b : Bool) → kind_of line ≡ Head → block_of (words line) ≡ OfInterface h →
        is_known old h ≡ b → cond (true && not b) (cost_after costs h None) None ≡ Some n → FirstHead costs old line n
    by_known h true kind block known e = absurd (cc)
    by_known h false kind block fresh e = record { kind = kind; h = h; block = block; fresh = fresh; cost = e }

    by_kind : (kind : LineKind) (block : Block) → kind_of line ≡ kind → block_of (words line) ≡ block →
        cond (is_head_kind kind && is_first_block old block) (new_cost costs block) None ≡ Some n →
        FirstHead costs old line n
    by_kind Head (OfInterface h) kind block e = by_known h (is_known old h) kind block refl e
    by_kind Head OfRouter kind block e = absurd (cc)
    by_kind Head OfOther kind block e = absurd (cc)
    by_kind Blank block kind is e = absurd (cc)
    by_kind Comment block kind is e = absurd (cc)
    by_kind Indented block kind is e = absurd (cc)

fresh_cost : (n : ℕ) (cost : Option ℕ) (known : Bool) (own : List Statement) → cost ≡ Some n → known ≡ false →
    own ≡ [] → recosted cost known own ++ CostIs n ∷ [] ≡ recosted cost (known || (true || false)) own
fresh_cost n None known own a b c = absurd (cc)
fresh_cost n (Some m) true own a b c = absurd (cc)
fresh_cost n (Some m) false (s ∷ own) a b c = absurd (cc)
fresh_cost n (Some m) false [] a b c = let same : n ≡ m = cc in ap (λ (x : ℕ). CostIs x ∷ []) same

-- a first head, and its cost behind it
pub opened : (costs : List (List ℕ × ℕ)) (file_name : List ℕ) (old new : List (List ℕ)) (line : List ℕ) (n : ℕ) → Alike costs file_name old new →
    cost_behind costs old line ≡ Some n → 1 ≤ n → n ≤ 65535 → Alike costs file_name (old ++ line ∷ []) ((new ++ line ∷ []) ++ section_cost_line n ∷ [])
opened costs file_name old new line n alike behind from to = record {
  rest = rest_trans file_name (old ++ line ∷ []) (new ++ line ∷ []) ((new ++ line ∷ []) ++ section_cost_line n ∷ [])
      (rest_kept file_name old new line alike.rest)
      (rest_indented file_name (new ++ line ∷ []) (section_cost_line n) first.h refl here);
  own = λ name.
      about-line (new ++ line ∷ []) (section_cost_line n) name
      ∙ ap (λ block. about (said (new ++ line ∷ [])) name ++ said_where (is_of name block) (statement_in block (words (section_cost_line n)))) here
      ∙ ap (λ s. about (said (new ++ line ∷ [])) name ++ said_where (same_bytes name first.h) s) (cost_said_there n from to)
      ∙ ap (λ own. own ++ said_where (same_bytes name first.h) (CostIs n)) (quiet new name ∙ alike.own name)
      ∙ added name (same_bytes name first.h) refl
      ∙ ap (λ k. recosted (cost_after costs name None) k (about (said old) name)) (sym (heads name))
      ∙ ap (recosted (cost_after costs name None) (is_known (old ++ line ∷ []) name)) (sym (quiet old name));
}
  where
    first : FirstHead costs old line n
    first = first_head costs old line n behind

    here : open_block (new ++ line ∷ []) ≡ OfInterface first.h
    here = open_block-push new line ∙ ap (λ kind. block_with (is_head_kind kind) line (open_block new)) first.kind ∙ first.block

    quiet : (file : List (List ℕ)) (name : List ℕ) → about (said (file ++ line ∷ [])) name ≡ about (said file) name
    quiet file name =
        about-line file line name
        ∙ ap (λ kind. about (said file) name ++ said_where (is_of name (block_by kind (open_block file)))
        (statement_by kind (open_block file) (words line))) first.kind
        ∙ append-nil (about (said file) name)

    heads : (name : List ℕ) → is_known (old ++ line ∷ []) name ≡ (is_known old name || (same_bytes name first.h || false))
    heads name =
        ap (list_any (same_bytes name)) (headed-push old line
        ∙ ap (λ kind. heads_after_line kind (headed old) (block_of (words line))) first.kind
        ∙ ap (heads_with (headed old)) first.block
        ∙ ap (λ b. cond b (headed old) (headed old ++ first.h ∷ [])) first.fresh)
        ∙ list_any-append (same_bytes name) (headed old) (first.h ∷ [])

    unheaded : about (said old) first.h ≡ []
    unheaded = about-unheaded old first.h (any-map (same_bytes first.h) (λ (head : List ℕ × ℕ). head.0) (first_heads old) ∙ first.fresh)

    added : (name : List ℕ) (s : Bool) → same_bytes name first.h ≡ s →
        recosted (cost_after costs name None) (is_known old name) (about (said old) name) ++ said_where s (CostIs n)
        ≡ recosted (cost_after costs name None) (is_known old name || (s || false)) (about (said old) name)
    added name false other =
        append-nil (recosted (cost_after costs name None) (is_known old name) (about (said old) name))
        ∙ ap (λ k. recosted (cost_after costs name None) k (about (said old) name)) (sym (or_none (is_known old name)))
    added name true same =
        let is : name ≡ first.h = same_bytes-true name first.h same in
        fresh_cost n (cost_after costs name None) (is_known old name) (about (said old) name)
        (ap (λ m. cost_after costs m None) is ∙ first.cost) (ap (is_known old) is ∙ first.fresh) (ap (about (said old)) is ∙ unheaded)

-- a line that is taken out
record TakenOut (costs : List (List ℕ × ℕ)) (old : List (List ℕ)) (line : List ℕ) : Type 0 where
  kind : kind_of line ≡ Indented
  h : List ℕ
  block : open_block old ≡ OfInterface h
  n : ℕ
  cost : cost_after costs h None ≡ Some n
  begins : begin_with (ip_ospf (codes "cost")) (words line) ≡ true

taken_out : (costs : List (List ℕ × ℕ)) (old : List (List ℕ)) (line : List ℕ) → is_replaced costs old line ≡ true → TakenOut costs old line
taken_out costs old line out = by_kind (kind_of line) (open_block old) refl refl out
  where
    by_cost : (h : List ℕ) (o : Option ℕ) → kind_of line ≡ Indented → open_block old ≡ OfInterface h →
        cost_after costs h None ≡ o → (is_some o && (true && begin_with (ip_ospf (codes "cost")) (words line))) ≡ true →
        TakenOut costs old line
    by_cost h None kind block cost e = absurd (cc)
    by_cost h (Some n) kind block cost e = record { kind = kind; h = h; block = block; n = n; cost = cost; begins = e }

    by_kind : (kind : LineKind) (block : Block) → kind_of line ≡ kind → open_block old ≡ block →
        (is_some (new_cost costs block) && (is_indented_kind kind && begin_with (ip_ospf (codes "cost")) (words line)))
        ≡ true → TakenOut costs old line
    by_kind Indented (OfInterface h) kind block e = by_cost h (cost_after costs h None) kind block refl e
    by_kind Indented OfRouter kind block e = absurd (cc)
    by_kind Indented OfOther kind block e = absurd (cc)
    by_kind Blank block kind is e = let parts = and_parts (is_some (new_cost costs block)) false e in absurd (cc)
    by_kind Comment block kind is e = let parts = and_parts (is_some (new_cost costs block)) false e in absurd (cc)
    by_kind Head block kind is e = let parts = and_parts (is_some (new_cost costs block)) false e in absurd (cc)

dropped_cost : (m n : ℕ) (cost : Option ℕ) (known : Bool) (own : List Statement) → cost ≡ Some n → known ≡ true →
    recosted cost known own ≡ recosted cost known (own ++ CostIs m ∷ [])
dropped_cost m n None known own a b = absurd (cc)
dropped_cost m n (Some k) false own a b = absurd (cc)
dropped_cost m n (Some k) true own a b = ap (λ s. CostIs k ∷ s) (sym (filter-append sets_no_cost own (CostIs m ∷ []) ∙ append-nil (filter sets_no_cost own)))

pub dropped : (costs : List (List ℕ × ℕ)) (file_name : List ℕ) (old new : List (List ℕ)) (line : List ℕ) → Alike costs file_name old new →
    is_replaced costs old line ≡ true → refused (statement_by (kind_of line) (open_block old) (words line)) ≡ None →
    Alike costs file_name (old ++ line ∷ []) new
dropped costs file_name old new line alike replaced fine = record {
  rest = rest_trans file_name (old ++ line ∷ []) old new (rest_sym file_name old (old ++ line ∷ []) same) alike.rest;
  own = λ name.
      alike.own name
      ∙ excluded name (same_bytes name out.h) refl
      ∙ ap (λ s. recosted (cost_after costs name None) (is_known old name) (about (said old) name ++ said_where (same_bytes name out.h) s)) (sym says.1)
      ∙ ap (λ heads. recosted (cost_after costs name None) (list_any (same_bytes name) heads)
      (about (said old) name ++ said_where (same_bytes name out.h) (interface_statement (words line))))
      (sym same.heads)
      ∙ ap (λ block. recosted (cost_after costs name None) (is_known (old ++ line ∷ []) name)
      (about (said old) name ++ said_where (is_of name block) (statement_in block (words line)))) (sym out.block)
      ∙ ap (λ kind. recosted (cost_after costs name None) (is_known (old ++ line ∷ []) name)
      (about (said old) name ++ said_where (is_of name (block_by kind (open_block old)))
      (statement_by kind (open_block old) (words line)))) (sym out.kind)
      ∙ ap (recosted (cost_after costs name None) (is_known (old ++ line ∷ []) name)) (sym (about-line old line name));
}
  where
    out : TakenOut costs old line
    out = taken_out costs old line replaced

    same : SameRest file_name old (old ++ line ∷ [])
    same = rest_indented file_name old line out.h out.kind out.block

    says : (m : ℕ) × (interface_statement (words line) ≡ CostIs m)
    says =
        sets_cost (words line) out.begins
        (ap (λ block. refused (statement_in block (words line))) (sym out.block)
        ∙ ap (λ kind. refused (statement_by kind (open_block old) (words line))) (sym out.kind)
        ∙ fine)

    excluded : (name : List ℕ) (s : Bool) → same_bytes name out.h ≡ s →
        recosted (cost_after costs name None) (is_known old name) (about (said old) name)
        ≡ recosted (cost_after costs name None) (is_known old name)
        (about (said old) name ++ said_where s (CostIs says.0))
    excluded name false other = ap (recosted (cost_after costs name None) (is_known old name)) (sym (append-nil (about (said old) name)))
    excluded name true same_name =
        let is : name ≡ out.h = same_bytes-true name out.h same_name in
        dropped_cost says.0 out.n (cost_after costs name None) (is_known old name) (about (said old) name)
        (ap (λ m. cost_after costs m None) is ∙ out.cost) (ap (is_known old) is ∙ known_open old out.h out.block)

-- the block that a first head opens
pub opened_here : (costs : List (List ℕ × ℕ)) (old new : List (List ℕ)) (line : List ℕ) (n : ℕ) →
    cost_behind costs old line ≡ Some n → (h : List ℕ) × (open_block (new ++ line ∷ []) ≡ OfInterface h)
opened_here costs old new line n behind =
    let first = first_head costs old line n behind in
    (first.h, open_block-push new line ∙ ap (λ kind. block_with (is_head_kind kind) line (open_block new)) first.kind ∙ first.block)
