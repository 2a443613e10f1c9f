-- A file and its rewritten lines say the same, but for the costs of named interfaces.
use Rattle.std.proofs.Common.{◌≡◌, ℕ, ◌+◌, List, [], ◌∷◌, ◌++◌, length, Bool, cond, true, false, ◌&&◌, refl, sym, ap, ◌∙◌, Some, append-nil}
use Rattle.std.specs.Prelude.{codes}
use Rattle.std.specs.List.{filter}
use Rattle.std.proofs.lemmas.List.{get_or_at, get_or_append_left}
use Rattle.cost_base.specs.Lists.{numbers_from, last_of}
use Rattle.cost_base.proofs.ListLemmas.{last_of-push, length-push}
use Rattle.text_lines.specs.Lines.{words, kind_of, is_head, is_head_kind}
use Rattle.text_lines.specs.declared.LineKind.TheVariants.{Indented}
use Rattle.config_reader.specs.Statements.{OfInterface, block_of, begin_with, statement_in, word_at}
use Rattle.config_reader.specs.Settings.{said, about, about_router, is_of, is_of_router}
use Rattle.config_reader.specs.RouterNames.{is_hostname_head, last_hostname, name_and_line, router_name_said}
use Rattle.config_reader.specs.Reading.{open_block}
use Rattle.config_reader.proofs.LongerLists.{filter-numbers_more}
use Rattle.config_reader.proofs.SaidSteps.{said_after, said-push, names_router, router_name-push}
use Rattle.config_reader.proofs.SettingSteps.{about-push, about_router-push, said_where}
use Rattle.config_reader.proofs.BlockFacts.{open_block-push, block_with}
use Rattle.config_reader.proofs.FineLines.{block_by, statement_by, after_block, after_statement}
use Rattle.config_writer.specs.Rewriting.{headed}
use Rattle.config_writer.specs.Writing.{heads_after_line}
use Rattle.config_writer.proofs.WrittenLines.{headed-push}

-- what is said of an interface, and by router blocks, with one more line
pub about-line : (file : List (List ℕ)) (line name : List ℕ) →
    about (said (file ++ line ∷ [])) name ≡ about (said file) name
    ++ said_where (is_of name (block_by (kind_of line) (open_block file)))
    (statement_by (kind_of line) (open_block file) (words line))
about-line file line name =
    ap (λ all. about all name) (said-push file line)
    ∙ about-push (said file) (said_after file line) name
    ∙ ap (λ b. about (said file) name ++ said_where (is_of name b) (said_after file line).statement) (after_block file line)
    ∙ ap (λ s. about (said file) name ++ said_where (is_of name (block_by (kind_of line) (open_block file))) s) (after_statement file line)

about_router-line : (file : List (List ℕ)) (line : List ℕ) →
    about_router (said (file ++ line ∷ [])) ≡ about_router (said file)
    ++ said_where (is_of_router (block_by (kind_of line) (open_block file)))
    (statement_by (kind_of line) (open_block file) (words line))
about_router-line file line =
    ap about_router (said-push file line)
    ∙ about_router-push (said file) (said_after file line)
    ∙ ap (λ b. about_router (said file) ++ said_where (is_of_router b) (said_after file line).statement) (after_block file line)
    ∙ ap (λ s. about_router (said file) ++ said_where (is_of_router (block_by (kind_of line) (open_block file))) s) (after_statement file line)

-- a `hostname` head gives the router's name
named-push : (file_name : List ℕ) (file : List (List ℕ)) (line : List ℕ) → names_router line ≡ true →
    router_name_said file_name (file ++ line ∷ []) ≡ (word_at (words line) 1, length file + 1)
named-push file_name file line names =
    ap (name_and_line file_name (file ++ line ∷ [])) last
    ∙ ap (λ (l : List ℕ). (word_at (words l) 1, length file + 1)) (get_or_at file line [] [] (length file) refl)
  where
    last : last_hostname (file ++ line ∷ []) ≡ Some (length file)
    last =
        ap (λ n. last_of (filter (is_hostname_head (file ++ line ∷ [])) (numbers_from 0 n))) (length-push file line)
        ∙ ap last_of (filter-numbers_more (is_hostname_head (file ++ line ∷ [])) (is_hostname_head file) (length file)
        (λ i within. ap names_router (get_or_append_left file (line ∷ []) [] i within)))
        ∙ ap (λ b. last_of (filter (is_hostname_head file) (numbers_from 0 (length file))
        ++ cond b (length file ∷ []) []))
        (ap names_router (get_or_at file line [] [] (length file) refl) ∙ names)
        ∙ last_of-push (filter (is_hostname_head file) (numbers_from 0 (length file))) (length file)

-- the open block, the interfaces, what router blocks say and the router's name are the same
pub record SameRest (file_name : List ℕ) (old new : List (List ℕ)) : Type 0 where
  pub block : open_block new ≡ open_block old
  pub heads : headed new ≡ headed old
  pub router : about_router (said new) ≡ about_router (said old)
  pub name : (router_name_said file_name new).0 ≡ (router_name_said file_name old).0

-- the same line behind both
pub rest_kept : (file_name : List ℕ) (old new : List (List ℕ)) (line : List ℕ) → SameRest file_name old new →
    SameRest file_name (old ++ line ∷ []) (new ++ line ∷ [])
rest_kept file_name old new line same = record {
  block = open_block-push new line ∙ ap (block_with (is_head line) line) same.block ∙ sym (open_block-push old line);
  heads = headed-push new line ∙ ap (λ heads. heads_after_line (kind_of line) heads (block_of (words line))) same.heads ∙ sym (headed-push old line);
  router =
      about_router-line new line
      ∙ ap (λ said. said ++ said_where (is_of_router (block_by (kind_of line) (open_block new)))
      (statement_by (kind_of line) (open_block new) (words line))) same.router
      ∙ ap (λ block. about_router (said old) ++ said_where (is_of_router (block_by (kind_of line) block))
      (statement_by (kind_of line) block (words line))) same.block
      ∙ sym (about_router-line old line);
  name = by_name (names_router line) refl;
}
  where
    by_name : (b : Bool) → names_router line ≡ b → (router_name_said file_name (new ++ line ∷ [])).0 ≡ (router_name_said file_name (old ++ line ∷ [])).0
    by_name true names = ap (λ (p : List ℕ × ℕ). p.0) (named-push file_name new line names)
        ∙ ap (λ (p : List ℕ × ℕ). p.0) (sym (named-push file_name old line names))
    by_name false other = ap (λ (p : List ℕ × ℕ). p.0) (router_name-push file_name new line other) ∙ same.name
        ∙ ap (λ (p : List ℕ × ℕ). p.0) (sym (router_name-push file_name old line other))

-- an indented line of an interface behind a file
pub rest_indented : (file_name : List ℕ) (file : List (List ℕ)) (line h : List ℕ) → kind_of line ≡ Indented →
    open_block file ≡ OfInterface h → SameRest file_name file (file ++ line ∷ [])
rest_indented file_name file line h indented here = record {
  block = open_block-push file line ∙ ap (λ kind. block_with (is_head_kind kind) line (open_block file)) indented;
  heads = headed-push file line ∙ ap (λ kind. heads_after_line kind (headed file) (block_of (words line))) indented;
  router =
      about_router-line file line
      ∙ ap (λ kind. about_router (said file) ++ said_where (is_of_router (block_by kind (open_block file)))
      (statement_by kind (open_block file) (words line))) indented
      ∙ ap (λ block. about_router (said file) ++ said_where (is_of_router block) (statement_in block (words line))) here
      ∙ append-nil (about_router (said file));
  name = ap (λ (p : List ℕ × ℕ). p.0)
      (router_name-push file_name file line
      (ap (λ kind. is_head_kind kind && begin_with (codes "hostname" ∷ []) (words line)) indented));
}

pub rest_trans : (file_name : List ℕ) (a b c : List (List ℕ)) → SameRest file_name a b → SameRest file_name b c → SameRest file_name a c
rest_trans file_name a b c one two =
    record {
      block = two.block ∙ one.block;
      heads = two.heads ∙ one.heads;
      router = two.router ∙ one.router;
      name = two.name ∙ one.name;
    }

pub rest_sym : (file_name : List ℕ) (a b : List (List ℕ)) → SameRest file_name a b → SameRest file_name b a
rest_sym file_name a b same = record { block = sym same.block; heads = sym same.heads; router = sym same.router; name = sym same.name }
