-- What a head makes of what the reader keeps.
use Rattle.std.proofs.Common.{◌≡◌, ◌≢◌, ℕ, List, [], ◌∷◌, ◌++◌, Bor, map, cond, refl, sym, ap, ◌∙◌, append-nil, Bool, Option, Some}
use Rattle.std.specs.Prelude.{codes}
use Rattle.std.specs.List.{cons_option}
use Rattle.std.specs.Option.{option_map}
use Rattle.std.proofs.lemmas.List.{map-append}
use Rattle.config_reader.specs.declared.reader.Reader.TheInside.{Inside}
use Rattle.config_reader.specs.declared.reader.NamedHead.{NamedHead}
use Rattle.config_reader.specs.declared.statements.Block.{Block as SpokenBlock}
use Rattle.config_reader.specs.declared.statements.Block.TheVariants.{Interface, Router, Other}
use Rattle.config_reader.specs.Statements.{Statement, Block, OfOther, block_of, head_statement, begin_with, word_at}
use Rattle.config_reader.specs.Configs.{name_with_line, name_opened}
use Rattle.config_reader.specs.Heards.{said_of, head_heard, fault_heard}
use Rattle.config_reader.specs.Hearing.{Heard, hear_head, hear_statement}
use Rattle.config_reader.specs.Spoken.{block_spoken}
use Rattle.config_reader.proofs.HeardSteps.{heard_same}

-- the head of an interface was put to the heads, and nothing else was changed
pub record HasHead (n : ℕ) (block : SpokenBlock) (old new : Inside) : Type 0 where
  pub heads : map head_heard new.heads.items ≡ map head_heard old.heads.items ++ cons_option (name_with_line n (name_opened (block_spoken block))) []
  pub said : new.said ≡ old.said
  pub hostname : new.hostname ≡ old.hostname
  pub fault : new.fault ≡ old.fault

pub heads_with : (n : ℕ) (block : SpokenBlock) (name : Bor (List ℕ)) (heads more : List NamedHead) → block ≡ Interface name →
    more ≡ heads ++ record { name = name; line = n } ∷ [] →
    map head_heard more ≡ map head_heard heads ++ cons_option (name_with_line n (name_opened (block_spoken block))) []
heads_with n block name heads more is put =
    ap (map head_heard) put
    ∙ map-append head_heard heads (record { name = name; line = n } ∷ [])
    ∙ ap (λ b. map head_heard heads ++ cons_option (name_with_line n (name_opened (block_spoken b))) []) (sym is)

no_head : (n : ℕ) (block : SpokenBlock) (heads : List (List ℕ × ℕ)) → ((name : Bor (List ℕ)) → block ≢ Interface name) →
    heads ≡ heads ++ cons_option (name_with_line n (name_opened (block_spoken block))) []
no_head n (Interface name) heads other = absurd (other name refl)
no_head n Router heads other = sym (append-nil heads)
no_head n Other heads other = sym (append-nil heads)

pub head_without : (n : ℕ) (block : SpokenBlock) (old new : Inside) → ((name : Bor (List ℕ)) → block ≢ Interface name) →
    new ≡ old → HasHead n block old new
head_without n block old new other same = record {
  heads = ap (λ i. map head_heard i.heads.items) same ∙ no_head n block (map head_heard old.heads.items) other;
  said = ap (λ i. i.said) same;
  hostname = ap (λ i. i.hostname) same;
  fault = ap (λ i. i.fault) same;
}

-- the router's name was kept where the head says one, and nothing else was changed
pub record HasName (n : ℕ) (ws : List (List ℕ)) (old new : Inside) : Type 0 where
  pub hostname : option_map head_heard new.hostname
      ≡ cond (begin_with (codes "hostname" ∷ []) ws) (Some (word_at ws 1, n)) (option_map head_heard old.hostname)
  pub said : new.said ≡ old.said
  pub heads : new.heads ≡ old.heads
  pub fault : new.fault ≡ old.fault

pub name_kept : (n : ℕ) (ws : List (List ℕ)) (b : Bool) (old : Option (List ℕ × ℕ)) → b ≡ begin_with (codes "hostname" ∷ []) ws →
    cond b (Some (word_at ws 1, n)) old ≡ cond (begin_with (codes "hostname" ∷ []) ws) (Some (word_at ws 1, n)) old
name_kept n ws b old is = ap (λ c. cond c (Some (word_at ws 1, n)) old) is

-- what the reader keeps
abbrev pub heard_of : Inside → Heard
heard_of i = record {
  said = map said_of i.said.items;
  heads = map head_heard i.heads.items;
  hostname = option_map head_heard i.hostname;
  fault = option_map fault_heard i.fault;
  block = block_spoken i.block;
}

-- what is kept after a head whose parts were kept
pub head_kept : (n : ℕ) (ws : List (List ℕ)) (block : SpokenBlock) (statement : Statement) (first middle last : Inside) (h : Heard) →
    block_spoken block ≡ block_of ws → statement ≡ head_statement ws → HasHead n block first middle → HasName n ws middle last →
    heard_of first ≡ h → hear_statement (heard_of (record last { block = block })) n OfOther statement ≡ hear_head h n ws
head_kept n ws block statement first middle last h block_is statement_is head name view_is =
    ap (λ k. hear_statement k n OfOther statement) (heard_same (heard_of (record last { block = block })) (record (heard_of first) {
      heads = map head_heard first.heads.items ++ cons_option (name_with_line n (name_opened (block_of ws))) [];
      hostname = cond (begin_with (codes "hostname" ∷ []) ws) (Some (word_at ws 1, n)) (option_map head_heard first.hostname);
      block = block_of ws;
    })
    (ap (λ v. map said_of v.items) (name.said ∙ head.said))
    (ap (λ v. map head_heard v.items) name.heads ∙ head.heads
    ∙ ap (λ b. map head_heard first.heads.items ++ cons_option (name_with_line n (name_opened b)) []) block_is)
    (name.hostname ∙ ap (λ o. cond (begin_with (codes "hostname" ∷ []) ws) (Some (word_at ws 1, n)) (option_map head_heard o)) head.hostname)
    (ap (option_map fault_heard) (name.fault ∙ head.fault))
    block_is)
    ∙ ap (λ s. hear_statement (record (heard_of first) {
      heads = map head_heard first.heads.items ++ cons_option (name_with_line n (name_opened (block_of ws))) [];
      hostname = cond (begin_with (codes "hostname" ∷ []) ws) (Some (word_at ws 1, n)) (option_map head_heard first.hostname);
      block = block_of ws;
    }) n OfOther s) statement_is
    ∙ ap (λ k. hear_head k n ws) view_is
