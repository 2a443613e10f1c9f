-- What is kept of a file with one more line.
use Rattle.std.proofs.Common.{◌≡◌, ℕ, ◌+◌, ◌<◌, List, [], ◌∷◌, ◌++◌, length, get_or, Bool, cond, true, false, ◌&&◌, refl, sym, ap, ◌∙◌, arith, append-nil, append_assoc, Option, Some, None, length-append}
use Rattle.std.specs.Prelude.{codes}
use Rattle.std.specs.List.{filter, filter_map, cons_option}
use Rattle.std.specs.Option.{option_or}
use Rattle.std.proofs.lemmas.List.{get_or_append_left, get_or_at, length-map, map-append}
use Rattle.std.proofs.lemmas.List.Elements.{filter-append}
use Rattle.cost_base.specs.Lists.{numbers_from, first_of, last_of}
use Rattle.cost_base.proofs.ListLemmas.{last_of-push, first_of-push_option, length-push, option_or-none}
use Rattle.std.proofs.lemmas.Bool.{le-leb, lt-leb}
use Rattle.text_lines.specs.TextLeft.{TextLeft}
use Rattle.text_lines.specs.Reading.{GoesOver, IsLineRead, IsLongLine}
use Rattle.text_lines.specs.declared.line_reader.Line.{Line}
use Rattle.text_lines.specs.declared.line_reader.LongLine.{LongLine as LongLineRead}
use Rattle.text_lines.specs.Lines.{lines, words, kind_of, is_head, is_head_kind}
use Rattle.text_lines.specs.declared.LineKind.{LineKind}
use Rattle.text_lines.specs.declared.LineKind.TheVariants.{Blank, Comment, Head, Indented}
use Rattle.config_reader.specs.declared.fault.ConfigFault.{ConfigFault}
use Rattle.config_reader.specs.declared.fault.ConfigFault.TheVariants.{LongLine}
use Rattle.config_reader.specs.Statements.{Statement, AddressIs, AreaIs, CostIs, KindIs, PriorityIs, PassiveIs, DownIs, RouterIdIs, NetworkIs, PassiveInterfaceIs, Refused, Unread, Block, OfOther, block_of, statement_in, head_statement, begin_with, word_at}
use Rattle.config_reader.specs.Settings.{Said, said, said_at_place, said_by}
use Rattle.config_reader.specs.Configs.{opened_at, name_with_line, name_opened}
use Rattle.config_reader.specs.RouterNames.{is_hostname_head, last_hostname}
use Rattle.config_reader.specs.FaultList.{at_line, long_line, refused, read_line, read_lines, is_short}
use Rattle.config_reader.specs.Hearing.{Heard, sets, hear, hear_kind, hear_statement, with_fault, heard, named_by, own_fault}
use Rattle.config_reader.specs.Reading.{open_block}
use Rattle.config_reader.proofs.LongerLists.{filter_map-numbers_more, filter-numbers_more, last_passing-lt}
use Rattle.config_reader.proofs.SaidSteps.{said_after, said-push, said_at-append, opened-push, opened_from, names_router, last_said}
use Rattle.config_reader.proofs.BlockFacts.{open_block-push, block_with}

-- what is kept, part by part
pub heard_same : (a b : Heard) → a.said ≡ b.said → a.heads ≡ b.heads → a.hostname ≡ b.hostname → a.fault ≡ b.fault → a.block ≡ b.block → a ≡ b
heard_same a b said heads hostname fault block =
    ap (λ x. record a { said = x }) said
    ∙ ap (λ x. record a { said = b.said; heads = x }) heads
    ∙ ap (λ x. record a { said = b.said; heads = b.heads; hostname = x }) hostname
    ∙ ap (λ x. record a { said = b.said; heads = b.heads; hostname = b.hostname; fault = x }) fault
    ∙ ap (λ x. record b { block = x }) block

-- as many lines are read as there are
pub length-read_lines : (file : List (List ℕ)) → length (read_lines file) ≡ length file
length-read_lines file = length-map file read_line

pub read_lines-push : (file : List (List ℕ)) (line : List ℕ) → read_lines (file ++ line ∷ []) ≡ read_lines file ++ read_line line ∷ []
read_lines-push file line = map-append read_line file (line ∷ [])

-- something where a test passes
abbrev pub only_if : {X : Type 0} → Bool → X → List X
only_if true x = x ∷ []
only_if false x = []

-- what is kept with a line of a kind, of these words, that has a fault of its own or none
abbrev pub added : LineKind → Option ConfigFault → Heard → ℕ → List (List ℕ) → Heard
added kind long h n ws =
    let s = said_by kind n h.block ws in
    record {
      said = h.said ++ only_if (sets s.statement) s;
      heads = h.heads ++ cons_option (cond (is_head_kind kind) (name_with_line n (name_opened (block_of ws))) None) [];
      hostname = cond (is_head_kind kind && begin_with (codes "hostname" ∷ []) ws) (Some (word_at ws 1, n)) h.hostname;
      fault = option_or h.fault (at_line n (option_or long (refused s.statement)));
      block = cond (is_head_kind kind) (block_of ws) h.block;
    }

-- the last `hostname` head with one more line
named-push : (file : List (List ℕ)) (line : List ℕ) → named_by (file ++ line ∷ []) (last_hostname (file ++ line ∷ []))
    ≡ cond (names_router line) (Some (word_at (words line) 1, length file + 1)) (named_by file (last_hostname file))
named-push file line = ap (named_by (file ++ line ∷ [])) last ∙ cases (names_router line)
  where
    here : get_or (file ++ line ∷ []) (length file) [] ≡ line
    here = get_or_at file line [] [] (length file) refl

    last : last_hostname (file ++ line ∷ [])
        ≡ last_of (filter (is_hostname_head file) (numbers_from 0 (length file)) ++ only_if (names_router line)
        (length file))
    last =
        ap (λ n. last_of (filter (is_hostname_head (file ++ line ∷ [])) (numbers_from 0 n))) (length-push file line)
        ∙ ap last_of (filter-numbers_more (is_hostname_head (file ++ line ∷ [])) (is_hostname_head file) (length file)
        (λ i within. ap names_router (get_or_append_left file (line ∷ []) [] i within)))
        ∙ ap (λ b. last_of (filter (is_hostname_head file) (numbers_from 0 (length file)) ++ cond b (length file ∷ []) [])) (ap names_router here)
        ∙ same (names_router line)
      where
        same : (b : Bool) → last_of (filter (is_hostname_head file) (numbers_from 0 (length file))
            ++ cond b (length file ∷ []) [])
            ≡ last_of (filter (is_hostname_head file) (numbers_from 0 (length file)) ++ only_if b (length file))
        same true = refl
        same false = refl

    at : (o : Option ℕ) → ((i : ℕ) → o ≡ Some i → i < 0 + length file) → named_by (file ++ line ∷ []) o ≡ named_by file o
    at None within = refl
    at (Some i) within =
        let known : i < length file = omega (arith, within i refl) in
        ap (λ (l : List ℕ). Some (word_at (words l) 1, i + 1)) (get_or_append_left file (line ∷ []) [] i known)

    cases : (b : Bool) → named_by (file ++ line ∷ [])
        (last_of (filter (is_hostname_head file) (numbers_from 0 (length file)) ++ only_if b (length file)))
        ≡ cond b (Some (word_at (words line) 1, length file + 1)) (named_by file (last_hostname file))
    cases true =
        ap (named_by (file ++ line ∷ [])) (last_of-push (filter (is_hostname_head file) (numbers_from 0 (length file))) (length file))
        ∙ ap (λ (l : List ℕ). Some (word_at (words l) 1, length file + 1)) here
    cases false =
        ap (λ is. named_by (file ++ line ∷ []) (last_of is)) (append-nil (filter (is_hostname_head file) (numbers_from 0 (length file))))
        ∙ at (last_hostname file) (λ i e. last_passing-lt (is_hostname_head file) 0 (length file) i e)

-- the first faulty line with one more
pub fault-push : (file : List (List ℕ)) (line : List ℕ) →
    (heard (file ++ line ∷ [])).fault
    ≡ option_or (heard file).fault
    (at_line (length file + 1)
    (option_or (long_line line) (refused (said_after (read_lines file) (read_line line)).statement)))
fault-push file line =
    ap (λ n. first_of (filter_map (own_fault (file ++ line ∷ [])) (numbers_from 0 n))) (length-push file line)
    ∙ ap first_of (filter_map-numbers_more (own_fault (file ++ line ∷ [])) (own_fault file) (length file) before)
    ∙ first_of-push_option (own_fault (file ++ line ∷ []) (length file)) (filter_map (own_fault file) (numbers_from 0 (length file)))
    ∙ ap (option_or (heard file).fault) here
  where
    before : (i : ℕ) → i < length file → own_fault (file ++ line ∷ []) i ≡ own_fault file i
    before i within =
        let known : i < length (read_lines file) = omega (arith, within, length-read_lines file) in
        ap (λ (l : List ℕ). at_line (i + 1)
        (option_or (long_line l) (refused (said_at_place (read_lines (file ++ line ∷ [])) i).statement)))
        (get_or_append_left file (line ∷ []) [] i within)
        ∙ ap (λ (ls : List (List ℕ)). at_line (i + 1) (option_or (long_line (get_or file i [])) (refused (said_at_place ls i).statement)))
        (read_lines-push file line)
        ∙ ap (λ (s : Said). at_line (i + 1) (option_or (long_line (get_or file i [])) (refused s.statement)))
        (said_at-append (read_lines file) (read_line line ∷ []) i known)

    here : own_fault (file ++ line ∷ []) (length file)
        ≡ at_line (length file + 1)
        (option_or (long_line line) (refused (said_after (read_lines file) (read_line line)).statement))
    here =
        ap (λ (l : List ℕ). at_line (length file + 1)
        (option_or (long_line l) (refused (said_at_place (read_lines (file ++ line ∷ [])) (length file)).statement)))
        (get_or_at file line [] [] (length file) refl)
        ∙ ap (λ (ls : List (List ℕ)). at_line (length file + 1)
        (option_or (long_line line) (refused (said_at_place ls (length file)).statement))) (read_lines-push file line)
        ∙ ap (λ (n : ℕ). at_line (length file + 1)
        (option_or (long_line line) (refused (said_at_place (read_lines file ++ read_line line ∷ []) n).statement)))
        (sym (length-read_lines file))
        ∙ ap (λ (s : Said). at_line (length file + 1) (option_or (long_line line) (refused s.statement))) (last_said (read_lines file) (read_line line))

-- what is kept of a file with one more line
heard-push : (file : List (List ℕ)) (line : List ℕ) →
    heard (file ++ line ∷ []) ≡ added (kind_of (read_line line)) (long_line line) (heard file) (length file + 1)
    (words (read_line line))
heard-push file line = heard_same (heard (file ++ line ∷ []))
    (added (kind_of (read_line line)) (long_line line) (heard file) (length file + 1) (words (read_line line))) told
    opened named (fault-push file line ∙ counted_fault) block
  where
    r : List (List ℕ)
    r = read_lines file

    l : List ℕ
    l = read_line line

    told : (heard (file ++ line ∷ [])).said ≡ (heard file).said
        ++ only_if (sets (said_by (kind_of l) (length file + 1) (heard file).block (words l)).statement)
        (said_by (kind_of l) (length file + 1) (heard file).block (words l))
    told =
        ap (λ ls. filter (λ (s : Said). sets s.statement) (said ls)) (read_lines-push file line)
        ∙ ap (filter (λ (s : Said). sets s.statement)) (said-push r l)
        ∙ filter-append (λ (s : Said). sets s.statement) (said r) (said_after r l ∷ [])
        ∙ ap (λ n. (heard file).said ++ filter (λ (s : Said). sets s.statement)
        (said_by (kind_of l) (n + 1) (heard file).block (words l) ∷ [])) (length-read_lines file)
        ∙ ap (λ ss. (heard file).said ++ ss)
        (one (said_by (kind_of l) (length file + 1) (heard file).block (words l))
        (sets (said_by (kind_of l) (length file + 1) (heard file).block (words l)).statement))
      where
        one : (s : Said) (b : Bool) → cond b (s ∷ []) [] ≡ only_if b s
        one s true = refl
        one s false = refl

    opened : (heard (file ++ line ∷ [])).heads ≡ (heard file).heads
        ++ cons_option (cond (is_head_kind (kind_of l))
        (name_with_line (length file + 1) (name_opened (block_of (words l)))) None) []
    opened =
        ap (λ ls. filter_map (opened_at ls) (numbers_from 0 (length ls))) (read_lines-push file line)
        ∙ opened-push r l
        ∙ ap (λ n. (heard file).heads ++ cons_option (opened_from n l) []) (length-read_lines file)

    named : (heard (file ++ line ∷ [])).hostname
        ≡ cond (is_head_kind (kind_of l) && begin_with (codes "hostname" ∷ []) (words l))
        (Some (word_at (words l) 1, length file + 1)) (heard file).hostname
    named =
        ap (λ ls. named_by ls (last_hostname ls)) (read_lines-push file line)
        ∙ named-push r l
        ∙ ap (λ n. cond (names_router l) (Some (word_at (words l) 1, n + 1)) (heard file).hostname) (length-read_lines file)

    counted_fault : option_or (heard file).fault (at_line (length file + 1) (option_or (long_line line) (refused (said_after r l).statement)))
        ≡ option_or (heard file).fault
        (at_line (length file + 1)
        (option_or (long_line line)
        (refused (said_by (kind_of l) (length file + 1) (heard file).block (words l)).statement)))
    counted_fault = ap (λ n. option_or (heard file).fault
        (at_line (length file + 1)
        (option_or (long_line line)
        (refused (said_by (kind_of l) (n + 1) (heard file).block (words l)).statement)))) (length-read_lines file)

    block : (heard (file ++ line ∷ [])).block ≡ cond (is_head_kind (kind_of l)) (block_of (words l)) (heard file).block
    block = ap open_block (read_lines-push file line) ∙ open_block-push r l ∙ same (is_head l)
      where
        same : (b : Bool) → block_with b l (open_block r) ≡ cond b (block_of (words l)) (open_block r)
        same true = refl
        same false = refl

-- a statement, kept by its cases
keeps : (h : Heard) (n : ℕ) (block : Block) (s : Statement) →
    hear_statement h n block s ≡ record h {
      said = h.said
          ++ only_if (sets s) (record { number = n; block = block; statement = s });
      fault =
          option_or h.fault (at_line n (refused s));
    }
keeps h n block (Refused fault) =
    ap (λ ss. record h { said = ss; fault = option_or h.fault (Some (record { line = n; fault = fault })) })
    (sym (append-nil h.said))
keeps h n block Unread = heard_same h (record h { said = h.said ++ []; fault = option_or h.fault None })
    (sym (append-nil h.said)) refl refl (sym (option_or-none h.fault)) refl
keeps h n block (AddressIs p) =
    ap (λ f. record h {
      said = h.said ++ record { number = n; block = block; statement = AddressIs p } ∷ [];
      fault = f;
    }) (sym (option_or-none h.fault))
keeps h n block (AreaIs a) = ap (λ f.
    record h { said = h.said ++ record { number = n; block = block; statement = AreaIs a } ∷ []; fault = f })
    (sym (option_or-none h.fault))
keeps h n block (CostIs c) = ap (λ f.
    record h { said = h.said ++ record { number = n; block = block; statement = CostIs c } ∷ []; fault = f })
    (sym (option_or-none h.fault))
keeps h n block (KindIs k) = ap (λ f.
    record h { said = h.said ++ record { number = n; block = block; statement = KindIs k } ∷ []; fault = f })
    (sym (option_or-none h.fault))
keeps h n block (PriorityIs c) =
    ap (λ f. record h {
      said = h.said ++ record { number = n; block = block; statement = PriorityIs c } ∷ [];
      fault = f;
    }) (sym (option_or-none h.fault))
keeps h n block (PassiveIs b) =
    ap (λ f. record h {
      said = h.said ++ record { number = n; block = block; statement = PassiveIs b } ∷ [];
      fault = f;
    }) (sym (option_or-none h.fault))
keeps h n block (DownIs b) = ap (λ f.
    record h { said = h.said ++ record { number = n; block = block; statement = DownIs b } ∷ []; fault = f })
    (sym (option_or-none h.fault))
keeps h n block (RouterIdIs id) =
    ap (λ f. record h {
      said = h.said ++ record { number = n; block = block; statement = RouterIdIs id } ∷ [];
      fault = f;
    }) (sym (option_or-none h.fault))
keeps h n block (NetworkIs w) =
    ap (λ f. record h {
      said = h.said ++ record { number = n; block = block; statement = NetworkIs w } ∷ [];
      fault = f;
    }) (sym (option_or-none h.fault))
keeps h n block (PassiveInterfaceIs name) =
    ap (λ f. record h {
      said = h.said ++ record { number = n; block = block; statement = PassiveInterfaceIs name } ∷ [];
      fault = f;
    }) (sym (option_or-none h.fault))

-- nothing more is kept
nothing_added : (h : Heard) → h ≡ record h { said = h.said ++ []; heads = h.heads ++ []; fault = option_or h.fault None }
nothing_added h = heard_same h (record h { said = h.said ++ []; heads = h.heads ++ []; fault = option_or h.fault None })
    (sym (append-nil h.said)) (sym (append-nil h.heads)) refl (sym (option_or-none h.fault)) refl

hears : (kind : LineKind) (h : Heard) (n : ℕ) (ws : List (List ℕ)) → hear_kind kind h n ws ≡ added kind None h n ws
hears Blank h n ws = nothing_added h
hears Comment h n ws = nothing_added h
hears Head h n ws = keeps (record h {
  heads = h.heads ++ cons_option (name_with_line n (name_opened (block_of ws))) [];
  hostname = cond (begin_with (codes "hostname" ∷ []) ws) (Some (word_at ws 1, n)) h.hostname;
  block =
      block_of ws;
}) n OfOther (head_statement ws)
hears Indented h n ws = keeps h n h.block (statement_in h.block ws)
    ∙ ap (λ hs. record h {
      said = h.said ++ only_if (sets (statement_in h.block ws))
          (record { number = n; block = h.block; statement = statement_in h.block ws });
      heads = hs;
      fault =
          option_or h.fault (at_line n (refused (statement_in h.block ws)));
    }) (sym (append-nil h.heads))

-- a line that isn't too long
pub hears_line : (file : List (List ℕ)) (line : List ℕ) → is_short line ≡ true → hear (heard file) (length file + 1) line ≡ heard (file ++ line ∷ [])
hears_line file line short =
    hears (kind_of line) (heard file) (length file + 1) (words line)
    ∙ sym (heard-push file line ∙ cases (is_short line) short)
  where
    cases : (b : Bool) → b ≡ true →
        added (kind_of (cond b line [])) (cond b None (Some LongLine)) (heard file) (length file + 1)
        (words (cond b line [])) ≡ added (kind_of line) None (heard file) (length file + 1) (words line)
    cases true e = refl
    cases false e = absurd (cc)

-- a line that is too long
pub hears_long : (file : List (List ℕ)) (line : List ℕ) → is_short line ≡ false → with_fault (heard file) (length file + 1) LongLine ≡ heard (file ++ line ∷ [])
hears_long file line long = sym (heard-push file line ∙ cases (is_short line) long)
  where
    cases : (b : Bool) → b ≡ false →
        added (kind_of (cond b line [])) (cond b None (Some LongLine)) (heard file) (length file + 1)
        (words (cond b line [])) ≡ with_fault (heard file) (length file + 1) LongLine
    cases true e = absurd (cc)
    cases false e = heard_same (added Blank (Some LongLine) (heard file) (length file + 1) [])
        (with_fault (heard file) (length file + 1) LongLine) (append-nil (heard file).said)
        (append-nil (heard file).heads) refl refl refl

-- a reader that went over the lines of a text up to some bytes
pub record HeardTo (bytes : List ℕ) (left : TextLeft) (reader : Heard) : Type 0 where
  pub file : List (List ℕ)
  pub split : lines bytes ≡ file ++ lines left.bytes
  pub counted : left.read ≡ length file
  pub longest : left.longest ≡ 4096
  pub kept : reader ≡ heard file

pub heard_none : (bytes : List ℕ) (left : TextLeft) (reader : Heard) →
    left ≡ record { bytes = bytes; read = 0; ended = true; longest = 4096 } →
    reader ≡ record { said = []; heads = []; hostname = None; fault = None; block = OfOther } →
    HeardTo bytes left reader
heard_none bytes left reader start kept = record {
  file = [];
  split = ap (λ (t : TextLeft). lines t.bytes) (sym start);
  counted = ap (λ (t : TextLeft). t.read) start;
  longest = ap (λ (t : TextLeft). t.longest) start;
  kept = kept;
}

more_of : (bytes : List ℕ) (old new : TextLeft) (reader next : Heard) (text : List ℕ)
    (so_far : HeardTo bytes old reader) → GoesOver old new text → next ≡ heard (so_far.file ++ text ∷ []) →
    HeardTo bytes new next
more_of bytes old new reader next text so_far over kept = record {
  file = so_far.file ++ text ∷ [];
  split = so_far.split ∙ ap (λ ls. so_far.file ++ ls) over.first.first ∙ sym (append_assoc so_far.file (text ∷ []) (lines new.bytes));
  counted = over.read ∙ omega (arith, so_far.counted, length-append so_far.file (text ∷ []));
  longest = over.longest ∙ so_far.longest;
  kept = kept;
}

pub heard_more : (bytes : List ℕ) (old new : TextLeft) (reader next : Heard) (line : Line) → HeardTo bytes old reader →
    IsLineRead old new line → next ≡ hear reader line.number line.text.now → HeardTo bytes new next
heard_more bytes old new reader next line so_far is_line step =
    more_of bytes old new reader next line.text.now so_far is_line.0
    (step
    ∙ ap (λ h. hear h line.number line.text.now) so_far.kept
    ∙ ap (λ n. hear (heard so_far.file) n line.text.now) (is_line.1.counted ∙ ap (λ n. n + 1) so_far.counted)
    ∙ hears_line so_far.file line.text.now (le-leb (length line.text.now) 4096 (omega (arith, is_line.1.within, so_far.longest))))

pub heard_long : (bytes : List ℕ) (old new : TextLeft) (reader next : Heard) (long : LongLineRead) →
    HeardTo bytes old reader → IsLongLine old new long → next ≡ with_fault reader long.number LongLine →
    HeardTo bytes new next
heard_long bytes old new reader next long so_far is_long step =
    more_of bytes old new reader next is_long.0 so_far is_long.1
    (step
    ∙ ap (λ h. with_fault h long.number LongLine) so_far.kept
    ∙ ap (λ n. with_fault (heard so_far.file) n LongLine) (is_long.2.counted ∙ ap (λ n. n + 1) so_far.counted)
    ∙ hears_long so_far.file is_long.0 (lt-leb (length is_long.0) 4096 (omega (arith, is_long.2.over, so_far.longest))))

pub heard_all : (bytes : List ℕ) (left : TextLeft) (reader : Heard) → HeardTo bytes left reader → left.bytes ≡ [] → reader ≡ heard (lines bytes)
heard_all bytes left reader so_far done =
    so_far.kept ∙ ap heard (sym (so_far.split ∙ ap (λ b. so_far.file ++ lines b) done ∙ append-nil so_far.file))
