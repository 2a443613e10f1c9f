-- The names of a trial's files are ASCII, and so UTF-8; they are as many as its texts.
use Rattle.std.proofs.Common.{◌≡◌, ℕ, zero, suc, ◌+◌, ◌<◌, ◌≤◌, List, [], ◌∷◌, ◌++◌, length, drop, get_or, true, refl, sym, ◌∙◌, ap, arith, append_assoc, length-append}
use Rattle.std.specs.Prelude.{All, codes}
use Rattle.std.specs.List.{list_all, zip}
use Rattle.std.proofs.Math.Seq.{drop-cons}
use Rattle.std.specs.Str.{IsAscii, IsUtf8}
use Rattle.std.proofs.Math.Dec.{leb}
use Rattle.std.proofs.lemmas.Bool.{and_parts, leb-true}
use Rattle.std.proofs.lemmas.List.Elements.{All-nil, All-cons, All-append}
use Rattle.std.proofs.lemmas.Str.{IsAscii-append, IsUtf8-from_ascii}
use Rattle.std.proofs.lemmas.Str.Ascii.{IsAscii-nil, IsAscii-cons}
use Rattle.cost_base.specs.Decimal.{decimal, is_digit}
use Rattle.text_lines.proofs.Printed.{decimal-digits}
use Rattle.trial_maker.specs.TrialTexts.{block_configs, block_files, trial_configs, file_name, file_names, joint, lower_router, over_blocks, upper_router}

-- digits are ASCII
digits_ascii : (bs : List ℕ) → list_all is_digit bs ≡ true → IsAscii bs
digits_ascii [] all = IsAscii-nil
digits_ascii (b ∷ bs) all =
    let here = and_parts (is_digit b) (list_all is_digit bs) all in
    let range = and_parts (leb 48 b) (leb b 57) here.0 in
    let most : b ≤ 57 = leb-true b 57 range.1 in
    IsAscii-cons b bs (omega arith) (digits_ascii bs here.1)

conf_ascii : IsAscii (codes ".conf")
conf_ascii =
    IsAscii-cons 46 (99 ∷ 111 ∷ 110 ∷ 102 ∷ []) (omega arith)
    (IsAscii-cons 99 (111 ∷ 110 ∷ 102 ∷ []) (omega arith)
    (IsAscii-cons 111 (110 ∷ 102 ∷ []) (omega arith)
    (IsAscii-cons 110 (102 ∷ []) (omega arith)
    (IsAscii-cons 102 [] (omega arith) IsAscii-nil))))

-- a letter, a number and `.conf`
numbered_name : (letter i : ℕ) → letter < 128 → IsUtf8 (file_name (letter ∷ decimal i))
numbered_name letter i small =
    IsUtf8-from_ascii (file_name (letter ∷ decimal i))
    (IsAscii-append (letter ∷ decimal i) (codes ".conf") (IsAscii-cons letter (decimal i) small (digits_ascii (decimal i) (decimal-digits i))) conf_ascii)

block_names : (i : ℕ) → All IsUtf8 (block_files i)
block_names i =
    All-cons IsUtf8 (file_name (upper_router i)) (file_name (lower_router i) ∷ file_name (joint (i + 1)) ∷ []) (numbered_name 117 i (omega arith))
    (All-cons IsUtf8 (file_name (lower_router i)) (file_name (joint (i + 1)) ∷ []) (numbered_name 108 i (omega arith))
    (All-cons IsUtf8 (file_name (joint (i + 1))) [] (numbered_name 106 (i + 1) (omega arith)) (All-nil IsUtf8)))

over_names : (n : ℕ) → All IsUtf8 (over_blocks block_files n)
over_names zero = All-nil IsUtf8
over_names (suc n) = All-append IsUtf8 (over_blocks block_files n) (block_files n) (over_names n) (block_names n)

pub names_utf8 : (blocks : ℕ) → All IsUtf8 (file_names blocks)
names_utf8 blocks = All-cons IsUtf8 (file_name (joint 0)) (over_blocks block_files blocks) (numbered_name 106 0 (omega arith)) (over_names blocks)

-- one more file of the names and the texts that are left
pub files_turn : (names texts : List (List ℕ)) (files more all : List (List ℕ × List ℕ)) (i : ℕ)
    (d e name text : List ℕ) (file : List ℕ × List ℕ) → i < length names → i < length texts →
    more ≡ files ++ file ∷ [] → file ≡ (name, text) → name ≡ get_or names i d → text ≡ get_or texts i e →
    files ++ zip (drop i names) (drop i texts) ≡ all → more ++ zip (drop (i + 1) names) (drop (i + 1) texts) ≡ all
files_turn names texts files more all i d e name text file in_names in_texts pushed is name_is text_is so_far =
    let next : i + 1 ≡ suc i = omega arith in
    let one : zip (drop i names) (drop i texts) ≡ (name, text) ∷ zip (drop (suc i) names) (drop (suc i) texts)
    = ap (λ (ns : List (List ℕ)). zip ns (drop i texts)) (drop-cons names i d in_names)
    ∙ ap (λ (ts : List (List ℕ)). zip (get_or names i d ∷ drop (suc i) names) ts) (drop-cons texts i e in_texts)
    ∙ ap (λ (x : List ℕ). (x, get_or texts i e) ∷ zip (drop (suc i) names) (drop (suc i) texts)) (sym name_is)
    ∙ ap (λ (y : List ℕ). (name, y) ∷ zip (drop (suc i) names) (drop (suc i) texts)) (sym text_is) in
    ap (λ (fs : List (List ℕ × List ℕ)). fs ++ zip (drop (i + 1) names) (drop (i + 1) texts)) (pushed ∙ ap (λ (f : List ℕ × List ℕ). files ++ f ∷ []) is)
    ∙ ap (λ n. (files ++ (name, text) ∷ []) ++ zip (drop n names) (drop n texts)) next
    ∙ append_assoc files ((name, text) ∷ []) (zip (drop (suc i) names) (drop (suc i) texts))
    ∙ ap (λ (fs : List (List ℕ × List ℕ)). files ++ fs) (sym one)
    ∙ so_far

over_length : {X Y : Type 0} (f : ℕ → List X) (g : ℕ → List Y) (n : ℕ) → ((i : ℕ) → length (f i) ≡ length (g i)) →
    length (over_blocks f n) ≡ length (over_blocks g n)
over_length f g zero same = refl
over_length f g (suc n) same = omega (arith, length-append (over_blocks f n) (f n), length-append (over_blocks g n) (g n), over_length f g n same, same n)

-- a trial has a text for each name
pub names_as_texts : (blocks : ℕ) → length (file_names blocks) ≡ length (trial_configs blocks)
names_as_texts blocks = ap suc (over_length block_files (block_configs blocks) blocks (λ i. refl))
