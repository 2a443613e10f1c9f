-- The names of the commands, and the options of one, one after the other.
use Rattle.std.proofs.Common.{◌≡◌, ◌∙◌, ◌<◌, ◌+◌, ℕ, Bool, Bor, cond, false, zero, suc, List, [], ◌∷◌, length, drop, map, Option, Some, sym, ap, arith}
use Rattle.std.specs.Prelude.{find}
use Rattle.std.specs.List.{slice_index_or}
use Rattle.cost_base.specs.Lists.{same_bytes}
use Rattle.command_words.specs.declared.job.CommandName.{CommandName}
use Rattle.command_words.specs.Jobs.{Text}
use Rattle.clap.specs.Simple.{App, with_rule}
use Rattle.command_words.specs.Commands.{word_of, option, with_rules}
use Rattle.command_words.specs.Forms.{now_texts}

-- where the first name left is another one, the word names one behind it
pub next_name : (names : List CommandName) (word : Text) (i : ℕ) (d : CommandName) (o : Option CommandName) → i < length names
    → same_bytes (word_of (slice_index_or names i d)) word ≡ false
    → find (λ n. same_bytes (word_of n) word) (drop i names) ≡ o
    → find (λ n. same_bytes (word_of n) word) (drop (i + 1) names) ≡ o
next_name [] word i d o lt differs left = absurd (omega arith)
next_name (n ∷ names) word zero d o lt differs left =
    ap (λ b. cond b (Some n) (find (λ n. same_bytes (word_of n) word) names)) (sym differs) ∙ left
next_name (n ∷ names) word (suc i) d o lt differs left =
    let same : suc i + 1 ≡ suc (i + 1) = omega arith in
    ap (λ k. find (λ n. same_bytes (word_of n) word) (drop k (n ∷ names))) same
    ∙ next_name names word i d o (omega arith) differs left

-- the command with one more option of those that are left
pub next_option : (app : App) (must : Bool) (i : ℕ) (names : List (Bor Text)) (d : Bor Text) → i < length names
    → {next whole : App} → next ≡ with_rule app (option must (slice_index_or names i d).now)
    → with_rules app (map (option must) (now_texts (drop i names))) ≡ whole
    → with_rules next (map (option must) (now_texts (drop (i + 1) names))) ≡ whole
next_option app must i [] d lt more left = absurd (omega arith)
next_option app must zero (n ∷ names) d lt more left =
    ap (λ a. with_rules a (map (option must) (now_texts names))) more ∙ left
next_option app must (suc i) (n ∷ names) d lt {next} {whole} more left =
    let same : suc i + 1 ≡ suc (i + 1) = omega arith in
    ap (λ k. with_rules next (map (option must) (now_texts (drop k (n ∷ names))))) same
    ∙ next_option app must i names d (omega arith) more left
