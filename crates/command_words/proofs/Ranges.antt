-- The ranges of numbers in jobs.
use Rattle.std.proofs.Common.{◌≡◌, ◌∙◌, Result, Ok, Err, IfOk, ◌≤◌, ℕ, Bool, cond, true, false, List, [], ◌∷◌, Option, Some, None, IfSome, option_and_then, option_map, codes, refl, subst, arith}
use Rattle.std.specs.Prelude.{nat_le}
use Rattle.text_lines.specs.Numbers.{number, quad}
use Rattle.text_lines.proofs.NumberLaws.{number_within-le}
use Rattle.command_words.specs.declared.job.Job.{Job}
use Rattle.command_words.specs.declared.job.WordsStop.{WordsStop}
use Rattle.command_words.specs.Forms.{Answers}
use Rattle.command_words.specs.Jobs.{seen, Text, JobRead, SearchRead, IsInRange, Design, Check, Audit, Rewrite, Trial, Conflict, Spread, Total, Change, Steps, Compare, Lsas, Route, Help}
use Rattle.command_words.specs.Commands.{CommandRow, Found, search_of, job_of, job_of_row, row_of, command_named, takes_words, found_in, option_value, configs_found, number_between, number_or, from_low, of_two, of_three, trial_job}
use Rattle.command_words.specs.Commands.{of_five, nodes_found, step_unit, steps_job, topic_of}
use Rattle.command_words.specs.declared.job.CommandName.{CommandName}
use Rattle.command_words.specs.declared.job.CommandName.TheVariants as name

two_in : {A B : Type 0} (whole : A → B → JobRead) (a : Option A) (b : Option B)
    → ((x : A) (y : B) → a ≡ Some x → b ≡ Some y → IsInRange (whole x y)) → IfSome (of_two whole a b) IsInRange
two_in whole None b h = tt
two_in whole (Some x) None h = tt
two_in whole (Some x) (Some y) h = h x y refl refl

three_in : {A B C : Type 0} (whole : A → B → C → JobRead) (a : Option A) (b : Option B) (c : Option C)
    → ((x : A) (y : B) (z : C) → IsInRange (whole x y z)) → IfSome (of_three whole a b c) IsInRange
three_in whole None b c h = tt
three_in whole (Some x) None c h = tt
three_in whole (Some x) (Some y) None h = tt
three_in whole (Some x) (Some y) (Some z) h = h x y z

five_in : {A B C D E : Type 0} (whole : A → B → C → D → E → JobRead)
    (a : Option A) (b : Option B) (c : Option C) (d : Option D) (e : Option E)
    → ((x : A) (y : B) (z : C) (u : D) (v : E) → c ≡ Some z → IsInRange (whole x y z u v))
    → IfSome (of_five whole a b c d e) IsInRange
five_in whole None b c d e h = tt
five_in whole (Some x) None c d e h = tt
five_in whole (Some x) (Some y) None d e h = tt
five_in whole (Some x) (Some y) (Some z) None e h = tt
five_in whole (Some x) (Some y) (Some z) (Some u) None h = tt
five_in whole (Some x) (Some y) (Some z) (Some u) (Some v) h = h x y z u v refl

search_in : (whole : SearchRead → JobRead) (o : Option SearchRead) → ((s : SearchRead) → IsInRange (whole s)) → IfSome (option_map whole o) IsInRange
search_in whole None h = tt
search_in whole (Some s) h = h s

pub between_in : (low high : ℕ) (text : Text) (n : ℕ) → number_between low high text ≡ Some n → (low ≤ n) × (n ≤ high)
between_in low high text n is = go (number text high) (number_within-le 10 high text) is
  where
    same : (b : Bool) (m : ℕ) → nat_le low m ≡ b → (m ≤ high) → cond b (Some m) None ≡ Some n → (low ≤ n) × (n ≤ high)
    same true m le most e = grind arith
    same false m le most e = absurd cc

    go : (o : Option ℕ) → ((m : ℕ) → o ≡ Some m → m ≤ high) → from_low low o ≡ Some n → (low ≤ n) × (n ≤ high)
    go None most e = absurd cc
    go (Some m) most e = same (nat_le low m) m refl (most m refl) e

pub or_in : (default low high : ℕ) (o : Option Text) (n : ℕ) → low ≤ default → default ≤ high → number_or default low high o ≡ Some n → (low ≤ n) × (n ≤ high)
or_in default low high None n least most is = grind arith
or_in default low high (Some text) n least most is = between_in low high text n is

must_in : (low high : ℕ) (o : Option Text) (n : ℕ) → option_and_then (number_between low high) o ≡ Some n → (low ≤ n) × (n ≤ high)
must_in low high None n is = absurd cc
must_in low high (Some text) n is = between_in low high text n is

trial_in : (found : Found) → IfSome (trial_job found) IsInRange
trial_in found =
    two_in Trial (option_and_then (number_between 1 125) (option_value (codes "blocks") found))
    (number_or 1 0 2147483647 (option_value (codes "start") found))
    (λ blocks start blocks_is start_is.
    let most = must_in 1 125 (option_value (codes "blocks") found) blocks blocks_is in
    let last = or_in 1 0 2147483647 (option_value (codes "start") found) start (omega arith) (omega arith) start_is in
    (most.0, most.1, omega arith))

steps_in : (found : Found) → IfSome (steps_job found) IsInRange
steps_in found =
    five_in Steps (option_value (codes "request") found) (option_value (codes "answer") found) (nodes_found found)
    (step_unit (option_value (codes "by") found)) (configs_found found)
    (λ request answer nodes by configs is.
    or_in 100000 1 10000000 (option_value (codes "nodes") found) nodes (omega arith) (omega arith) is)

help_in : (o : Option (Option CommandName)) → IfSome (option_map Help o) IsInRange
help_in None = tt
help_in (Some topic) = tt

abbrev InRange : CommandRow → Type 0
InRange form = (found : Found) → IfSome (form.job found) IsInRange

row_in : (n : CommandName) → InRange (row_of n)
row_in name.Design found = search_in Design (search_of found) (λ s. tt)
row_in name.Check found =
    three_in Check (option_value (codes "request") found) (option_value (codes "answer") found) (configs_found found) (λ x y z. tt)
row_in name.Audit found =
    two_in (λ request configs. Audit request (option_value (codes "live") found) configs) (option_value (codes "request") found)
    (configs_found found) (λ x y e f. tt)
row_in name.Rewrite found =
    two_in Rewrite (option_value (codes "answer") found) (option_value (codes "CONFIG") found) (λ x y e f. tt)
row_in name.Trial found = trial_in found
row_in name.Conflict found = search_in Conflict (search_of found) (λ s. tt)
row_in name.Spread found = two_in Spread (search_of found) (option_value (codes "sets") found) (λ x y e f. tt)
row_in name.Total found = search_in Total (search_of found) (λ s. tt)
row_in name.Change found = search_in Change (search_of found) (λ s. tt)
row_in name.Steps found = steps_in found
row_in name.Compare found =
    three_in Compare (option_value (codes "live") found) (option_value (codes "request") found) (configs_found found) (λ x y z. tt)
row_in name.Lsas found = two_in Lsas (option_value (codes "request") found) (configs_found found) (λ x y e f. tt)
row_in name.Route found =
    three_in Route (option_value (codes "lsas") found) (option_and_then quad (option_value (codes "from") found))
    (option_and_then quad (option_value (codes "to") found)) (λ x y z. tt)
row_in name.Help found = help_in (topic_of (option_value (codes "COMMAND") found))
row_in name.Version found = tt

row_job_in : (form : CommandRow) (words : List Text) → InRange form → IfSome (job_of_row form words) IsInRange
unfolding job_of_row
row_job_in form words h = go (takes_words form words)
  where
    go : (b : Bool) → IfSome (cond b (form.job (found_in form words)) None) IsInRange
    go true = h (found_in form words)
    go false = tt

named_in : (words : List Text) (o : Option CommandName) → IfSome (option_and_then (λ n. job_of_row (row_of n) words) o) IsInRange
named_in words None = tt
named_in words (Some n) = row_job_in (row_of n) words (row_in n)

-- the numbers of each job are within their ranges
pub job_in : (words : List Text) → IfSome (job_of words) IsInRange
unfolding job_of
job_in [] = tt
job_in (command ∷ others) = named_in (command ∷ others) (command_named command)

-- so a job that words ask for has them there
pub asked_in : (words : List Text) (job : JobRead) → job_of words ≡ Some job → IsInRange job
asked_in words job is = let P : Option JobRead → Type 0 = λ o. IfSome o IsInRange in subst P is (job_in words)

-- and a job that was read has them there
pub answered_in : (words : List Text) (part : Option JobRead) (r : Result Job WordsStop) → job_of words ≡ part → Answers part seen r
    → IfOk r (λ job. IsInRange (seen job))
answered_in words part (Ok job) is h = asked_in words (seen job) (is ∙ h)
answered_in words part (Err stop) is h = tt
