-- From the values that a row finds to the job of its words.
use Rattle.std.proofs.Common.{◌≡◌, ◌∙◌, cond, true, false, List, [], ◌∷◌, Option, Some, None, Result, Ok, Err, IsErrAnd, MatchOption, option_and_then, sym, ap, subst, length, arith}
use Rattle.std.specs.declared.string.String.{String}
use Rattle.std.specs.declared.alloc.Global.{Global}
use Rattle.text_lines.specs.Arguments.{texts}
use Rattle.command_words.specs.declared.job.Job.{Job}
use Rattle.command_words.specs.declared.job.WordsStop.{WordsStop}
use Rattle.command_words.specs.declared.job.WordsStop.TheVariants.{Refused}
use Rattle.command_words.specs.declared.job.CommandName.{CommandName}
use Rattle.command_words.specs.Jobs.{Text, seen}
use Rattle.command_words.specs.Commands.{CommandRow, Found, found_in, job_of, job_of_row, row_of, command_named, takes_words}
use Rattle.command_words.specs.Forms.{Answers}

-- words that the row's simple command doesn't take have no job
pub refused_row : (form : CommandRow) (words : List Text) (r : Result Job WordsStop) (e : WordsStop) → IsErrAnd r (λ y. y ≡ e)
    → (e ≡ Refused → takes_words form words ≡ false) → Answers (job_of_row form words) seen r
unfolding job_of_row
refused_row form words (Ok job) e is h = absurd is
refused_row form words (Err y) e is h = λ refused. ap (λ b. cond b (form.job (found_in form words)) None) (h (sym is ∙ refused))

-- words that it takes have the job of the values that it finds
pub taken_row : (form : CommandRow) (words : List Text) (found : Found) (r : Result Job WordsStop) → takes_words form words ≡ true
    → found ≡ found_in form words → Answers (form.job found) seen r → Answers (job_of_row form words) seen r
unfolding job_of_row
taken_row form words found r takes same h =
    let is : form.job found ≡ job_of_row form words =
    ap form.job same ∙ sym (ap (λ b. cond b (form.job (found_in form words)) None) takes) in
    subst (λ part. Answers part seen r) is h

-- the first word picks the row
pub named_row : (word : Text) (others : List Text) (o : Option CommandName) → o ≡ command_named word
    → MatchOption o (job_of (word ∷ others) ≡ None) (λ n. job_of (word ∷ others) ≡ job_of_row (row_of n) (word ∷ others))
unfolding job_of
named_row word others None is = ap (option_and_then (λ n. job_of_row (row_of n) (word ∷ others))) (sym is)
named_row word others (Some n) is = ap (option_and_then (λ n. job_of_row (row_of n) (word ∷ others))) (sym is)

-- no words, no job
pub no_words : (words : List (String Global)) → length words ≡ 0 → job_of (texts words) ≡ None
unfolding job_of
no_words [] none = λ i. None
no_words (w ∷ ws) none = absurd (omega arith)
