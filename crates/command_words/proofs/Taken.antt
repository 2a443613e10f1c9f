-- The simple commands of the table, and the words that they take.
use Rattle.std.proofs.Common.{◌≡◌, ◌⊎◌, true, false, [], ◌∷◌, refl, inl, inr, rules}
use Rattle.clap.specs.Kinds.{Kinds, IsAmong}
use Rattle.clap.specs.Walk.{is_empty}
use Rattle.clap.specs.Simple.{is_simple}
use Rattle.clap.specs.Faults.{is_simple_and_free}
use Rattle.clap.specs.declared.error.kind.ErrorKind.{ErrorKind}
use Rattle.clap.specs.declared.error.kind.ErrorKind.TheVariants.{OutOfMemory}
use Rattle.command_words.specs.declared.job.CommandName.{CommandName}
use Rattle.command_words.specs.declared.job.CommandName.TheVariants as name
use Rattle.command_words.specs.Commands.{app_of_row, row_of}

-- no option of the table has a rule on another
pub free_row : (n : CommandName) → is_simple_and_free (app_of_row (row_of n)) ≡ true
free_row name.Design = refl
free_row name.Check = refl
free_row name.Audit = refl
free_row name.Rewrite = refl
free_row name.Trial = refl
free_row name.Conflict = refl
free_row name.Spread = refl
free_row name.Total = refl
free_row name.Change = refl
free_row name.Steps = refl
free_row name.Compare = refl
free_row name.Lsas = refl
free_row name.Route = refl
free_row name.Help = refl
free_row name.Version = refl

-- each command of the table is simple
pub simple_row : (n : CommandName) → is_simple (app_of_row (row_of n)) ≡ true
simple_row name.Design = refl
simple_row name.Check = refl
simple_row name.Audit = refl
simple_row name.Rewrite = refl
simple_row name.Trial = refl
simple_row name.Conflict = refl
simple_row name.Spread = refl
simple_row name.Total = refl
simple_row name.Change = refl
simple_row name.Steps = refl
simple_row name.Compare = refl
simple_row name.Lsas = refl
simple_row name.Route = refl
simple_row name.Help = refl
simple_row name.Version = refl

-- an error that isn't want of memory is a fault of the words
pub some_fault : (kinds : Kinds) (k : ErrorKind) → (k ≡ OutOfMemory) ⊎ IsAmong k kinds → (k ≡ OutOfMemory → ⊥) → is_empty kinds ≡ false
some_fault [] k h other = elim h [ inl e ↦ absurd (other e) | inr among ↦ absurd among ]
some_fault (x ∷ xs) k h other = search rules
