-- The path is one too many, or keeps the rules.
use Rattle.std.proofs.Common.{List, refl, subst, sym}
use Rattle.request_reader.specs.declared.DirectiveLine.{DirectiveLine}
use Rattle.request_reader.specs.ReadingSteps.{KeepsTold}
use Rattle.request_reader.proofs.ReadingPaths.{counted_now, line_told, path_kept, path_lawful, path_refused}
use Rattle.request_reader.proofs.reading.reader.Reader.take_path.Goals as goal

pub returns-then-self-ge-MOST_PATHS-clause-refused : goal.returns-then-self-ge-MOST_PATHS-clause-refused
returns-then-self-ge-MOST_PATHS-clause-refused c =
    path_refused c.args.self.now c.args.path.line c.args.path.what c.self.inside.paths c.at.result
    (counted_now c.self.inside.area c.self.inside.default_cost c.self.inside.items.items
    c.args.self.now c.self.inside.paths c.self.view_is c.self.invariant.counted)
    c.if-self-ge-MOST_PATHS.true c.requires.path (rw c.at.ensures refl)

pub returns-clause-taken : goal.returns-clause-taken
returns-clause-taken c =
    path_lawful c.args.self.now c.args.path.what c.self.inside.paths
    (counted_now c.self.inside.area c.self.inside.default_cost c.self.inside.items.items
    c.args.self.now c.self.inside.paths c.self.view_is c.self.invariant.counted)
    c.if-self-ge-MOST_PATHS.false

pub invariant_of-self : goal.invariant_of-self
invariant_of-self c =
    subst (λ (items : List DirectiveLine). KeepsTold c.self.inside.default_cost c.self.inside.paths items)
    (sym c.in_err-push_last.ensures.kept) c.self.invariant

pub invariant_of-self-2 : goal.invariant_of-self-2
invariant_of-self-2 c =
    path_kept c.self.inside.default_cost c.self.inside.paths c.self.inside.items.items c.push_last.new.things.items c.args.path
    c.self.invariant c.requires.bounds c.requires.path c.if-self-ge-MOST_PATHS.false c.in_ok-push_last.ensures.added

pub returns-clause-told : goal.returns-clause-told
returns-clause-told c =
    line_told c.self.inside.area c.self.inside.default_cost c.self.inside.items.items
    c.push_last.new.things.items c.args.path c.args.self.now c.self.view_is c.in_ok-push_last.ensures.added
