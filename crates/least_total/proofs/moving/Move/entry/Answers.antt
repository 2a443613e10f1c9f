-- An entry that is no Refute keeps its parts.
use Rattle.std.proofs.Common.{ℕ, ◌∙◌, sym, subst, inl, inr}
use Rattle.std.proofs.lemmas.Result.{IfOk-weaker}
use Rattle.printed_rows.specs.NamedRows.{NamesBelow}
use Rattle.least_total.proofs.MovedTrees.{IsOther, moved_counted, moved_other, order_other}
use Rattle.least_total.proofs.moving.Move.entry.Goals as goal
use Rattle.least_total.proofs.moving.Move.entry.Goals.{In-Tighten}

is_other : (c : In-Tighten) → IsOther c.args.entry.now
is_other c = elim c.in-Tighten.is [
  | inl t ↦ subst IsOther (sym t.4) tt
  | inr others ↦ elim others [
    | inl s ↦ subst IsOther (sym s.2) tt
    | inr more ↦ elim more [
      | inl h ↦ subst IsOther (sym h.3) tt
      | inr u ↦ subst IsOther (sym u) tt
    ]
  ]
]

pub renumbered_entry-requires-clause-known : goal.renumbered_entry-requires-clause-known
renumbered_entry-requires-clause-known c =
    subst (λ (n : ℕ). NamesBelow n c.args.entry.now)
    (sym (moved_counted c.args.self.place c.args.self.others c.args.numbers.now c.requires.numbers)) c.requires.known

pub renumbered_entry-requires-clause-order : goal.renumbered_entry-requires-clause-order
renumbered_entry-requires-clause-order c = order_other c.args.numbers.now c.args.entry.now (is_other c)

pub returns-in-Tighten : goal.returns-in-Tighten
returns-in-Tighten c =
    IfOk-weaker c.renumbered_entry.result _ _
    (λ new same. same ∙ moved_other c.args.self.place c.args.self.others c.args.numbers.now c.args.entry.now
    c.requires.numbers c.requires.known (is_other (goal.at.returns-in-Tighten c).In-Tighten))
    c.renumbered_entry.ensures
