use Rattle.std.proofs.Common.{◌∙◌, IsTrue, ℕ, List, subst}
use Rattle.case_table.{specs.Rows.is_one_to_one, proofs.Tables.{value_shown, value_some, value_none, value_undone}}
use Rattle.case_table.proofs.table.Table.find.Goals as goal

pub returns-clause-value : goal.returns-clause-value
returns-clause-value c = c.value_in.ensures ∙ value_shown c.self.inside.rows.now _ _ c.self.view_is

pub returns-clause-some : goal.returns-clause-some
returns-clause-some c = rw (returns-clause-value c) (value_some c.args.self.now c.args.word.now)

pub returns-clause-none : goal.returns-clause-none
returns-clause-none c = rw (returns-clause-value c) (value_none c.args.self.now c.args.word.now)

pub returns-clause-undone : goal.returns-clause-undone
returns-clause-undone c =
    let distinct : IsTrue (is_one_to_one c.args.self.now) = subst (λ (rows : List (List ℕ × ℕ)). IsTrue (is_one_to_one rows)) c.self.view_is c.self.invariant in
    value_undone _ _ _ distinct (returns-clause-some c)
