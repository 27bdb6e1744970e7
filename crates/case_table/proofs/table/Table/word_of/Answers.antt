use Rattle.std.{proofs.Common.{◌≡◌, ◌≢◌, ◌∙◌, IsTrue, ℕ, List, subst, ap, All, Contains, Some}, specs.Option.option_copied}
use Rattle.case_table.{specs.Rows.{is_one_to_one, value_at, word_at}, proofs.Tables.{word_shown, word_some, word_none, word_undone, lent_some, lent_none}}
use Rattle.case_table.proofs.table.Table.word_of.Goals as goal

pub returns-clause-word : goal.returns-clause-word
returns-clause-word c = ap option_copied c.word_in.ensures ∙ word_shown c.self.inside.rows.now _ _ c.self.view_is

pub returns-clause-some : goal.returns-clause-some
returns-clause-some c =
    lent_some (λ (word : List ℕ). Contains c.args.self.now (word, c.args.value)) c.word_in.result (rw (returns-clause-word c) (word_some c.args.self.now c.args.value))

pub returns-clause-none : goal.returns-clause-none
returns-clause-none c =
    lent_none (All (λ (row : List ℕ × ℕ). row.1 ≢ c.args.value) c.args.self.now) c.word_in.result (rw (returns-clause-word c) (word_none c.args.self.now c.args.value))

pub returns-clause-undone : goal.returns-clause-undone
returns-clause-undone c =
    let distinct : IsTrue (is_one_to_one c.args.self.now) = subst (λ (rows : List (List ℕ × ℕ)). IsTrue (is_one_to_one rows)) c.self.view_is c.self.invariant in
    lent_some (λ (word : List ℕ). value_at c.args.self.now word ≡ Some c.args.value) c.word_in.result (rw (returns-clause-word c) (word_undone c.args.self.now c.args.value (word_at c.args.self.now c.args.value) distinct (word_some c.args.self.now c.args.value)))
