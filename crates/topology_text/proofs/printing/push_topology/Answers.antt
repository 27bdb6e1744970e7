use Rattle.std.{proofs.{Common.{◌≡◌, ◌++◌, ℕ, List, subst, ◌∙◌}, lemmas.Result.on_err_weaker}, specs.Result.OnOk}
use Rattle.topology_text.proofs.Printed.{kept_same}
use Rattle.topology_text.proofs.printing.push_topology.Goals as goal

pub returns-clause-appended : goal.returns-clause-appended
returns-clause-appended c = subst (λ (text : List ℕ). OnOk c.push_word.result (c.push_word.new.out.items ≡ c.args.out.now.items ++ text)) (c.deref.ensures.value ∙ c.in_ok-text.ensures.spelled) c.push_word.ensures.appended

pub returns-clause-kept : goal.returns-clause-kept
returns-clause-kept c = on_err_weaker c.push_word.result (kept_same c.push_word.new.out.items c.args.out.now.items) c.push_word.ensures.unchanged
