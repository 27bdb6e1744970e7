use Rattle.std.proofs.Common.{[], refl}
use Rattle.proof_audit.proofs.Verdicts.{of_result, some_text}
use Rattle.proof_audit.proofs.files.formula_file.Goals as goal

-- no text of a formula is empty
pub returns-clause-some : goal.returns-clause-some
returns-clause-some g c = of_result _ [] c.judge_file.result refl (λ e. some_text c.args.formula.now _ c.in_ok-text.text.items _ c.in_ok-text.ensures c.new-judge.ensures.passes (c.judge_file.ensures.some e))
