use Rattle.std.{proofs.Common.{◌≡◌, ◌+◌, ◌≤◌, count_by}, specs.List.range_with_len}
use Rattle.cnf_formula.specs.Literals.{is_true}
use Rattle.round_encoding.specs.Frames.{extra_round}
use Rattle.round_encoding.proofs.schedule_said.rounds_said.Given as goal

abbrev pub invariant-loop-index : goal.invariant-loop-index
invariant-loop-index l = (l.said ≡ 1 + count_by (λ j. is_true l.assignment (extra_round (record { map = l.map; extra = l.extra }) l.step j)) (range_with_len 1 l.index)) × (l.said ≤ 1 + l.index)
