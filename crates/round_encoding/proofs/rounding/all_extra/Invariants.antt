use Rattle.std.{proofs.Common.{◌≡◌, ◌+◌, ◌++◌, map}, specs.List.{flat_map, range_with_len}}
use Rattle.round_encoding.specs.Frames.{extra_round}
use Rattle.round_encoding.proofs.rounding.all_extra.Given as goal

abbrev pub invariant-loop-index : goal.invariant-loop-index
invariant-loop-index l = l.inputs.items ≡ flat_map (λ s. map (extra_round (record { map = l.variables; extra = l.extra }) s) (range_with_len 1 l.extra)) (range_with_len 1 l.index)

abbrev pub invariant-loop-number : goal.invariant-loop-number
invariant-loop-number l = l.inputs.items ≡ l.initial.inputs.items ++ map (extra_round (record { map = l.variables; extra = l.extra }) (l.index + 1)) (range_with_len 1 l.number)
