use Rattle.std.{proofs.{Common.{List, leb, ltb, rules}, lemmas.List.Sorted.{IsPartitionedBy-leb, IsPartitionedBy-ltb, IsPartitionPoint-from_clause, IsNonDecreasingBy-take}}, specs.List.Sorted.IsNonDecreasingBy}
use Rattle.schedule.{specs.declared.hop.Hop.Hop, proofs.Steps.{step_found, steps_ascend}}
use Rattle.schedule.proofs.schedule.Schedule.sends_of.Goals as goal

pub returns-clause-sends : goal.returns-clause-sends
returns-clause-sends c =
    let sends : List Hop = c.as_slice-sends.result.now in
    let until : List Hop = c.split_at.result.0.now in
    let ascend : IsNonDecreasingBy (λ (h : Hop). h.step) sends = rw c.as_slice-sends.ensures.value (steps_ascend _ c.self.invariant.ascending) in
    let ascend_until : IsNonDecreasingBy (λ (h : Hop). h.step) until = rw c.split_at.ensures.front (IsNonDecreasingBy-take (λ (h : Hop). h.step) _ sends ascend) in
    let late = IsPartitionPoint-from_clause (λ (h : Hop). leb h.step c.args.step) sends _ c.partition_point.ensures.partitioned (IsPartitionedBy-leb (λ (h : Hop). h.step) sends c.args.step ascend) (λ a r q k. search rules) in
    let early = IsPartitionPoint-from_clause (λ (h : Hop). ltb h.step c.args.step) until _ c.partition_point-2.ensures.partitioned (IsPartitionedBy-ltb (λ (h : Hop). h.step) until c.args.step ascend_until) (λ a r q k. search rules) in
    rw (← c.self.view_is) (step_found _ sends until _ c.args.step _ _ c.as_slice-sends.ensures.value c.split_at.ensures.front c.split_at-2.ensures.back c.partition_point.ensures.bound c.partition_point-2.ensures.bound late early)
