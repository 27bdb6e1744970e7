use Rattle.std.proofs.Common.{◌≡◌, ◌≤◌, length, take, vec_len}
use Rattle.lrat_checker.specs.inner.Marking.{IsCounted}
use Rattle.lrat_checker.proofs.marks.Marks.back_to.Given as goal

abbrev pub invariant-loop-self : goal.invariant-loop-self
invariant-loop-self l = record {
  counted : IsCounted l.self-inside.vars l.self-inside.counts.items l.self-inside.marked.items;
  front : l.self-inside.marked.items ≡ take (length l.self-inside.marked.items) l.initial.self-inside.marked.items;
  long : l.len ≤ length l.self-inside.marked.items;
  vars : l.self-inside.vars ≡ l.initial.self-inside.vars;
}

abbrev pub decreases-loop-self : goal.decreases-loop-self
decreases-loop-self l = vec_len l.self-inside.marked
