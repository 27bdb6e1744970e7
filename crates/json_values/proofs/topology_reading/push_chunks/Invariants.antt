use Rattle.std.proofs.Common.{◌≡◌, drop}
use Rattle.json_values.proofs.Appended.{with_chunks}
use Rattle.json_values.proofs.topology_reading.push_chunks.Given as goal

-- what is there so far, with the chunks that are left, is what was there with all chunks
abbrev pub invariant-loop-chunk : goal.invariant-loop-chunk
invariant-loop-chunk l = with_chunks 0 l.initial.out.items l.before l.after ≡ with_chunks l.chunk l.out.items (drop l.chunk l.before) (drop l.chunk l.after)
