use Rattle.std.{proofs.Common.{◌≡◌, ◌++◌, drop}, specs.Vec.Iter.into_iter_items}
use Rattle.system_calls.proofs.words.behind_name.Given as goal

abbrev pub invariant-loop-word : goal.invariant-loop-word
invariant-loop-word l = l.words.items ++ into_iter_items l.word-iterator ≡ drop 1 (into_iter_items l.fn.args)
