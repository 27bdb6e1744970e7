use Rattle.std.proofs.Common.{◌≡◌, ◌≤◌, [], length}
use Rattle.topology_text.specs.Reading.{names_from}
use Rattle.topology_text.proofs.nodes_line.names_of.Given as goal

abbrev pub invariant-loop-word : goal.invariant-loop-word
invariant-loop-word l = record { read : names_from l.names.keys l.tokens.words ≡ names_from [] l.initial.tokens.words; few : length l.names.keys ≤ 16 }

abbrev pub decreases-loop-word : goal.decreases-loop-word
decreases-loop-word l = length l.tokens.words
