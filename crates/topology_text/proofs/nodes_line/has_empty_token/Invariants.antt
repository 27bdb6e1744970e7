use Rattle.std.proofs.Common.{◌≡◌, length}
use Rattle.topology_text.specs.Reading.{has_empty}
use Rattle.topology_text.proofs.nodes_line.has_empty_token.Given as goal

abbrev pub invariant-loop-word : goal.invariant-loop-word
invariant-loop-word l = has_empty l.tokens.words ≡ has_empty l.initial.tokens.words

abbrev pub decreases-loop-word : goal.decreases-loop-word
decreases-loop-word l = length l.tokens.words
