use Rattle.std.proofs.Common.{◌≡◌, [], length}
use Rattle.topology_text.specs.Reading.{holders_from}
use Rattle.topology_text.proofs.pattern_lines.holders_of.Given as goal

abbrev pub invariant-loop-word : goal.invariant-loop-word
invariant-loop-word l = holders_from l.names.keys l.nodes.items l.tokens.words ≡ holders_from l.names.keys [] l.initial.tokens.words

abbrev pub decreases-loop-word : goal.decreases-loop-word
decreases-loop-word l = length l.tokens.words
