use Rattle.std.proofs.Common.{◌≡◌, [], length}
use Rattle.topology_text.specs.Reading.{links_from}
use Rattle.topology_text.proofs.group_line.links_of.Given as goal

abbrev pub invariant-loop-word : goal.invariant-loop-word
invariant-loop-word l = links_from l.names.keys l.links.items l.tokens.words ≡ links_from l.names.keys [] l.initial.tokens.words

abbrev pub decreases-loop-word : goal.decreases-loop-word
decreases-loop-word l = length l.tokens.words
