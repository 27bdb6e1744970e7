use Rattle.topology_text.proofs.Laws.{names_taken}
use Rattle.topology_text.proofs.reading.topology_part.Goals as goal

pub named_part-requires-clause-names : goal.named_part-requires-clause-names
named_part-requires-clause-names c =
    names_taken c.header_part.new.lines.place (c.in_ok-names.names.keys, c.nodes_part.new.lines.place) c.in_ok-names.ensures.read
