use Rattle.topology_text.proofs.Laws.{named_are}
use Rattle.topology_text.proofs.reading.named_part.Goals as goal

pub from_parts-requires : goal.from_parts-requires
from_parts-requires c =
    named_are c.args.lines.now.place c.args.names.now.keys c.in_ok-groups.groups.items c.in_ok-custom.custom c.groups_part.new.lines.place c.requires.names c.in_ok-groups.ensures.read c.in_ok-custom.ensures.limits
