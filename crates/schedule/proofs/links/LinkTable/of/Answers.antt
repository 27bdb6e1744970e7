use Rattle.schedule.proofs.Tabled.{first_links}
use Rattle.schedule.proofs.links.LinkTable.of.Goals as goal

pub returns : goal.returns
returns c = first_links _ _ _ c.add.ensures c.links.ensures.links
