use Rattle.std.proofs.Common.{rules}
use Rattle.topology_families.proofs.FamilyLaws.{numbered_is_some}
use Rattle.topology_families.proofs.families.numbered_name.Goals as goal

pub unwrap-requires : goal.unwrap-requires
unwrap-requires c = search (rules, numbered_is_some)
