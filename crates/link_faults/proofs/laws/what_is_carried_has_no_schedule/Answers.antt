use Rattle.std.proofs.lemmas.List.Elements.{recursion_from_All}
use Rattle.link_faults.{specs.Carrying.IsOldRefuted, proofs.Recorded.none_carried}
use Rattle.link_faults.proofs.laws.what_is_carried_has_no_schedule.Goals as goal

pub returns : goal.returns
returns c = λ q g w old less none x is. none_carried q g w less old (recursion_from_All (IsOldRefuted q) old none) x is
