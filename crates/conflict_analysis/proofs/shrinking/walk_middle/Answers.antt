use Rattle.std.proofs.Common.{subst, Contains}
use Rattle.conflict_analysis.proofs.shrinking.walk_middle.Goals as goal

pub count-requires : goal.count-requires
count-requires c = λ o h. (c.requires.sorted.kept.of o (subst (λ xs. Contains xs o) c.deref-2.ensures.value h)).1
