use Rattle.std.{proofs.Common.refl, specs.Fmt.digits}
use Rattle.run_rules.specs.Tasks.{due}
use Rattle.command_words.specs.Words.{command_of}
use Rattle.topology_text.specs.Reading.{topology_of, topology_at, named_at, pattern_at}
use Rattle.run_rules.proofs.vectors.tasks_due.Goals as goal

pub returns : goal.returns
unfolding due command_of topology_of topology_at named_at pattern_at digits
returns c = record { plain = refl; kept = refl; pruned = refl; listed = refl; all = refl }
