use Rattle.std.{proofs.Common.refl, specs.Fmt.digits}
use Rattle.run_rules.specs.Tasks.{due}
use Rattle.command_words.specs.Words.{command_of}
use Rattle.topology_text.specs.Reading.{topology_of, topology_at, named_at, pattern_at}
use Rattle.run_rules.proofs.vectors.searches_due.Goals as goal

pub returns : goal.returns
unfolding due command_of topology_of topology_at named_at pattern_at digits
returns c = record { text = refl; root = refl; no_pattern = refl; pattern = refl; candidates = refl }
