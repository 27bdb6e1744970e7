use Rattle.std.{proofs.Common.refl, specs.Fmt.digits}
use Rattle.run_rules.specs.Tasks.{due}
use Rattle.command_words.specs.Words.{command_of}
use Rattle.topology_text.specs.Spelling.{spelling}
use Rattle.run_rules.proofs.vectors.words_due.Goals as goal

pub returns : goal.returns
unfolding due command_of digits spelling
returns c = record { none = refl; unknown = refl; missing = refl; family = refl; trial = refl }
