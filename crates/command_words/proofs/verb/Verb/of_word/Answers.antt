use Rattle.std.proofs.Common.{rules}
use Rattle.command_words.{specs.Tables.{verb_word, verbs}, proofs.Naming.none_named}
use Rattle.command_words.proofs.verb.Verb.of_word.Goals as goal

pub returns-in_default : goal.returns-in_default
returns-in_default c = none_named verb_word verbs c.args.word.now (search rules)
