use Rattle.std.proofs.Common.{rules}
use Rattle.command_words.{specs.Tables.{key_word, keys}, proofs.Naming.none_named}
use Rattle.command_words.proofs.key.Key.of_word.Goals as goal

pub returns-in_default : goal.returns-in_default
returns-in_default c = none_named key_word keys c.args.word.now (search rules)
