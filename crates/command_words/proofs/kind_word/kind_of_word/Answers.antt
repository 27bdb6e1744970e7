use Rattle.command_words.proofs.Naming.{kind_named}
use Rattle.command_words.proofs.kind_word.kind_of_word.Goals as goal

pub returns : goal.returns
returns c = kind_named _ _ c.of_word.ensures.named c.of_word.ensures.known
