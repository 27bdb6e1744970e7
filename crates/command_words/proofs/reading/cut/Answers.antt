use Rattle.command_words.proofs.Cutting.{cut_split}
use Rattle.command_words.proofs.reading.cut.Goals as goal

pub returns : goal.returns
returns c = cut_split c.args.word.now c.split_once.result c.split_once.ensures.cases
