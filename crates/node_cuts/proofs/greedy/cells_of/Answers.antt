use Rattle.std.proofs.{Common.false, lemmas.List.{get_or-replicate, length-replicate}}
use Rattle.node_cuts.proofs.greedy.cells_of.Goals as goal

pub loop-number-init : goal.loop-number-init
loop-number-init c = record { marks = λ n below. get_or-replicate 256 n false false below; whole = length-replicate 256 false }
