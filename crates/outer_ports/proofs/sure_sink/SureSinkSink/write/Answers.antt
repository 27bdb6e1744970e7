use Rattle.std.proofs.{Common.{◌∙◌, ap, rules, take}, lemmas.Slice.pushed}
use Rattle.outer_ports.{proofs.Pieces.fitting, specs.Memory.sink_room}
use Rattle.outer_ports.proofs.sure_sink.SureSinkSink.write.Goals as goal

pub returns-clause-kept : goal.returns-clause-kept
returns-clause-kept c = let piece = c.args.piece.now in let n = c.min-count.result in pushed (take n piece) (ap (λ sink. sink.kept) c.self.view_is) c.unwrap.ensures c.extend_from_slice.ensures.items ∙ fitting c.args.self.now.kept piece sink_room n (search rules) (search rules)
