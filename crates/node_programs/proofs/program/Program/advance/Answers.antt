use Rattle.std.proofs.{Common.sym, lemmas.List.drop-drop}
use Rattle.node_programs.proofs.program.Program.advance.Goals as goal

pub returns : goal.returns
returns c = rw (← c.self.view_is) (sym (drop-drop 1 c.self.inside.done c.self.inside.ops.items))
