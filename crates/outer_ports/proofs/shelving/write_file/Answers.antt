use Rattle.std.proofs.Common.{[]}
use Rattle.outer_ports.proofs.shelving.write_file.Goals as goal

pub returns-clause-whole : goal.returns-clause-whole
returns-clause-whole g c = λ t. c.append_all.ensures.whole t [] (c.in_ok-begin.ensures.begun (c.append_all.ensures.told t)).begun
