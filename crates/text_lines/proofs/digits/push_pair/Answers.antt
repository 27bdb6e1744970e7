use Rattle.std.proofs.Common.{append_assoc}
use Rattle.text_lines.proofs.Pairs.{tens_at, ones_at}
use Rattle.text_lines.proofs.digits.push_pair.Goals as goal

pub returns-clause-appended : goal.returns-clause-appended
returns-clause-appended c = rw (c.push_reserved-2.ensures.items, c.push_reserved.ensures.items, tens_at c.args.pair c.requires.below, ones_at c.args.pair c.requires.below, append_assoc)
