use Rattle.std.proofs.{Common.{arith, drop, length, slice_range, ap, ◌∙◌}, lemmas.List.take_rest}
use Rattle.lrat_text.proofs.{Memory.said_told, Passing.taken_off}
use Rattle.lrat_text.proofs.reader.LratReader.next_line.Goals as goal

pub invariant_of-self : goal.invariant_of-self
invariant_of-self c = let i = c.self.inside in let bytes = c.deref.result.now in let a = c.in_ok-answered.answered in let rest = take_rest bytes i.start ∙ ap (drop i.start) c.deref.ensures.value in
    taken_off i.bytes.items (slice_range bytes i.start (length bytes)) i.start i.searched i.place a.taken a.searched c.self.invariant rest c.in_ok-answered.ensures.ordered c.in_ok-answered.ensures.within c.in_ok-answered.ensures.clear

pub returns-clause-kept : goal.returns-clause-kept
returns-clause-kept c = grind (arith, slice_range c.deref.result.now, said_told)
