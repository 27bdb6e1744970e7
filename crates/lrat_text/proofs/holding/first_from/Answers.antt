use Rattle.std.proofs.Common.{◌≤◌, length, arith}
use Rattle.lrat_text.proofs.{Passing.{whole_line, last_line, no_line, nothing_left}, holding.first_from.Goals.{else-from-end-via-then-from-end+else-finished, else-from-end-via-else-from-end}}
use Rattle.lrat_text.proofs.holding.first_from.Goals as goal

pub returns-then-end-bytes-clause-some : goal.returns-then-end-bytes-clause-some
returns-then-end-bytes-clause-some c = grind (arith, whole_line c.args.bytes.now c.args.finished c.args.from c.args.searched)

pub returns-then-finished-clause-some : goal.returns-then-finished-clause-some
returns-then-finished-clause-some c = grind (arith, last_line c.args.bytes.now c.args.finished c.args.from c.args.searched)

pub returns-clause-none : goal.returns-clause-none
returns-clause-none c = λ place. let end = c.end_of-end in elim c.else-from-end.branch [
  | else-from-end-via-then-from-end+else-finished w ↦
      no_line c.args.bytes.now c.args.finished c.args.from c.args.searched end.result place w.if-finished.false w.if-from-end.true c.requires.ordered end.ensures.after end.ensures.before c.if-end-bytes.false c.requires.clear end.ensures.apart
  | else-from-end-via-else-from-end w ↦
      let all : length c.args.bytes.now ≤ c.args.from = omega (arith, c.if-end-bytes.false, w.if-from-end.false) in nothing_left c.args.bytes.now c.args.finished c.args.from place all
]
