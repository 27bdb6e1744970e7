use Rattle.std.proofs.Common.{◌≡◌, ◌+◌, ℕ, true, None, List, [], length}
use Rattle.proof_audit.specs.inner.Lines.{left_says, lines_pass}
use Rattle.proof_audit.proofs.lines_judge.LinesJudge.take_lines.Given as goal

abbrev pub invariant-loop-line : goal.invariant-loop-line
invariant-loop-line g l =
    let T = g.T.LineTest in
    let start = l.initial.self in
    record {
      calm : l.self.reader.fault ≡ None;
      finished : l.self.reader.finished ≡ start.reader.finished;
      bytes : l.self.reader.place + length l.self.reader.rest ≡ start.reader.place + length start.reader.rest;
      same : (more : List ℕ) → (start.reader.finished ≡ true → more ≡ []) → lines_pass (T.passes start.test) (left_says start.reader more) ≡ lines_pass (T.passes l.self.test) (left_says l.self.reader more);
    }

abbrev pub decreases-loop-line : goal.decreases-loop-line
decreases-loop-line g l = length l.self.reader.rest
