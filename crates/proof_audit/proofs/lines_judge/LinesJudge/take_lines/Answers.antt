use Rattle.std.proofs.Common.{◌≡◌, None, Some, Ok, Err, sym, ap, ◌∙◌, ◌≢◌}
use Rattle.lrat_text.{specs.{declared.fault.LratTextFault.TheVariants.OutOfMemory, Reading.fault_of}, proofs.Remaining.left_finished}
use Rattle.proof_audit.{specs.inner.Lines.left_says, proofs.Saying.{said_one, passes_line, fails_line}}
use Rattle.proof_audit.proofs.lines_judge.LinesJudge.take_lines.Goals as goal

pub returns-then-not-branch-clause-over : goal.returns-then-not-branch-clause-over
returns-then-not-branch-clause-over g c = λ e more last.
    let T = g.T.LineTest in
    let i = c.loop-line.invariant in
    let r = c.loop-line.self.reader in
    let new = c.next_line.new.self in
    let line = c.in-Ok-Some.line in
    let result : c.next_line.result ≡ Ok (Some line) = let a = c.in-Ok-Some.is in let b = c.in-Ok-Some.field-0-is in cc in
    let ne : c.next_line.result ≢ Err OutOfMemory = λ bad. absurd (cc) in
    i.same more last ∙ said_one (T.passes c.loop-line.self.test) r new (Ok (Some line)) more i.calm (λ f. last (sym i.finished ∙ f)) (sym result ∙ c.next_line.ensures.said ne) (c.next_line.ensures.moved ne)
    ∙ fails_line (T.passes c.loop-line.self.test) line (left_says new more) (c.in_ok-take-in-Ok-Some.ensures.over (ap (λ b. Ok b) c.if-not-branch.true))

pub loop-line-preserved : goal.loop-line-preserved
loop-line-preserved g c =
    let T = g.T.LineTest in
    let i = c.loop-line.invariant in
    let r = c.loop-line.self.reader in
    let new = c.next_line.new.self in
    let line = c.in-Ok-Some.line in
    let result : c.next_line.result ≡ Ok (Some line) = let a = c.in-Ok-Some.is in let b = c.in-Ok-Some.field-0-is in cc in
    let ne : c.next_line.result ≢ Err OutOfMemory = λ bad. absurd (cc) in
    let said = sym result ∙ c.next_line.ensures.said ne in
    let moved = c.next_line.ensures.moved ne in
    record {
      calm = ap (λ s. s.fault) moved ∙ ap fault_of (sym said);
      finished = c.next_line.ensures.finished ∙ i.finished;
      bytes = c.next_line.ensures.bytes ∙ i.bytes;
      same = λ more last. i.same more last ∙ said_one (T.passes c.loop-line.self.test) r new (Ok (Some line)) more i.calm (λ f. last (sym i.finished ∙ f)) said moved
          ∙ passes_line (T.passes c.loop-line.self.test) (T.passes c.take.new.self) line (left_says new more) (c.in_ok-take-in-Ok-Some.ensures.more (ap (λ b. Ok b) c.if-not-branch.false));
    }

pub returns-in-Ok-None-clause-more : goal.returns-in-Ok-None-clause-more
returns-in-Ok-None-clause-more g c = λ e more last.
    let T = g.T.LineTest in
    let i = c.loop-line.invariant in
    let result : c.next_line.result ≡ Ok None = let a = c.in-Ok-None.is in let b = c.in-Ok-None.field-0-is in cc in
    let ne : c.next_line.result ≢ Err OutOfMemory = λ bad. absurd (cc) in
    i.same more last ∙ said_one (T.passes c.loop-line.self.test) c.loop-line.self.reader c.next_line.new.self (Ok None) more i.calm (λ f. last (sym i.finished ∙ f)) (sym result ∙ c.next_line.ensures.said ne) (c.next_line.ensures.moved ne)

pub returns-in-Ok-None-clause-left : goal.returns-in-Ok-None-clause-left
returns-in-Ok-None-clause-left g c = λ e finished.
    let i = c.loop-line.invariant in
    let result : c.next_line.result ≡ Ok None = let a = c.in-Ok-None.is in let b = c.in-Ok-None.field-0-is in cc in
    let ne : c.next_line.result ≢ Err OutOfMemory = λ bad. absurd (cc) in
    ap (λ s. s.rest) (c.next_line.ensures.moved ne) ∙ left_finished c.loop-line.self.reader (i.finished ∙ finished) (sym (c.next_line.ensures.said ne) ∙ result)

pub returns-in-Err-clause-over : goal.returns-in-Err-clause-over
returns-in-Err-clause-over g c = λ e more last.
    let T = g.T.LineTest in
    let i = c.loop-line.invariant in
    let fault = c.in-Err.fault in
    let result : c.next_line.result ≡ Err fault = c.in-Err.is in
    let ne : c.next_line.result ≢ Err OutOfMemory = λ bad. c.refused_for.ensures.refused e (cc) in
    i.same more last ∙ said_one (T.passes c.loop-line.self.test) c.loop-line.self.reader c.next_line.new.self (Err fault) more i.calm (λ f. last (sym i.finished ∙ f)) (sym result ∙ c.next_line.ensures.said ne) (c.next_line.ensures.moved ne)
