use Rattle.std.proofs.Common.{◌-◌, length, take, drop, sym, ap, ◌∙◌, bytes_eq}
use Rattle.outer_ports.proofs.Pieces.{rest-all}
use Rattle.proof_audit.proofs.Compared.{not_begun, begun}
use Rattle.proof_audit.proofs.text_judge.TextJudgeJudge.take.Goals as goal

pub returns-then-not-starts_with-clause-over : goal.returns-then-not-starts_with-clause-over
returns-then-not-starts_with-clause-over c = λ e more.
    let judge = c.args.self.now in
    let piece = c.args.piece.now in
    let left = ap (λ text. bytes_eq piece (take (length piece) (take (length text - judge.done) (drop judge.done text)))) c.deref.ensures.value ∙ ap (λ bs. bytes_eq piece (take (length piece) bs)) (rest-all judge.done judge.text.items) in
    not_begun (drop judge.done judge.text.items) piece more (sym left ∙ sym c.starts_with.ensures.value ∙ c.if-not-starts_with.true)

pub returns-clause-more : goal.returns-clause-more
returns-clause-more c = λ e more.
    let judge = c.args.self.now in
    let piece = c.args.piece.now in
    let left = ap (λ text. bytes_eq piece (take (length piece) (take (length text - judge.done) (drop judge.done text)))) c.deref.ensures.value ∙ ap (λ bs. bytes_eq piece (take (length piece) bs)) (rest-all judge.done judge.text.items) in
    begun judge.text.items judge.done piece more (sym left ∙ sym c.starts_with.ensures.value ∙ c.if-not-starts_with.false)
