use Rattle.std.proofs.Common.{arith, Err, ◌≤◌, ◌∙◌, ap, length, refl, subst, sym}
use Rattle.run_rules.specs.Tasks.{limit}
use Rattle.sccl_run.proofs.{Dues.nothing_behind, Texts.{not_err, stood}}
use Rattle.sccl_run.proofs.source_text.source_text.Goals as goal

pub returns-in-Ok-clause-read : goal.returns-in-Ok-clause-read
returns-in-Ok-clause-read g c = λ told reads.
    c.in-Ok.ensures.end told ∙ sym (nothing_behind (g.I.Source.left c.args.source.now) (subst (λ bytes. length bytes ≤ limit) (c.in-Ok.ensures.whole told) c.in-Ok.ensures.within))

pub returns-in-Err-TooLong-clause-longer : goal.returns-in-Err-TooLong-clause-longer
returns-in-Err-TooLong-clause-longer g c = λ told.
    c.in-Err-TooLong.ensures.too_long told (ap Err c.in-Err-TooLong.field-0-is)

pub returns-in-Err-TooLong-clause-read : goal.returns-in-Err-TooLong-clause-read
returns-in-Err-TooLong-clause-read g c = λ told reads.
    c.in-Err-TooLong.ensures.one_more told (ap Err c.in-Err-TooLong.field-0-is)

pub returns-in-Err-Failed-clause-part : goal.returns-in-Err-Failed-clause-part
returns-in-Err-Failed-clause-part g c = λ told failed. c.in-Err-Failed.ensures.rest told

pub returns-then-not-reads : goal.returns-then-not-reads
returns-then-not-reads g c =
    let unread = c.if-not-reads.true in
    record { told = λ told. told; cause = stood not_err refl; reads = λ e. absurd (not_err e); shelf = not_err; untouched = λ _. refl; short = omega (arith, ap length c.new.ensures.items); whole = λ told reads. absurd (cc); long = tt; longer = λ told. tt; read = λ told reads. absurd (cc); memory = λ e. refl; part = λ told e. absurd (not_err e) }
