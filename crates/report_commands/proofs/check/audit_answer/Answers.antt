use Rattle.std.proofs.Common.{Ok, ap, refl, subst}
use Rattle.run_rules.{specs.{Read.IsSearchableAs, Tasks.{Audit, searchable}, Steps.{audit_in, whole_question}}, proofs.Answered.{refused_alone, refused_behind}}
use Rattle.report_commands.proofs.AuditAnswers.{audit_answers}
use Rattle.report_commands.proofs.check.audit_answer.Goals as goal

pub returns-in-Some-clause-answers : goal.returns-in-Some-clause-answers
returns-in-Some-clause-answers g c =
    let r = c.args.report.now in
    let by_words = subst (λ w. IsSearchableAs (searchable (whole_question w c.topology.result.now)) c.in_ok-answer.field-0) c.words.ensures.words c.in_ok-answer.ensures in
    let by_topology = subst (λ t. IsSearchableAs (searchable (whole_question r.words t)) c.in_ok-answer.field-0) c.topology.ensures.topology by_words in
    let refused = subst (IsSearchableAs (searchable (whole_question r.words r.topology))) c.in-Some.is by_topology in
    refused_alone (audit_in r) c.in-Some.answer (refused_behind (searchable (whole_question r.words r.topology)) (λ _. Ok (Audit r)) c.in-Some.answer refused) _ (λ told name. refl)

pub returns-in_ok-verdict_answer-in-None-clause-answers : goal.returns-in_ok-verdict_answer-in-None-clause-answers
returns-in_ok-verdict_answer-in-None-clause-answers g c =
    let r = c.args.report.now in
    let by_words = subst (λ w. IsSearchableAs (searchable (whole_question w c.topology.result.now)) c.in_ok-answer.field-0) c.words.ensures.words c.in_ok-answer.ensures in
    let by_topology = subst (λ t. IsSearchableAs (searchable (whole_question r.words t)) c.in_ok-answer.field-0) c.topology.ensures.topology by_words in
    let can = subst (IsSearchableAs (searchable (whole_question r.words r.topology))) c.in-None.is by_topology in
    let answer = c.in_ok-verdict_answer-in-None.field-0 in
    let found = c.in_ok-verdict-in-None.ensures in
    audit_answers r _ c.in_ok-verdict-in-None.verdict answer.status answer.text.items c.words.ensures.limits found.exact found.some (λ e. found.right (ap Ok e))
    c.in_ok-verdict_answer-in-None.ensures.says c.audit.ensures.stay can
