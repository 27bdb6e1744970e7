use Rattle.std.proofs.{Common.{◌≡◌, Ok, IfOk, sym, subst}, lemmas.Result.IfOk-weaker}
use Rattle.run_rules.{specs.{Read.IsSearchableAs, Tasks.{fault_in, searchable}, Steps.whole_question}, proofs.SizeAndCounts.is_small}
use Rattle.report_commands.proofs.Taken.{behind_fault}
use Rattle.report_commands.proofs.degrade.refusal_of.Goals as goal

pub returns-in-None-clause-refuses : goal.returns-in-None-clause-refuses
returns-in-None-clause-refuses c =
    let r = c.args.report.now in
    let x = c.args.fault in
    let by_words = subst (λ w. IfOk c.search_refusal.result (IsSearchableAs (searchable (whole_question w c.topology.result.now)))) c.words.ensures.words c.search_refusal.ensures in
    let by_topology = subst (λ t. IfOk c.search_refusal.result (IsSearchableAs (searchable (whole_question r.words t)))) c.topology.ensures.topology by_words in
    let takes : fault_in r x.group x.group_word x.width x.width_word ≡ Ok tt = subst (IsSearchableAs (fault_in r x.group x.group_word x.width x.width_word)) c.in-None.is c.in_ok-answer.ensures.refuses in
    subst (λ due. IfOk c.search_refusal.result (IsSearchableAs due)) (sym (behind_fault r x.group x.group_word x.width x.width_word takes)) by_topology

pub returns-in-None-clause-small : goal.returns-in-None-clause-small
returns-in-None-clause-small c =
    let r = c.args.report.now in
    let by_words = subst (λ w. IfOk c.search_refusal.result (IsSearchableAs (searchable (whole_question w c.topology.result.now)))) c.words.ensures.words c.search_refusal.ensures in
    let by_topology = subst (λ t. IfOk c.search_refusal.result (IsSearchableAs (searchable (whole_question r.words t)))) c.topology.ensures.topology by_words in
    IfOk-weaker c.search_refusal.result _ _ (λ refused is none. is_small (whole_question r.words r.topology) (subst (IsSearchableAs (searchable (whole_question r.words r.topology))) none is)) by_topology

pub returns-in-None-clause-valid : goal.returns-in-None-clause-valid
returns-in-None-clause-valid c = IfOk-weaker c.search_refusal.result _ _ (λ refused is none. c.words.ensures.limits) c.search_refusal.ensures
