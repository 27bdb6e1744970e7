use Rattle.std.proofs.{Common.{◌≡◌, ◌≢◌, ◌<◌, ◌≤◌, None, Some, sym, ap, ◌∙◌, rules, slice_get}, lemmas.Option.{slice_get-get_or, slice_get_past}}
use Rattle.schedule.specs.Links.{GroupValue}
use Rattle.collective_spec.specs.declared.kind.Kind.TheVariants.{Allreduce}
use Rattle.report_form.specs.Reports.{ReportValue}
use Rattle.command_words.specs.declared.fault.WordCode.TheVariants.{NotNarrower, UnknownGroup}
use Rattle.run_rules.specs.Refusals.{refused_word}
use Rattle.report_commands.proofs.Faulted.{at_group, no_group, taken, too_wide}
use Rattle.report_commands.proofs.fault.fault_refusal.Goals as goal

pub returns-in_default-clause-refuses : goal.returns-in_default-clause-refuses
returns-in_default-clause-refuses c =
    let r : ReportValue = c.args.report.now in
    let fault = c.args.fault in
    let single : r.words.collective.kind ≢ Allreduce = search rules in
    let none : slice_get r.topology.topology.groups fault.group ≡ None = at_group c.groups-groups.result.now r.topology.topology.groups c.from.result fault.group (search rules) (search rules) (slice_get_past c.groups-groups.result.now c.from.result c.in_default.ensures.lookup.3) in
    record { refusal = refused_word UnknownGroup fault.group_word; is = no_group r fault.group fault.group_word fault.width fault.width_word single none; says = c.in_ok-answer.ensures }

pub returns-then-fault-width-clause-refuses : goal.returns-then-fault-width-clause-refuses
returns-then-fault-width-clause-refuses c =
    let r : ReportValue = c.args.report.now in
    let fault = c.args.fault in
    let single : r.words.collective.kind ≢ Allreduce = search rules in
    let old : GroupValue = c.in-Some.old.now in
    let at_place = c.in-Some.ensures.lookup.3 in
    let found : slice_get r.topology.topology.groups fault.group ≡ Some old = at_group c.groups-groups.result.now r.topology.topology.groups c.from.result fault.group (search rules) (search rules) (slice_get-get_or c.groups-groups.result.now c.from.result old at_place.0 ∙ ap Some (sym (at_place.1 old))) in
    let wide : old.width ≤ fault.width = search rules in
    record { refusal = refused_word NotNarrower fault.width_word; is = too_wide r fault.group fault.group_word fault.width fault.width_word single old found wide; says = c.in_ok-answer-2.ensures }

pub returns-clause-refuses : goal.returns-clause-refuses
returns-clause-refuses c =
    let r : ReportValue = c.args.report.now in
    let fault = c.args.fault in
    let single : r.words.collective.kind ≢ Allreduce = search rules in
    let old : GroupValue = c.in-Some.old.now in
    let at_place = c.in-Some.ensures.lookup.3 in
    let found : slice_get r.topology.topology.groups fault.group ≡ Some old = at_group c.groups-groups.result.now r.topology.topology.groups c.from.result fault.group (search rules) (search rules) (slice_get-get_or c.groups-groups.result.now c.from.result old at_place.0 ∙ ap Some (sym (at_place.1 old))) in
    let narrow : fault.width < old.width = search rules in
    taken r fault.group fault.group_word fault.width fault.width_word single old found narrow
