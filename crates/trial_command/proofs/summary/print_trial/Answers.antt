use Rattle.std.proofs.Common.{◌∙◌, ap, length}
use Rattle.topology_text.specs.Value.{NamedTopologyValue}
use Rattle.trial_command.proofs.Lines.{appended, lines_of_trial}
use Rattle.trial_command.proofs.summary.print_trial.Goals as goal

pub returns : goal.returns
returns c =
    let n = c.args.n in
    let r = c.args.report.now in
    let names = c.names.result.now in
    let w = c.words.result in
    let kind = c.trial_family.result in
    let size = c.trial_size.result in
    let counts = c.args.counts in
    let joined = length c.joined.result.now in
    let replays = c.args.replays in
    appended n names w kind size counts.points counts.refuted counts.unknown joined replays.count replays.events
    c.new-out.result.items c.push_trial.new.out.items c.push_synth_line.new.out.items c.push_family.new.out.items c.push_counts.new.out.items c.push_word.new.out.items c.push_replays.new.out.items c.push_word-2.new.out.items
    c.new-out.ensures.items c.in_ok-push_trial.ensures c.in_ok-push_synth_line.ensures c.in_ok-push_family.ensures c.in_ok-push_counts.ensures c.in_ok-push_word.ensures.appended c.in_ok-push_replays.ensures c.in_ok-push_word-2.ensures.appended
    ∙ lines_of_trial n r names w kind size counts.points counts.refuted counts.unknown joined replays.count replays.events
    (c.names.ensures.names ∙ ap (λ (t : NamedTopologyValue). t.names) c.topology.ensures.topology) c.words.ensures.words c.trial_family.ensures c.trial_size.ensures.size
    c.requires.points c.requires.refuted c.requires.unknown (ap length c.joined.ensures.joined) c.requires.count c.requires.events
