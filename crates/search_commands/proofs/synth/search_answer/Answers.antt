use Rattle.std.proofs.Common.{refl}
use Rattle.search_commands.proofs.synth.search_answer.Goals as goal

pub returns-clause-answers : goal.returns-clause-answers
returns-clause-answers g c =
    let found = c.in_ok-report.ensures in
    record {
      report = c.in_ok-report.report;
      words = found.words;
      topology = found.topology;
      right = found.right;
      searched = found.searched;
      says = record { status = refl; text = c.in_ok-text.ensures };
      proves = found.proves;
      takes = found.takes;
      keeps = c.in_ok-report.ensures.keeps;
      begun = c.in_ok-report.ensures.begun;
    }

pub returns-clause-leaves : goal.returns-clause-leaves
returns-clause-leaves g c = λ told. (c.in_ok-report.ensures.begun told, λ kept. c.in_ok-report.ensures.keeps kept told)
