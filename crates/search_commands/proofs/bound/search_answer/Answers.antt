use Rattle.std.proofs.Common.{refl}
use Rattle.search_commands.proofs.bound.search_answer.Goals as goal

pub returns-clause-answers : goal.returns-clause-answers
returns-clause-answers g c =
    let bounds = c.in_ok-bounds.ensures.bounds in
    record {
      frontier = c.in_ok-bounds.bounds.frontier;
      found = bounds.found;
      points = bounds.points;
      unknown = bounds.unknown;
      says = record { status = refl; text = c.in_ok-text.ensures };
      proves = c.in_ok-bounds.ensures.proves;
      begun = c.in_ok-bounds.ensures.begun;
    }
