use Rattle.std.proofs.{Common.arith, lemmas.Grind.common_steps}
use Rattle.outer_ports.proofs.Entries.{entry_stays, not_ok, on_err}
use Rattle.outer_ports.proofs.file_map.FileMap.append.Goals as goal

pub returns-in-Some : goal.returns-in-Some
returns-in-Some c = let written = c.get_mut.follows.holds c.extend_from_slice.new.self in record {
  appended = grind (arith, common_steps);
  others = grind (arith, common_steps);
  fault = on_err c.extend_from_slice.result (λ failed other.
      entry_stays (λ bytes. bytes.items) _ _ _ _ c.in-Some.bytes.now c.extend_from_slice.new.self written.0 c.in-Some.ensures.value (not_ok _ _ _ _ c.extend_from_slice.ensures.items failed));
}

pub returns-in_ok-from_slice-in-None : goal.returns-in_ok-from_slice-in-None
returns-in_ok-from_slice-in-None c = record { appended = grind (arith, common_steps); others = grind (arith, common_steps); fault = grind (arith, common_steps) }
