use Rattle.std.proofs.Common.{◌≡◌, ◌+◌, ◌-◌, ◌≤◌, IsTrue, vec_len}
use Rattle.outer_ports.specs.{Port.Tells, Shelf.FilesStay}
use Rattle.proof_audit.proofs.Pieces.{IsFront}
use Rattle.proof_audit.proofs.judge.judge_file.Given as goal

abbrev pub invariant-loop-place : goal.invariant-loop-place
invariant-loop-place g l =
    let H = g.H.Shelf in
    let J = g.J.Judge in
    record {
      room : vec_len l.buffer ≡ 65536;
      within : l.place ≤ l.limit + 65536;
      told : Tells (H.tells l.initial.shelf) (H.tells l.shelf);
      kept : H.faults l.shelf ≡ H.faults l.initial.shelf;
      stay : IsTrue (H.tells l.shelf) → FilesStay (H.file l.initial.shelf) (H.file l.shelf);
      reading : J.is_reading l.judge;
      taken : J.taken l.judge ≡ l.place;
      front : IsFront (J.passes l.initial.judge) (J.passes l.judge) (H.tells l.shelf) (H.file l.initial.shelf l.name) l.place;
    }

abbrev pub decreases-loop-place : goal.decreases-loop-place
decreases-loop-place g l = l.limit + 65536 - l.place
