use Rattle.std.proofs.Common.{◌∙◌}
use Rattle.conflict_ledger.proofs.Shelving.{moves_whole, agrees_closed}
use Rattle.conflict_ledger.proofs.shelved.ShelfLedgerLedger.close.Goals as goal

pub returns-in_err-put-clause-moves : goal.returns-in_err-put-clause-moves
returns-in_err-put-clause-moves g c =
    moves_whole _ _ c.args.line.now c.requires.agrees c.args.self.now.apart c.requires.implied _ _ _ (c.deref.ensures.value ∙ c.in_ok-write_text.ensures) c.put.ensures.told c.put.ensures.front c.put.ensures.others

pub returns-clause-moves : goal.returns-clause-moves
returns-clause-moves g c =
    rw c.take.ensures.base (moves_whole _ _ c.args.line.now c.requires.agrees c.args.self.now.apart c.requires.implied _ _ _ (c.deref.ensures.value ∙ c.in_ok-write_text.ensures) c.put.ensures.told c.put.ensures.front c.put.ensures.others)

pub returns-clause-agrees : goal.returns-clause-agrees
returns-clause-agrees g c =
    rw (c.take.ensures.base, c.take.ensures.lines) (agrees_closed _ _ c.args.line.now c.requires.agrees c.args.self.now.apart c.requires.implied _ _ _ c.requires.empty (c.deref.ensures.value ∙ c.in_ok-write_text.ensures) c.put.ensures.told c.in_ok-put.ensures.whole c.put.ensures.others)
