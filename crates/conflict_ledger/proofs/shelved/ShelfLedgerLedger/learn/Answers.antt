use Rattle.std.proofs.Common.{◌∙◌}
use Rattle.conflict_ledger.proofs.Shelving.{moves_whole, moves_both, agrees_learned}
use Rattle.conflict_ledger.proofs.shelved.ShelfLedgerLedger.learn.Goals as goal

pub returns-in_err-put-clause-moves : goal.returns-in_err-put-clause-moves
returns-in_err-put-clause-moves g c =
    moves_whole _ _ c.args.line.now c.requires.agrees c.args.self.now.apart c.requires.implied _ _ _ (c.deref.ensures.value ∙ c.in_ok-write_text.ensures) c.put.ensures.told c.put.ensures.front c.put.ensures.others

pub returns-in_err-put-2-clause-moves : goal.returns-in_err-put-2-clause-moves
returns-in_err-put-2-clause-moves g c =
    moves_both _ _ c.args.line.now c.requires.agrees c.args.self.now.apart c.requires.implied c.requires.fresh _ _ _ _ _ _ (c.deref.ensures.value ∙ c.in_ok-write_text.ensures) (c.deref-2.ensures.value ∙ c.in_ok-write_text.ensures)
    c.put.ensures.told c.put.ensures.others c.put-2.ensures.told c.put-2.ensures.others c.put.ensures.front c.put-2.ensures.front

pub returns-clause-moves : goal.returns-clause-moves
returns-clause-moves g c =
    rw c.take.ensures.base (moves_both _ _ c.args.line.now c.requires.agrees c.args.self.now.apart c.requires.implied c.requires.fresh _ _ _ _ _ _ (c.deref.ensures.value ∙ c.in_ok-write_text.ensures) (c.deref-2.ensures.value ∙ c.in_ok-write_text.ensures)
    c.put.ensures.told c.put.ensures.others c.put-2.ensures.told c.put-2.ensures.others c.put.ensures.front c.put-2.ensures.front)

pub returns-clause-agrees : goal.returns-clause-agrees
returns-clause-agrees g c =
    rw (c.take.ensures.base, c.take.ensures.lines) (agrees_learned _ _ c.args.line.now c.requires.agrees c.args.self.now.apart c.requires.implied c.requires.fresh _ _ _ _ _ _ (c.deref.ensures.value ∙ c.in_ok-write_text.ensures) (c.deref-2.ensures.value ∙ c.in_ok-write_text.ensures)
    c.put.ensures.told c.put.ensures.others c.put-2.ensures.told c.put-2.ensures.others c.in_ok-put.ensures.whole c.in_ok-put-2.ensures.whole)
