use Rattle.std.proofs.{Common.Err, lemmas.List.Sorted.searched}
use Rattle.lrat_checker.proofs.Placed.{not_there, rises_weakly}
use Rattle.lrat_checker.proofs.table.place_of.Goals as goal

pub returns-in-Err : goal.returns-in-Err
returns-in-Err c =
    let ids = c.args.ids.now in
    let i = c.in-Err.field-0 in
    let s = searched ids c.args.id (Err i) c.in-Err.ensures.position (rises_weakly ids c.requires) in
    not_there ids c.args.id i s.1 s.2
