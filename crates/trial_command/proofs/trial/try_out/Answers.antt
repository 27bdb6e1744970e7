use Rattle.std.proofs.{Common.refl, lemmas.Result.IfOk-weaker}
use Rattle.trial_command.proofs.Tried.{read_small, tried}
use Rattle.trial_command.proofs.trial.try_out.Goals as goal

pub tried_out-requires-clause-small : goal.tried_out-requires-clause-small
tried_out-requires-clause-small c =
    let found = c.in_ok-found.ensures in
    read_small c.args.n c.in_ok-found.found c.in_ok-found.found found.words found.topology refl

pub returns : goal.returns
returns c =
    let found = c.in_ok-found.ensures in
    IfOk-weaker c.tried_out.result _ _
    (λ text written. tried c.args.n c.in_ok-found.found c.in_ok-found.found _ text.items found.words found.topology found.right found.searched found.shelf refl written)
    c.tried_out.ensures
