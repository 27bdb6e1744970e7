use Rattle.std.proofs.Common.{◌∙◌, refl, sym}
use Rattle.trial_command.proofs.Verified.{own_verified}
use Rattle.trial_command.proofs.trial.verify.Goals as goal

pub unreachable-requires : goal.unreachable-requires
unreachable-requires c =
    let said = c.in-Ok-Denied.ensures.exact refl in
    let verified = own_verified c.args.report.now _ c.requires.right c.requires.shelf in
    let both = sym c.in-Ok-Denied.field-0-is ∙ said ∙ verified in
    cc
