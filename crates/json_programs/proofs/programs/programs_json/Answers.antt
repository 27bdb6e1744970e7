use Rattle.std.proofs.Common.{◌≡◌, [], ◌∷◌, ◌++◌, false, ap, ◌∙◌}
use Rattle.serde_json.specs.{View.view, Written.has_float}
use Rattle.json_values.specs.Json.{printed}
use Rattle.json_programs.proofs.Built.{programs_whole}
use Rattle.json_programs.proofs.programs.programs_json.Goals as goal

pub returns : goal.returns
returns c =
    let is = c.in_ok-programs_value.ensures in
    let whole : has_float (view c.in_ok-programs_value.field-0) ≡ false = ap has_float is ∙ programs_whole c.args.names.now c.args.point c.args.programs.now in
    c.in_ok-push.ensures.items ∙ ap (λ text. text ++ 10 ∷ []) (c.in_ok-out.ensures.text whole) ∙ ap printed is
