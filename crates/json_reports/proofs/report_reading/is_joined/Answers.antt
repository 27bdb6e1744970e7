use Rattle.std.proofs.Common.{[], ◌∷◌, codes, refl, sym, ◌∙◌}
use Rattle.serde_json.specs.View.{view}
use Rattle.json_values.proofs.Values.{says_is}
use Rattle.json_reports.proofs.report_reading.is_joined.Goals as goal

pub returns : goal.returns
returns c = c.says.ensures ∙ sym (says_is (codes "mark") (codes "optimal" ∷ codes "open" ∷ codes "joined" ∷ []) (codes "joined") refl (view c.args.value.now))
