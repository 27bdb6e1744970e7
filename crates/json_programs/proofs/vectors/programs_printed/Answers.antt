use Rattle.std.{proofs.Common.refl, specs.Fmt.digits}
use Rattle.serde_json.proofs.OnLiterals.{serde_json_on_literals}
use Rattle.json_programs.proofs.vectors.programs_printed.Goals as goal

pub returns : goal.returns
unfolding serde_json_on_literals digits
returns c = refl
