-- What computes on literals: the reading of JSON, of names and of topologies, and their printing.
use Rattle.std.specs.{Prelude.⊤, Str.{is_utf8, chars}, Fmt.digits}
use Rattle.serde_json.proofs.OnLiterals.{serde_json_on_literals}
use Rattle.topology_text.specs.Reading.{topology_of, topology_at, named_at, pattern_at}

unfoldable pub topology_json_on_literals : ⊤
unfolding serde_json_on_literals is_utf8 chars digits topology_of topology_at named_at pattern_at
topology_json_on_literals = tt
