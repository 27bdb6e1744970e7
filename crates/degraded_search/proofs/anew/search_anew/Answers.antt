use Rattle.std.proofs.Common.{ap, ◌∙◌}
use Rattle.topology_text.specs.Value.{NamedTopologyValue}
use Rattle.run_rules.specs.Degraded.{left_topology}
use Rattle.degraded_search.proofs.anew.search_anew.Goals as goal

pub text_over-requires-clause-left : goal.text_over-requires-clause-left
text_over-requires-clause-left c = c.in_ok-left.ensures ∙ ap (λ (t : NamedTopologyValue). left_topology t c.args.fault.group c.args.fault.width) c.topology.ensures.topology
