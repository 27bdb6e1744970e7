use Rattle.run_rules.proofs.Sought.{no_topology}
use Rattle.run_rules.proofs.search_text.search_of_text.Goals as goal

pub returns-in_ok-bad_topology-in-Err : goal.returns-in_ok-bad_topology-in-Err
returns-in_ok-bad_topology-in-Err c = record {
  refusal = _;
  is = no_topology c.args.asked c.args.bytes.now c.in-Err.fault.code c.in-Err.fault.line c.in-Err.ensures.exact c.in_ok-bad_topology-in-Err.ensures.code;
  says = c.in_ok-bad_topology-in-Err.ensures.says;
}
