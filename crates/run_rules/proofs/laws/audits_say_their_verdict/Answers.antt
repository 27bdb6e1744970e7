use Rattle.run_rules.proofs.Denied.{logs_where_done, right_where_done, says_verdict, shelf_where_done}
use Rattle.run_rules.proofs.laws.audits_say_their_verdict.Goals as goal

pub returns-clause-says : goal.returns-clause-says
returns-clause-says c = says_verdict

pub returns-clause-right : goal.returns-clause-right
returns-clause-right c = right_where_done

pub returns-clause-shelf : goal.returns-clause-shelf
returns-clause-shelf c = shelf_where_done

pub returns-clause-logs : goal.returns-clause-logs
returns-clause-logs c = logs_where_done
