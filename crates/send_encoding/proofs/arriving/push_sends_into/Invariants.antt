use Rattle.std.{proofs.Common.{◌≡◌, ◌++◌, ◌==◌, map, take, filter}, specs.List.enumerate_from}
use Rattle.send_encoding.specs.Variables.{sent}
use Rattle.send_encoding.proofs.arriving.push_sends_into.Given as goal

abbrev pub invariant-loop-number : goal.invariant-loop-number
invariant-loop-number l = l.clause.items ≡ l.initial.clause.items ++ map (λ (e, link). sent l.map l.chunk e l.step) (filter (λ (e, link). link.1 == l.node) (take l.number (enumerate_from 0 l.link-items)))
