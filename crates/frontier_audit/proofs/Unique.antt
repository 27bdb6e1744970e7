-- Two ascending lists of sends with the same members are one list.
use Rattle.std.proofs.Common.{◌≡◌, List, ◌↔◌, AllPairs, Contains}
use Rattle.schedule.{specs.declared.hop.Hop.Hop, proofs.{HopOrder.before_all, Inverting.never_itself}}
use Rattle.candidate_order.proofs.Unique.{one_list}
use Rattle.report_form.proofs.Ascending.{HopBefore}

pub one_list_of_sends : (xs ys : List Hop) → AllPairs HopBefore xs → AllPairs HopBefore ys → ((h : Hop) → Contains xs h ↔ Contains ys h) → xs ≡ ys
one_list_of_sends = one_list HopBefore (λ a b one other. never_itself a (before_all a b a one other))
