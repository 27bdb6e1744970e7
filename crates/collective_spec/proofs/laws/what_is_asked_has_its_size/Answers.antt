use Rattle.collective_spec.proofs.Sized.{instance_chunks, before_among, after_among, demand_among}
use Rattle.collective_spec.proofs.laws.what_is_asked_has_its_size.Goals as goal

pub returns : goal.returns
returns c = record { chunks = instance_chunks; pre = before_among; post = after_among; demand = demand_among }
