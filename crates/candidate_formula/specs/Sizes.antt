-- How large a search is. This project's own measure.
use Rattle.std.specs.Prelude.{ℕ, ◌+◌, ◌*◌, length, sum_by}
use Rattle.schedule.specs.Links.{usable_links}
use Rattle.collective_spec.specs.Collectives.{chunks_in}
use Rattle.candidate_order.specs.Frontiers.{QuestionValue}
use Rattle.round_encoding.specs.Candidates.{group_size}

-- how many chunks there are at the greatest chunk count
abbrev pub most_chunks : QuestionValue → ℕ
most_chunks q = chunks_in q.spec q.topology.nodes q.limits.max_c

-- a variable for each chunk, usable link and step, and those of the groups' counters: that of the formula of a candidate with the most steps, rounds and chunks
abbrev pub size_of : QuestionValue → ℕ
size_of q = most_chunks q * length (usable_links q.topology) * q.limits.max_s + sum_by (group_size (most_chunks q) q.limits.max_s q.limits.k) q.topology.groups
