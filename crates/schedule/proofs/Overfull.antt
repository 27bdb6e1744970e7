-- A group of a topology, by a read of the list: which it is, and that its links have a place in a table.
use Rattle.std.{specs.List.All, proofs.{Common.{◌≡◌, ℕ, ◌<◌, List, [], length, get_or, ap, ◌∙◌, arith}, lemmas.List.{get_or_read}}}
use Rattle.schedule.specs.{Links.{GroupValue, TopologyValue, IsTopology, IsBelow}, Judging.group_at}

-- the group at a place, by a read of the list
pub group_read : (t : TopologyValue) (groups : List GroupValue) (number : ℕ) (group : GroupValue) → groups ≡ t.groups → number < length groups → group ≡ get_or groups number group → group ≡ group_at t number
group_read t groups number group is inside read =
    get_or_read groups number group inside read _ ∙ ap (λ gs. get_or gs number (record { links = []; width = 0 })) is

-- the links of a topology's group have a place in a table
pub group_tabled : (t : TopologyValue) (groups : List GroupValue) (number : ℕ) (group : GroupValue) → IsTopology t → groups ≡ t.groups → number < length groups → group ≡ get_or groups number group → All (IsBelow 16) group.links
group_tabled t groups number group valid is inside read = grind arith
