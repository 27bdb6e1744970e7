-- Small reports.
use Rattle.std.specs.Prelude.{ℕ, true, List, [], ◌∷◌, ◌++◌, codes, None, Some}
use Rattle.outer_ports.specs.declared.part.Part.TheVariants.{Whole, Reduce, Gather}
use Rattle.schedule.specs.{declared.hop.Hop.Hop, Placed.PlacementValue, Rows.{line_of_2, line_of_3, plan, send}}
use Rattle.collective_spec.specs.declared.kind.Kind.{Kind, TheVariants.{Broadcast, Allreduce, Custom}}
use Rattle.candidate_order.specs.{declared.mark.Mark.Mark, Ranges.unpruned, Frontiers.{PointValue, FrontierValue}}
use Rattle.candidate_order.specs.declared.mark.Mark.TheVariants as mark
use Rattle.topology_text.specs.Value.{NamedTopologyValue}
use Rattle.report_form.specs.Reports.{WordsValue, ReportValue, whole_report}
unfoldable pub use Rattle.std.specs.Fmt.{digits}

-- two nodes in a row
abbrev pub two_nodes : NamedTopologyValue
two_nodes = record { names = codes "n0" ∷ codes "n1" ∷ []; topology = line_of_2; custom = None }

-- no extra rounds, one step, one chunk, a thousand conflicts
abbrev pub smallest_words : Kind → WordsValue
smallest_words kind = record { collective = record { kind = kind; root = 0 }; limits = record { k = 0; max_s = 1; max_c = 1; conflicts = 1000; pruning = unpruned } }

abbrev pub point : ℕ → ℕ → Mark → List ℕ → List Hop → PointValue
point s r mark rounds sends = record { candidate = record { s = s; r = r; c = 1 }; schedule = plan rounds sends; mark = mark }

-- a frontier of one point
abbrev pub one_point : PointValue → FrontierValue
one_point p = record { points = p ∷ []; refuted = []; unknown = [] }

-- the broadcast of one chunk
abbrev pub broadcast_report : ReportValue
broadcast_report = record {
  words = smallest_words Broadcast;
  topology = two_nodes;
  frontiers = (Whole, one_point (point 1 1 mark.Optimal (1 ∷ []) (send 0 0 1 1 ∷ []))) ∷ [];
  joined = [];
}

-- each node sums up one of two chunks, and then sends it to the other
abbrev pub allreduce_report : ReportValue
allreduce_report = record {
  words = smallest_words Allreduce;
  topology = two_nodes;
  frontiers =
      (Reduce, one_point (point 1 1 mark.Optimal (1 ∷ []) (send 0 1 0 1 ∷ send 1 0 1 1 ∷ [])))
      ∷ (Gather, one_point (point 1 1 mark.Optimal (1 ∷ []) (send 0 0 1 1 ∷ send 1 1 0 1 ∷ [])))
      ∷ [];
  joined = point 2 2 (mark.Joined 1) (1 ∷ 1 ∷ []) (send 0 1 0 1 ∷ send 1 0 1 1 ∷ send 0 0 1 2 ∷ send 1 1 0 2 ∷ []) ∷ [];
}

-- the relay of one chunk along three nodes, in two steps; one step is not enough
abbrev pub relay_report : ReportValue
relay_report = record {
  words = record { collective = record { kind = Broadcast; root = 0 }; limits = record { k = 0; max_s = 2; max_c = 1; conflicts = 1000; pruning = unpruned } };
  topology = record { names = codes "n0" ∷ codes "n1" ∷ codes "n2" ∷ []; topology = line_of_3; custom = None };
  frontiers = (
    Whole,
    record {
      points = point 2 2 mark.Optimal (1 ∷ 1 ∷ []) (send 0 0 1 1 ∷ send 0 1 2 2 ∷ []) ∷ [];
      refuted = record { s = 1; r = 1; c = 1 } ∷ [];
      unknown = [];
    },
  ) ∷ [];
  joined = [];
}

-- the broadcast of one chunk, where cuts and the order of chunks are asked for; two chunks in one round are refuted by a cut
abbrev pub pruned_report : ReportValue
pruned_report = record {
  words = record { collective = record { kind = Broadcast; root = 0 }; limits = record { k = 0; max_s = 1; max_c = 2; conflicts = 1000; pruning = record { cuts = true; ordered = true } } };
  topology = two_nodes;
  frontiers = (
    Whole,
    record {
      points = point 1 1 mark.Optimal (1 ∷ []) (send 0 0 1 1 ∷ []) ∷ [];
      refuted = record { s = 1; r = 1; c = 2 } ∷ [];
      unknown = [];
    },
  ) ∷ [];
  joined = [];
}

-- three nodes in a row, each with a link to the next, and the one chunk that is to go from the first to the last
abbrev pub moved_topology : NamedTopologyValue
moved_topology =
    let at : ℕ → PlacementValue = λ node. record { chunks = 1; nodes = 3; pairs = (0, node) ∷ [] } in
    record {
      names = codes "a" ∷ codes "b" ∷ codes "c" ∷ [];
      topology = record { nodes = 3; groups = record { links = (0, 1) ∷ []; width = 1 } ∷ record { links = (1, 2) ∷ []; width = 1 } ∷ [] };
      custom = Some (record { base = 1; before = at 0; after = at 2 });
    }

-- the chunk is moved in two steps; one step is not enough
abbrev pub moved_report : ReportValue
moved_report = whole_report (record { collective = record { kind = Custom; root = 0 }; limits = record { k = 0; max_s = 2; max_c = 1; conflicts = 1000; pruning = unpruned } }) moved_topology
    (record { points = point 2 2 mark.Optimal (1 ∷ 1 ∷ []) (send 0 0 1 1 ∷ send 0 1 2 2 ∷ []) ∷ []; refuted = record { s = 1; r = 1; c = 1 } ∷ []; unknown = [] })

-- ---- pieces of texts

-- the lines of the words, the names and the groups in that report, and those behind its pattern
abbrev pub moved_head : List ℕ
moved_head = codes "sccl 2\nsynth collective=custom k=0 steps=2 chunks=1 conflicts=1000\ntopology 2\nnodes a b c\ngroup 1 a>b\ngroup 1 b>c\n"

abbrev pub moved_body : List ℕ
moved_body = codes "frontier whole\npoint 2 2 1 optimal\nrounds 1 1\nsend 0 a b 1\nsend 0 b c 2\nrefuted 1 1 1\nend\n"

-- the first seven lines of the broadcast's report
abbrev pub broadcast_head : List ℕ
broadcast_head = codes "sccl 1\nsynth collective=broadcast k=0 steps=1 chunks=1 conflicts=1000 root=n0\ntopology 1\nnodes n0 n1\ngroup 1 n0>n1\ngroup 1 n1>n0\nfrontier whole\n"

-- the relay's report with another conflicts number and root on its second line, and other lines from line 10 on
abbrev pub relay_text : List ℕ → List ℕ → List ℕ → List ℕ
relay_text conflicts root rest =
    codes "sccl 1\nsynth collective=broadcast k=0 steps=2 chunks=1 conflicts=" ++ conflicts ++ codes " root=" ++ root
    ++ codes "\ntopology 1\nnodes n0 n1 n2\ngroup 1 n0>n1\ngroup 1 n1>n0\ngroup 1 n1>n2\ngroup 1 n2>n1\nfrontier whole\n" ++ rest
