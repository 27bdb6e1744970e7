-- Families written out.
use Rattle.std.specs.Prelude.{ℕ, List, codes}

-- 3 rows of 3 nodes
abbrev pub torus_of_9 : List ℕ
torus_of_9 = codes "topology 1\nnodes n0 n1 n2 n3 n4 n5 n6 n7 n8\ngroup 1 n0>n1\ngroup 1 n0>n2\ngroup 1 n0>n3\ngroup 1 n0>n6\ngroup 1 n1>n0\ngroup 1 n1>n2\ngroup 1 n1>n4\ngroup 1 n1>n7\ngroup 1 n2>n0\ngroup 1 n2>n1\ngroup 1 n2>n5\ngroup 1 n2>n8\ngroup 1 n3>n0\ngroup 1 n3>n4\ngroup 1 n3>n5\ngroup 1 n3>n6\ngroup 1 n4>n1\ngroup 1 n4>n3\ngroup 1 n4>n5\ngroup 1 n4>n7\ngroup 1 n5>n2\ngroup 1 n5>n3\ngroup 1 n5>n4\ngroup 1 n5>n8\ngroup 1 n6>n0\ngroup 1 n6>n3\ngroup 1 n6>n7\ngroup 1 n6>n8\ngroup 1 n7>n1\ngroup 1 n7>n4\ngroup 1 n7>n6\ngroup 1 n7>n8\ngroup 1 n8>n2\ngroup 1 n8>n5\ngroup 1 n8>n6\ngroup 1 n8>n7\n"

-- two quads, with the ring n0 n4 n7 n6 n5 n1 n2 n3 of links of width 2
abbrev pub mesh_of_8 : List ℕ
mesh_of_8 = codes "topology 1\nnodes n0 n1 n2 n3 n4 n5 n6 n7\ngroup 1 n0>n1\ngroup 1 n0>n2\ngroup 2 n0>n3\ngroup 2 n0>n4\ngroup 1 n1>n0\ngroup 2 n1>n2\ngroup 1 n1>n3\ngroup 2 n1>n5\ngroup 1 n2>n0\ngroup 2 n2>n1\ngroup 2 n2>n3\ngroup 1 n2>n6\ngroup 2 n3>n0\ngroup 1 n3>n1\ngroup 2 n3>n2\ngroup 1 n3>n7\ngroup 2 n4>n0\ngroup 1 n4>n5\ngroup 1 n4>n6\ngroup 2 n4>n7\ngroup 2 n5>n1\ngroup 1 n5>n4\ngroup 2 n5>n6\ngroup 1 n5>n7\ngroup 1 n6>n2\ngroup 1 n6>n4\ngroup 2 n6>n5\ngroup 2 n6>n7\ngroup 1 n7>n3\ngroup 2 n7>n4\ngroup 1 n7>n5\ngroup 2 n7>n6\n"

-- three ports out, and three in
abbrev pub switch_of_3 : List ℕ
switch_of_3 = codes "topology 1\nnodes n0 n1 n2\ngroup 1 n0>n1 n0>n2\ngroup 1 n1>n0 n1>n2\ngroup 1 n2>n0 n2>n1\ngroup 1 n1>n0 n2>n0\ngroup 1 n0>n1 n2>n1\ngroup 1 n0>n2 n1>n2\n"

-- two boxes, and a cable each way
abbrev pub boxes_of_8 : List ℕ
boxes_of_8 = codes "topology 1\nnodes n0 n1 n2 n3 n4 n5 n6 n7\ngroup 1 n0>n1\ngroup 1 n0>n2\ngroup 1 n0>n3\ngroup 1 n1>n0\ngroup 1 n1>n2\ngroup 1 n1>n3\ngroup 1 n2>n0\ngroup 1 n2>n1\ngroup 1 n2>n3\ngroup 1 n3>n0\ngroup 1 n3>n1\ngroup 1 n3>n2\ngroup 1 n4>n5\ngroup 1 n4>n6\ngroup 1 n4>n7\ngroup 1 n5>n4\ngroup 1 n5>n6\ngroup 1 n5>n7\ngroup 1 n6>n4\ngroup 1 n6>n5\ngroup 1 n6>n7\ngroup 1 n7>n4\ngroup 1 n7>n5\ngroup 1 n7>n6\ngroup 1 n0>n4 n0>n5 n0>n6 n0>n7 n1>n4 n1>n5 n1>n6 n1>n7 n2>n4 n2>n5 n2>n6 n2>n7 n3>n4 n3>n5 n3>n6 n3>n7\ngroup 1 n4>n0 n4>n1 n4>n2 n4>n3 n5>n0 n5>n1 n5>n2 n5>n3 n6>n0 n6>n1 n6>n2 n6>n3 n7>n0 n7>n1 n7>n2 n7>n3\n"
