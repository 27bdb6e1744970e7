-- The JSON of small reports.
use Rattle.std.specs.Prelude.{ℕ, List, ◌++◌, codes}

abbrev two_nodes : List ℕ
two_nodes = codes "{\"groups\":[{\"links\":[[\"n0\",\"n1\"]],\"width\":1},{\"links\":[[\"n1\",\"n0\"]],\"width\":1}],\"nodes\":[\"n0\",\"n1\"],\"version\":1}"

-- the broadcast of one chunk, with its rounds, its joined points, and what stands of the root
abbrev pub broadcast_json : List ℕ → List ℕ → List ℕ → List ℕ
broadcast_json rounds joined root =
    codes "{\"frontiers\":[{\"part\":\"whole\",\"points\":[{\"c\":1,\"mark\":\"optimal\",\"r\":1,\"rounds\":" ++ (rounds ++ (codes ",\"s\":1,\"sends\":[[0,\"n0\",\"n1\",1]]}],\"refuted\":[],\"unknown\":[]}],\"joined\":"
    ++ (joined ++ (codes ",\"topology\":" ++ (two_nodes ++ (codes ",\"words\":{\"chunks\":1,\"collective\":\"broadcast\",\"conflicts\":1000,\"k\":0," ++ (root ++ codes "\"steps\":1}}\n")))))))

-- the allreduce of two chunks on two nodes, with the mark of its joined point
abbrev pub allreduce_json : List ℕ → List ℕ
allreduce_json mark =
    codes "{\"frontiers\":[{\"part\":\"reduce\",\"points\":[{\"c\":1,\"mark\":\"optimal\",\"r\":1,\"rounds\":[1],\"s\":1,\"sends\":[[0,\"n1\",\"n0\",1],[1,\"n0\",\"n1\",1]]}],\"refuted\":[],\"unknown\":[]},{\"part\":\"gather\",\"points\":[{\"c\":1,\"mark\":\"optimal\",\"r\":1,\"rounds\":[1],\"s\":1,\"sends\":[[0,\"n0\",\"n1\",1],[1,\"n1\",\"n0\",1]]}],\"refuted\":[],\"unknown\":[]}],\"joined\":[{"
    ++ (mark ++ (codes ",\"r\":2,\"rounds\":[1,1],\"s\":2,\"sends\":[[0,\"n1\",\"n0\",1],[1,\"n0\",\"n1\",1],[0,\"n0\",\"n1\",2],[1,\"n1\",\"n0\",2]]}],\"topology\":"
    ++ (two_nodes ++ codes ",\"words\":{\"chunks\":1,\"collective\":\"allreduce\",\"conflicts\":1000,\"k\":0,\"steps\":1}}\n")))

-- a broadcast whose words leave out what these members say
abbrev pub pruned_json : List ℕ → List ℕ → List ℕ
pruned_json cuts ordered =
    codes "{\"frontiers\":[{\"part\":\"whole\",\"points\":[{\"c\":1,\"mark\":\"optimal\",\"r\":1,\"rounds\":[1],\"s\":1,\"sends\":[[0,\"n0\",\"n1\",1]]}],\"refuted\":[[1,1,2]],\"unknown\":[]}],\"joined\":[],\"topology\":"
    ++ (two_nodes ++ (codes ",\"words\":{\"chunks\":2,\"collective\":\"broadcast\",\"conflicts\":1000," ++ (cuts ++ (codes "\"k\":0," ++ (ordered ++ codes "\"root\":\"n0\",\"steps\":1}}\n")))))
