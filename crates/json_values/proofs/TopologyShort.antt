-- How long the text is that the JSON of a topology stands for.
use Rattle.std.{proofs.Common.{ℕ, ◌+◌, ◌*◌, ◌≤◌, ◌==◌, List, [], ◌∷◌, length, Option, Some, None, option_map, arith, length-append, codes, decimal, if◌then◌else◌}, specs.List.{flat_map, join_with_byte}}
use Rattle.text_lines.specs.Text.{line}
use Rattle.serde_json.specs.{Data.{Data, null, Items, no_items, item, no_members, member, put}, Events.items_len, Find.{as_array, get}}
use Rattle.json_values.specs.{Size.{size, items_size}, Shape.{◌>>=◌, ◌⊕◌, one, headed, count_in, name_in}, Forms.{each, name, row_read, says_word}, TopologyForm.{version, link, group, chunks_read}, TopologyJson.topology_in}
use Rattle.json_values.specs.inner.Chunks.{chunks_in}
use Rattle.json_values.proofs.Short.{amount, len, Short, found_most, always_most, either_most, some_size, items_within, within, decimal_short, name_short, number_short, both, ahead, row_most, one_token, wider, fixed_short, both_short, headed_short, each_short, field_short, object_short, if_short, nothing_short, token_short, lined_short}

pub name_token : Short (λ w. 32 ∷ w) 17 name.read
name_token = token_short name_in 16 name_short

pub count_token : Short (λ w. 32 ∷ w) 65 (λ d. one (option_map decimal (count_in d)))
count_token = token_short (λ d. option_map decimal (count_in d)) 64 (λ d. number_short (count_in d))

-- ---- links

joined : (ws : List (List ℕ)) → length (join_with_byte 62 ws) ≤ length (flat_map (λ w. 62 ∷ w) ws)
joined [] = omega arith
joined (w ∷ []) = omega (arith, length-append w [])
joined (w ∷ v ∷ ws) = omega (arith, joined (v ∷ ws), length-append w (62 ∷ join_with_byte 62 (v ∷ ws)), length-append w (flat_map (λ w. 62 ∷ w) (v ∷ ws)))

joined_short : (o : Option (List (List ℕ))) → amount length (option_map (join_with_byte 62) o) ≤ len (λ w. 62 ∷ w) o
joined_short None = omega arith
joined_short (Some ws) = joined ws

pair_short : (ds : Items) → len (λ w. 62 ∷ w) (row_read (name.read ∷ name.read ∷ []) ds) ≤ 34
pair_short no_items = omega arith
pair_short (item a no_items) = omega (arith, both (λ w. 62 ∷ w) (name.read a) None, one_token 62 16 (name_in a) (name_short a))
pair_short (item a (item b ds)) =
    let rest : Option (List (List ℕ)) = row_read [] ds in
    omega (arith, both (λ w. 62 ∷ w) (name.read a) (name.read b ⊕ rest), both (λ w. 62 ∷ w) (name.read b) rest, row_most (λ w. 62 ∷ w) 0 [] tt ds, one_token 62 16 (name_in a) (name_short a), one_token 62 16 (name_in b) (name_short b))

link_short : Short (λ w. 32 ∷ w) 35 (link []).read
link_short = token_short _ 34 (λ d. omega (arith, joined_short (as_array d >>= row_read (name.read ∷ name.read ∷ [])), always_most _ 34 (as_array d) (row_read (name.read ∷ name.read ∷ [])) pair_short))

-- ---- the pattern

holders : (g : ℕ) (word : List ℕ) → length word ≤ 6 → Short line 89 (λ d. one (headed word (headed (decimal g) ((each name).read d))))
holders g word h = wider (omega (arith, decimal_short g)) (lined_short word (headed_short (decimal g) (each_short name_token)))

chunk_most : (g : ℕ) (before after : Items) → len line (chunks_read g before after) ≤ 89 * (items_size before + items_size after)
chunk_most g no_items no_items = omega arith
chunk_most g no_items (item a after) = omega arith
chunk_most g (item b before) no_items = omega arith
chunk_most g (item b before) (item a after) =
    let x = one (headed (codes "before") (headed (decimal g) ((each name).read b))) in
    let y = one (headed (codes "after") (headed (decimal g) ((each name).read a))) in
    let rest = chunks_read (g + 1) before after in
    omega (arith, both line x (y ⊕ rest), both line y rest, (holders g (codes "before") (omega arith)).most b, (holders g (codes "after") (omega arith)).most a, chunk_most (g + 1) before after)

chunks_of : (n : ℕ) (x y : Option Items) → 1 ≤ n → amount items_size x ≤ n → amount items_size y ≤ n
    → len line (x >>= λ before. y >>= λ after. headed (codes "custom" ∷ decimal (items_len before) ∷ []) (chunks_read 0 before after)) ≤ 250 * n
chunks_of n None y h p q = omega arith
chunks_of n (Some b) None h p q = omega arith
chunks_of n (Some b) (Some a) h p q =
    let first = codes "custom" ∷ decimal (items_len b) ∷ [] in
    omega (arith, ahead line first (chunks_read 0 b a), chunk_most 0 b a, length-append (decimal (items_len b)) (10 ∷ []), decimal_short (items_len b))

items_at : (key : List ℕ) (d : Data) → amount items_size (get key d >>= as_array) ≤ size d
items_at key d = omega (arith, found_most size items_size 1 (size d) (get key d) as_array (within key d) (λ v. omega (arith, items_within v)))

chunks_short : Short line 250 chunks_in
chunks_short = record { most = λ d. chunks_of (size d) (get (codes "before") d >>= as_array) (get (codes "after") d >>= as_array) (some_size d) (items_at (codes "before") d) (items_at (codes "after") d) }

-- ---- the whole

pub version_token : Short (λ w. 32 ∷ w) 2 version.read
version_token = fixed_short (λ d. always_most _ 2 (count_in d) _ (λ v. either_most _ 2 (v == 1) _ _ (omega arith) (either_most _ 2 (v == 2) _ _ (omega arith) (omega arith))))

group_short : Short line 106 (group []).read
group_short = object_short (λ d. member (codes "links") null (member (codes "width") null no_members)) (lined_short (codes "group") (both_short (field_short (codes "width") count_token) (field_short (codes "links") (each_short link_short))))

pub topology_short : Short line 440 topology_in
topology_short =
    let patterned = says_word (codes "version") version.read (codes "2") in
    wider (omega arith)
    (object_short (λ d. put (codes "version") null (put (codes "nodes") null (put (codes "groups") null (if patterned d then put (codes "custom") null no_members else no_members)))) (both_short (lined_short (codes "topology") (field_short (codes "version") version_token)) (both_short (lined_short (codes "nodes") (field_short (codes "nodes") (each_short name_token)))
    (both_short (field_short (codes "groups") (each_short group_short)) (if_short patterned (field_short (codes "custom") (object_short (λ d. member (codes "after") null (member (codes "before") null no_members)) chunks_short)) (nothing_short 250))))))
