-- The words of a report, of which some may be left out: their keys and their JSON.
use Rattle.std.{proofs.Common.{◌≡◌, ℕ, Bool, true, false, List, Some, None, option_map, refl, ap, ◌∙◌, codes, if◌then◌else◌}, specs.Prelude.unwrap_or}
use Rattle.serde_json.specs.Data.{Data, null, object, string, Members, no_members, member, put}
use Rattle.json_values.specs.Json.{count_of}

abbrev pub may : Bool → List ℕ → Members → Members
may due key ms = if due then member key null ms else ms

abbrev pub may_put : Bool → List ℕ → Members → Members
may_put due key ms = if due then put key null ms else ms

-- in ascending order, and as the table puts them
abbrev pub ascending : Bool → Bool → Bool → Members
ascending cuts ordered rooted =
    member (codes "chunks") null (member (codes "collective") null (member (codes "conflicts") null (may cuts (codes "cuts") (member (codes "k") null (may ordered (codes "ordered") (may rooted (codes "root") (member (codes "steps") null no_members)))))))

abbrev pub put_in : Bool → Bool → Bool → Members
put_in cuts ordered rooted =
    put (codes "collective") null (put (codes "k") null (put (codes "steps") null (put (codes "chunks") null (put (codes "conflicts") null (may_put rooted (codes "root") (may_put cuts (codes "cuts") (may_put ordered (codes "ordered") no_members)))))))

keys_are : (cuts ordered rooted : Bool) → ascending cuts ordered rooted ≡ put_in cuts ordered rooted
keys_are true true true = refl
keys_are true true false = refl
keys_are true false true = refl
keys_are true false false = refl
keys_are false true true = refl
keys_are false true false = refl
keys_are false false true = refl
keys_are false false false = refl

pub keys_same : (a b c x y z : Bool) → a ≡ x → b ≡ y → c ≡ z → ascending a b c ≡ put_in x y z
keys_same a b c x y z p q r = ap (λ k. ascending k b c) p ∙ ap (λ k. ascending x k c) q ∙ ap (ascending x y) r ∙ keys_are x y z

abbrev pub given : Bool → List ℕ → List ℕ → Members → Members
given has key text ms = unwrap_or (option_map (λ y. put key (string y) ms) (if has then Some text else None)) ms

-- the numbers and what may be left out
abbrev pub counts_with : (k s c n : ℕ) (root : List ℕ) (rooted cuts ordered : Bool) → Members
counts_with k s c n root rooted cuts ordered =
    put (codes "k") (count_of k) (put (codes "steps") (count_of s) (put (codes "chunks") (count_of c) (put (codes "conflicts") (count_of n) (given rooted (codes "root") root (given cuts (codes "cuts") (codes "yes") (given ordered (codes "ordered") (codes "yes") no_members))))))

-- the JSON of these numbers and of these words, with what may be left out
abbrev pub words_with : (k s c n : ℕ) (kind root : List ℕ) (rooted cuts ordered : Bool) → Data
words_with k s c n kind root rooted cuts ordered = object (put (codes "collective") (string kind) (counts_with k s c n root rooted cuts ordered))
