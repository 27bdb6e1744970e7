-- The JSON of a topology has the form, and stands for the topology's text.
use Rattle.std.proofs.Common.{◌≡◌, ℕ, zero, suc, ◌+◌, ◌<◌, ◌≤◌, Bool, true, false, cond, List, [], ◌∷◌, ◌++◌, map, length, Option, Some, None, refl, sym, ap, ap₂, ◌∙◌, subst, arith, codes, decimal, if◌then◌else◌, IfSome, option_map}
use Rattle.std.{proofs.lemmas.List.{map-id, Elements.{recursion_from_All, All-get_or}}, specs.List.{All, AllByRecursion, filter, flat_map, join_with_byte, range_with_len}}
use Rattle.schedule.{specs.{Links.{GroupValue, IsBelow}, Placed.{PlacementValue, holds}}, proofs.First.each_weaker}
use Rattle.collective_spec.specs.Patterns.{PatternValue, IsPattern}
use Rattle.topology_text.specs.{Names.{is_name, AreNames}, Value.{NamedTopologyValue, IsNamed}, Spelling.{name_at, link_word, header_words, nodes_words, group_words, holder_words, custom_lines, lines_of}}
use Rattle.serde_json.specs.{Data.{string, Items}, Events.items_len, View.items_of}
use Rattle.json_values.specs.{Shape.{◌⊕◌, one, headed}, Forms.{Form, each, name, via}, TopologyForm.{link, group, custom, chunks_read}, TopologyJson.{topology_json, topology_in}}

-- where the JSON of each stands for one token or line, that of the list stands for them all
pub each_one : {X A : Type 0} (form : Form A X) (shown : X → A) (xs : List X) → AllByRecursion (λ x. form.read (form.json x) ≡ Some (shown x ∷ [])) xs → (each form).read ((each form).json xs) ≡ Some (map shown xs)
each_one form shown [] h = refl
each_one form shown (x ∷ xs) h = ap₂ (λ a b. a ⊕ b) h.0 (each_one form shown xs h.1)

-- the same of some
pub each_some : {X A : Type 0} (form : Form A X) (shown : X → List A) (xs : List X) → AllByRecursion (λ x. form.read (form.json x) ≡ Some (shown x)) xs → (each form).read ((each form).json xs) ≡ Some (flat_map shown xs)
each_some form shown [] h = refl
each_some form shown (x ∷ xs) h = ap₂ (λ a b. a ⊕ b) h.0 (each_some form shown xs h.1)

name_found : (text : List ℕ) → is_name text ≡ true → name.read (string text) ≡ Some (text ∷ [])
name_found text h = ap (λ b. one (if b then Some text else None)) h

-- ---- links and groups

module _ (names : List (List ℕ)) (named : AreNames names) where
  pub name_there : (node : ℕ) → node < length names → name.read (string (name_at names node)) ≡ Some (name_at names node ∷ [])
  name_there node below = name_found (name_at names node) (All-get_or (λ n. is_name n ≡ true) names node [] below named.each)

  link_found : (l : ℕ × ℕ) → IsBelow (length names) l → (link names).read ((link names).json l) ≡ Some (link_word names l ∷ [])
  link_found l below = ap₂ (λ from to. one (option_map (join_with_byte 62) (from ⊕ to ⊕ Some []))) (name_there l.0 below.from) (name_there l.1 below.to)

  group_found : (g : GroupValue) → All (IsBelow (length names)) g.links → (group names).read ((group names).json g) ≡ Some (group_words names g ∷ [])
  group_found g below =
      let links = each_weaker (IsBelow (length names)) _ link_found g.links (recursion_from_All (IsBelow (length names)) g.links below) in
      ap (λ words. one (headed (codes "group") (Some (decimal g.width ∷ []) ⊕ words))) (each_one (link names) (link_word names) g.links links)

  -- ---- the pattern

  abbrev Found : ℕ → Type 0
  Found node = name.read (string (name_at names node)) ≡ Some (name_at names node ∷ [])

  one_or : (b : Bool) (node : ℕ) (rest : List ℕ) → Found node → AllByRecursion Found rest → AllByRecursion Found (cond b (node ∷ rest) rest)
  one_or true node rest h k = (h, k)
  one_or false node rest h k = k

  passing_below : (test : ℕ → Bool) (a n : ℕ) → a + n ≤ length names → AllByRecursion Found (filter test (range_with_len a n))
  passing_below test a zero h = tt
  passing_below test a (suc n) h = one_or (test a) a (filter test (range_with_len (a + 1) n)) (name_there a (omega arith)) (passing_below test (a + 1) n (omega arith))

  abbrev held : PlacementValue → ℕ → List ℕ
  held p g = filter (λ node. holds p (g, node)) (range_with_len 0 p.nodes)

  holders_found : (p : PlacementValue) → p.nodes ≤ length names → (g : ℕ) → (each name).read ((each (via (name_at names) name)).json (held p g)) ≡ Some (map (name_at names) (held p g))
  holders_found p fits g = each_one (via (name_at names) name) (name_at names) (held p g) (passing_below (λ node. holds p (g, node)) 0 p.nodes (omega arith))

  abbrev lines_of_chunk : PatternValue → ℕ → List (List (List ℕ))
  lines_of_chunk p g = holder_words names (codes "before") p.before g ∷ holder_words names (codes "after") p.after g ∷ []

  -- who holds the chunks from g on
  abbrev listed : PlacementValue → ℕ → ℕ → Items
  listed p g n = items_of (map (each (via (name_at names) name)).json (map (held p) (range_with_len g n)))

  chunks_found : (p : PatternValue) → p.before.nodes ≤ length names → p.after.nodes ≤ length names → (g n : ℕ) → chunks_read g (listed p.before g n) (listed p.after g n) ≡ Some (flat_map (lines_of_chunk p) (range_with_len g n))
  chunks_found p before_fits after_fits g zero = refl
  chunks_found p before_fits after_fits g (suc n) = rw (holders_found p.before before_fits g, holders_found p.after after_fits g, chunks_found p before_fits after_fits (g + 1) n) refl

  counted : (p : PlacementValue) (g n : ℕ) → items_len (listed p g n) ≡ n
  counted p g zero = refl
  counted p g (suc n) = ap suc (counted p (g + 1) n)

  custom_found : (p : PatternValue) → p.before.nodes ≤ length names → p.after.nodes ≤ length names → (custom names).read ((custom names).json p) ≡ Some (custom_lines names (Some p))
  custom_found p before_fits after_fits = rw (chunks_found p before_fits after_fits 0 p.base, counted p.before 0 p.base) refl

  -- ---- the whole

  groups_found : (groups : List GroupValue) → All (λ g. All (IsBelow (length names)) g.links) groups → (each (group names)).read ((each (group names)).json groups) ≡ Some (map (group_words names) groups)
  groups_found groups below = each_one (group names) (group_words names) groups (each_weaker _ _ group_found groups (recursion_from_All _ groups below))

  names_found : (each name).read ((each name).json names) ≡ Some names
  names_found = each_one name (λ n. n) names (each_weaker _ _ name_found names (recursion_from_All _ names named.each)) ∙ ap Some (map-id names)

  with_custom : (nodes : ℕ) (groups : List GroupValue) (p : Option PatternValue) → All (λ g. All (IsBelow (length names)) g.links) groups → IfSome p (IsPattern nodes) → length names ≡ nodes
      → topology_in (topology_json (record { names = names; topology = record { nodes = nodes; groups = groups }; custom = p })) ≡ Some (header_words p ∷ nodes_words names ∷ map (group_words names) groups ++ custom_lines names p)
  with_custom nodes groups None below fits many = rw (names_found, groups_found groups below) refl
  with_custom nodes groups (Some p) below fits many = rw (names_found, groups_found groups below, custom_found p (omega (arith, fits.before_nodes)) (omega (arith, fits.after_nodes))) refl

pub topology_form : (t : NamedTopologyValue) → IsNamed t → topology_in (topology_json t) ≡ Some (lines_of t)
topology_form t named =
    let below = subst (λ n. All (λ g. All (IsBelow n) g.links) t.topology.groups) (sym named.as_many) named.topology.nodes in
    with_custom t.names named.names t.topology.nodes t.topology.groups t.custom below named.custom named.as_many
