-- The JSON of a topology: its numbers are small, its texts are names, and what is printed of it is read back.
use Rattle.std.proofs.{Common.{◌≡◌, ℕ, zero, suc, ◌^◌, ◌<◌, ◌||◌, true, false, List, [], ◌∷◌, map, Option, Some, None, option_map, refl, ap, ap₂, ◌∙◌, arith, Ok, All}, lemmas.{List.Elements.{All-head, All-tail}, Str.IsUtf8-nil}}
use Rattle.text_lines.specs.{Text.text_of, Check.◌>>=◌}
use Rattle.schedule.specs.Links.{GroupValue, IsGroup}
use Rattle.collective_spec.specs.Patterns.{PatternValue}
use Rattle.topology_text.{specs.{Names.is_name, Value.{NamedTopologyValue, IsNamed}, Spelling.{name_at, lines_of, spelling}, Reading.topology_of}, proofs.Laws.all_again}
use Rattle.serde_json.specs.{Data.{Data, string}, View.items_of, Written.{has_float, items_have_float}}
use Rattle.json_values.specs.{Json.{printed, array_of}, Answer.{of_json, of_text, topology_of_json}, Forms.{each, name, via}, TopologyForm.{link, group, custom}, TopologyJson.{topology_json, topology_text_in}}
use Rattle.json_values.proofs.{Plain.{Plain, deeper, plain_array, plain_count, plain_list, plain_object, plain_text, text_back}, Printing.name_utf8, TopologyForm.topology_form}

-- where no item is a float, there is none in the list
pub whole_items : {X : Type 0} (make : X → Data) (xs : List X) → ((x : X) → has_float (make x) ≡ false) → items_have_float (items_of (map make xs)) ≡ false
whole_items make [] h = refl
whole_items make (x ∷ xs) h = ap₂ (λ a b. a || b) (h x) (whole_items make xs h)

module _ (names : List (List ℕ)) (named : All (λ n. is_name n ≡ true) names) where
  name_in : {k : ℕ} (ns : List (List ℕ)) → All (λ n. is_name n ≡ true) ns → (node : ℕ) → Plain k (string (name_at ns node))
  name_in [] h node = plain_text [] IsUtf8-nil
  name_in (n ∷ ns) h zero = plain_text n (name_utf8 n (All-head (λ m. is_name m ≡ true) n ns h))
  name_in (n ∷ ns) h (suc node) = name_in ns (All-tail (λ m. is_name m ≡ true) n ns h) node

  pub plain_name : {k : ℕ} (node : ℕ) → Plain k (string (name_at names node))
  plain_name node = name_in names named node

  plain_link : (l : ℕ × ℕ) → Plain 1 ((link names).json l)
  plain_link l = plain_array (plain_name l.0, (plain_name l.1, tt))

  plain_group : (g : GroupValue) → g.width < 2 ^ 64 → Plain 3 ((group names).json g)
  plain_group g narrow = plain_object refl (refl, plain_list (link names).json g.links (λ i d below. plain_link _), (refl, plain_count narrow, tt))

  -- who holds each of some chunks
  plain_held : (chunks : List (List ℕ)) → Plain 2 ((each (each (via (name_at names) name))).json chunks)
  plain_held chunks = plain_list (each (via (name_at names) name)).json chunks (λ i d below. plain_list (via (name_at names) name).json _ (λ j e within. plain_name _))

  plain_custom : (p : PatternValue) → Plain 3 ((custom names).json p)
  plain_custom p = plain_object refl (refl, plain_held _, (refl, plain_held _, tt))

  plain_parts : (nodes : ℕ) (groups : List GroupValue) (custom : Option PatternValue) → All IsGroup groups → Plain 5 (topology_json (record { names = names; topology = record { nodes = nodes; groups = groups }; custom = custom }))
  plain_parts nodes groups custom h = by_pattern custom
    where
      all : Plain 4 (array_of (map (group names).json groups))
      all = plain_list (group names).json groups (λ i d below. let valid = h i d below in plain_group _ (omega (arith, valid.narrow)))

      nodes_plain : Plain 4 (array_of (map string names))
      nodes_plain = plain_list string names (λ i d below. plain_text _ (name_utf8 _ (named i d below)))

      by_pattern : (p : Option PatternValue) → Plain 5 (topology_json (record { names = names; topology = record { nodes = nodes; groups = groups }; custom = p }))
      by_pattern None = plain_object refl (refl, all, (refl, nodes_plain, (refl, plain_count (omega arith), tt)))
      by_pattern (Some p) = plain_object refl (refl, deeper (omega arith) (plain_custom p), (refl, all, (refl, nodes_plain, (refl, plain_count (omega arith), tt))))

pub plain_topology : (t : NamedTopologyValue) → IsNamed t → Plain 5 (topology_json t)
plain_topology t h = plain_parts t.names h.names.each t.topology.nodes t.topology.groups t.custom h.topology.groups

-- ---- reading what was printed

text_is : (t : NamedTopologyValue) → text_of (lines_of t) ≡ spelling t
unfolding spelling
text_is t = refl

pub topology_back : (t : NamedTopologyValue) → IsNamed t → topology_of_json (printed (topology_json t)) ≡ Ok t
topology_back t named =
    let text : topology_text_in (topology_json t) ≡ Some (spelling t) = ap (option_map text_of) (topology_form t named) ∙ ap Some (text_is t) in
    ap (λ r. of_json r >>= λ found. of_text (topology_of found)) (text_back topology_text_in (topology_json t) (spelling t) (plain_topology t named) (omega arith) text) ∙ ap of_text (all_again t named)
