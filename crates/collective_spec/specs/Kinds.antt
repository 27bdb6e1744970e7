-- The kinds of collectives (Cai et al., PPoPP 2021, table of collectives).
use Rattle.std.specs.Prelude.{ℕ, ◌%◌, ◌==◌, ◌&&◌, ◌||◌, not, Bool, true, false, List, [], ◌∷◌, ◌++◌, map, nat_le, codes, Option, None, Some, is_none, option_map, unwrap_or}
use Rattle.collective_spec.specs.declared.{kind.Kind.{Kind, TheVariants.{Broadcast, Gather, Allgather, Scatter, Alltoall, Reduce, Reducescatter, Allreduce, Custom}}, layout.Layout.{Layout, TheVariants.{All, Root, Scattered, Transpose}}}

-- a standard kind: its number and its word; whether the chunk count is that of each node, and not of all, and whether it is a multiple of
-- the number of nodes; where the chunks are before (or to which chunk which node contributes) and where they or their sums have to be
-- after, if this node is the root; whether it adds up what the nodes contribute, and whether all is at one node at one end
pub record KindRow : Type 0 where
  pub number : ℕ
  pub word : List ℕ
  pub per_node : Bool
  pub evenly : Bool
  pub before : ℕ → Layout
  pub after : ℕ → Layout
  pub reduces : Bool
  pub takes_root : Bool

abbrev pub kind_row : ℕ → List ℕ → Bool → Bool → (ℕ → Layout) → (ℕ → Layout) → Bool → Bool → KindRow
kind_row number word per_node evenly before after reduces takes_root =
    record { number = number; word = word; per_node = per_node; evenly = evenly; before = before; after = after; reduces = reduces; takes_root = takes_root }

-- the row of a kind. `Custom`, this project's own, has none: users give where the chunks are before and after
abbrev pub row_of : Kind → Option KindRow
row_of Broadcast = Some (kind_row 0 (codes "broadcast") false false Root (λ root. All) false true)
row_of Gather = Some (kind_row 1 (codes "gather") true false (λ root. Scattered) Root false true)
row_of Allgather = Some (kind_row 2 (codes "allgather") true false (λ root. Scattered) (λ root. All) false false)
row_of Scatter = Some (kind_row 3 (codes "scatter") true false Root (λ root. Scattered) false true)
row_of Alltoall = Some (kind_row 4 (codes "alltoall") true true (λ root. Scattered) (λ root. Transpose) false false)
row_of Reduce = Some (kind_row 5 (codes "reduce") false false (λ root. All) Root true true)
row_of Reducescatter = Some (kind_row 6 (codes "reducescatter") true false (λ root. All) (λ root. Scattered) true false)
row_of Allreduce = Some (kind_row 7 (codes "allreduce") true false (λ root. All) (λ root. All) true false)
row_of Custom = None

-- users give where the chunks are before and have to be after
abbrev pub is_custom : Kind → Bool
is_custom kind = is_none (row_of kind)

-- the number that stands for a kind
abbrev pub number_of : Kind → ℕ
number_of kind = unwrap_or (option_map (λ row. row.number) (row_of kind)) 8

-- the word that names a kind
abbrev pub word_of : Kind → List ℕ
word_of kind = unwrap_or (option_map (λ row. row.word) (row_of kind)) (codes "custom")

abbrev pub takes_root : Kind → Bool
takes_root kind = unwrap_or (option_map (λ row. row.takes_root) (row_of kind)) false

-- the kinds, in the order of their numbers; the last is the one whose pairs are given
abbrev pub standard_kinds : List Kind
standard_kinds = Broadcast ∷ Gather ∷ Allgather ∷ Scatter ∷ Alltoall ∷ Reduce ∷ Reducescatter ∷ Allreduce ∷ []

abbrev pub every_kind : List Kind
every_kind = standard_kinds ++ Custom ∷ []

-- each kind's word, with its number
abbrev pub kind_rows : List (List ℕ × ℕ)
kind_rows = map (λ kind. (word_of kind, number_of kind)) every_kind

-- the chunk count may be c; in an all-to-all each node has a chunk for each node
abbrev pub allows : Kind → ℕ → ℕ → Bool
allows kind nodes c = nat_le 1 c && unwrap_or (option_map (λ row. not row.evenly || c % nodes == 0) (row_of kind)) true
