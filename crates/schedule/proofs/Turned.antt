-- A topology whose links are turned round.
use Rattle.std.proofs.{Common.{◌≡◌, ℕ, ◌+◌, ◌<◌, List, [], ◌∷◌, ◌++◌, length, get_or, map, take, sym, ap, ◌∙◌, arith, ◌≢◌, All}, lemmas.List.{Elements.All-map, take_more, map-append, length-map, get_or-map}}
use Rattle.schedule.specs.Links.{GroupValue, TopologyValue, IsLink, IsGroup, IsBelow, IsTopology, turned, reversed_group, reversed_of}

-- one more turn of a loop over a list that pushes a value for each element
pub pushes_mapped : {X Y : Type 0} (before after : List Y) (f : X → Y) (xs : List X) (i : ℕ) (d : X) → i < length xs
    → before ≡ map f (take i xs) → after ≡ before ++ f (get_or xs i d) ∷ [] → after ≡ map f (take (i + 1) xs)
pushes_mapped before after f xs i d low b a = grind (arith, take_more xs i d low, map-append f (take i xs) (get_or xs i d ∷ []))

apart_turned : (a b : ℕ × ℕ) → (a ≢ b) → turned a ≢ turned b
apart_turned a b apart same = apart (ap turned same)

pub turned_group : (g : GroupValue) → IsGroup g → IsGroup (reversed_group g)
turned_group g ok = record {
  positive = ok.positive;
  narrow = ok.narrow;
  some = omega (arith, ok.some, length-map g.links turned);
  each = All-map IsLink turned g.links (λ k d low. record { apart = λ e. (ok.each k d low).apart (sym e) });
  distinct = λ i j d before low.
      let within : j < length g.links = omega (arith, low, length-map g.links turned) in
      let at_i = get_or-map turned g.links i d d (omega (arith, before, within)) in
      let at_j = get_or-map turned g.links j d d within in
      λ same. apart_turned (get_or g.links i d) (get_or g.links j d) (ok.distinct i j d before within) (sym at_i ∙ same ∙ at_j);
}

pub turned_topology : (t : TopologyValue) → IsTopology t → IsTopology (reversed_of t)
turned_topology t ok = record {
  some = ok.some;
  few = ok.few;
  limit = omega (arith, ok.limit, length-map t.groups reversed_group);
  groups = All-map IsGroup reversed_group t.groups (λ k d low. turned_group (get_or t.groups k d) (ok.groups k d low));
  nodes = All-map (λ group. All (IsBelow t.nodes) group.links) reversed_group t.groups (λ k d low. All-map (IsBelow t.nodes) turned (get_or t.groups k d).links (λ i e under.
      let below = ok.nodes k d low i e under in record { from = below.to; to = below.from }));
}
