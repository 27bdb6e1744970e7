-- How large a trial's search is at most.
use Rattle.std.proofs.{Common.{◌≡◌, arith, ℕ, ◌+◌, ◌*◌, ◌%◌, ◌≤◌, List, [], ◌∷◌, length, map, get_or, All, sum_by}, lemmas.{Nat.mul-le, List.{length-map, Elements.{All-nil, All-cons, All-get_or, All-map}}}}
use Rattle.std.proofs.lemmas.List.{Sums.{length-filter, count_by-le-length, sum_by-le}, FromFn.length-map-range_with_len}
use Rattle.outer_ports.specs.declared.part.Part.TheVariants.{Whole}
use Rattle.schedule.specs.Links.{GroupValue, IsTopology, usable_links}
use Rattle.collective_spec.specs.{declared.kind.Kind.Kind, Collectives.chunks_of}
use Rattle.collective_spec.specs.declared.kind.Kind.TheVariants as kind
use Rattle.candidate_formula.{specs.Sizes.size_of, proofs.Links.few_usable}
use Rattle.round_encoding.specs.Candidates.{group_size}
use Rattle.topology_families.{proofs.FamilyLinks.length-pairs, specs.{declared.family_kind.FamilyKind.FamilyKind, Family.{family_groups, family_links, family_of, is_family_link, numbered_name, one_wide, pairs, single}}}
use Rattle.topology_families.specs.declared.family_kind.FamilyKind.TheVariants as family
use Rattle.report_form.specs.Reports.{WordsValue, question_of}
use Rattle.run_rules.specs.Trials.{trial_family}

few_links : (kind : FamilyKind) (size : ℕ) → size ≤ 10 → length (family_links kind size) ≤ 100
few_links kind size few =
    let kept = length-filter (is_family_link kind size) (pairs size) in
    let most = count_by-le-length (is_family_link kind size) (pairs size) in
    omega (arith, kept, most, length-pairs size, mul-le size size 10 10 few few)

few_chunks : (k : Kind) (nodes c : ℕ) → nodes ≤ 10 → c ≤ 10 → chunks_of k nodes c ≤ 100
few_chunks kind.Broadcast nodes c few small = omega (arith, small)
few_chunks kind.Reduce nodes c few small = omega (arith, small)
few_chunks kind.Custom nodes c few small = omega arith
few_chunks _ nodes c few small = mul-le nodes c 10 10 few small

module _ (chunks steps extra : ℕ) (few : chunks ≤ 100) (short : steps ≤ 4) (little : extra ≤ 1) where
  -- a group of links of width 1
  one_group : (links : List (ℕ × ℕ)) → group_size chunks steps extra (one_wide links) ≤ length links * 1200
  one_group links =
      let n = length links in
      let width : 1 * (1 + extra) + 1 ≤ 3 = omega (arith, little) in
      let sent : n * chunks ≤ n * 100 = mul-le n chunks n 100 (omega arith) few in
      let counted : n * chunks * steps ≤ n * 100 * 4 = mul-le (n * chunks) steps (n * 100) 4 sent short in
      let all : n * chunks * steps * (1 * (1 + extra) + 1) ≤ n * 100 * 4 * 3 = mul-le (n * chunks * steps) (1 * (1 + extra) + 1) (n * 100 * 4) 3 counted width in
      omega (arith, all)

  single_groups : (links : List (ℕ × ℕ)) → sum_by (group_size chunks steps extra) (map single links) ≤ length links * 1200
  single_groups links =
      let P : GroupValue → Type 0 = λ group. group_size chunks steps extra group ≤ 1200 in
      let each : All (λ link. P (single link)) links = λ k d low. let own = one_group (get_or links k d ∷ []) in omega (arith, own) in
      let all = sum_by-le (group_size chunks steps extra) 1200 (map single links) (All-map P single links each) in
      let many = length-map links single in
      omega (arith, all, many)

  shared_group : (links : List (ℕ × ℕ)) → sum_by (group_size chunks steps extra) (one_wide links ∷ []) ≤ length links * 1200
  shared_group links = let own = one_group links in omega (arith, own)

-- with few chunks, steps and extra rounds its groups are small, by the number of its links
abbrev pub IsLight : ℕ → FamilyKind → Type 0
IsLight size kind = (chunks steps extra : ℕ) → chunks ≤ 100 → steps ≤ 4 → extra ≤ 1 → sum_by (group_size chunks steps extra) (family_groups kind size) ≤ length (family_links kind size) * 1200

-- so are the families of trials
pub trial_light : (n size : ℕ) → IsLight size (trial_family n)
trial_light n size = All-get_or (IsLight size) (family.Line ∷ family.Ring ∷ family.Complete ∷ family.Shared ∷ []) (n % 4) family.Line (omega arith) line
  where
    shared : All (IsLight size) (family.Shared ∷ [])
    shared = All-cons (IsLight size) family.Shared [] (λ chunks steps extra few short little. shared_group chunks steps extra few short little (family_links family.Shared size)) (All-nil (IsLight size))

    complete : All (IsLight size) (family.Complete ∷ family.Shared ∷ [])
    complete = All-cons (IsLight size) family.Complete (family.Shared ∷ []) (λ chunks steps extra few short little. single_groups chunks steps extra few short little (family_links family.Complete size)) shared

    ring : All (IsLight size) (family.Ring ∷ family.Complete ∷ family.Shared ∷ [])
    ring = All-cons (IsLight size) family.Ring (family.Complete ∷ family.Shared ∷ []) (λ chunks steps extra few short little. single_groups chunks steps extra few short little (family_links family.Ring size)) complete

    line : All (IsLight size) (family.Line ∷ family.Ring ∷ family.Complete ∷ family.Shared ∷ [])
    line = All-cons (IsLight size) family.Line (family.Ring ∷ family.Complete ∷ family.Shared ∷ []) (λ chunks steps extra few short little. single_groups chunks steps extra few short little (family_links family.Line size)) ring

-- with few nodes, steps and chunks
pub family_small : (w : WordsValue) (kind : FamilyKind) (size : ℕ) → IsTopology (family_of kind size).topology → IsLight size kind → size ≤ 10 → w.limits.max_c ≤ 10 → w.limits.max_s ≤ 4 → w.limits.k ≤ 1
    → size_of (question_of w (family_of kind size) Whole) ≤ 222400
family_small w kind size is light few chunks steps extra =
    let q = question_of w (family_of kind size) Whole in
    let t = (family_of kind size).topology in
    let as_many : t.nodes ≡ size = length-map-range_with_len numbered_name 0 size in
    let most : chunks_of w.collective.kind t.nodes w.limits.max_c ≤ 100 = few_chunks w.collective.kind t.nodes w.limits.max_c (omega (arith, as_many, few)) chunks in
    let c = chunks_of w.collective.kind t.nodes w.limits.max_c in
    let usable = few_usable t is in
    let sends : c * length (usable_links t) * w.limits.max_s ≤ 100 * 256 * 4 = mul-le (c * length (usable_links t)) w.limits.max_s (100 * 256) 4 (mul-le c (length (usable_links t)) 100 256 most usable) steps in
    let groups = light c w.limits.max_s w.limits.k most steps extra in
    let links = few_links kind size few in
    omega (arith, sends, groups, links)
