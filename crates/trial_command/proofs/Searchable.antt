-- Each trial is a search that can be done.
use Rattle.std.proofs.{Common.{◌≡◌, arith, ℕ, ◌/◌, ◌%◌, ◌≤◌, not, true, [], ◌∷◌, length, map, None, refl, sym, subst}, lemmas.List.{FromFn.{get_or-range_with_len, length-map-range_with_len}, Sums.AllPass-from_list_all}}
use Rattle.std.specs.List.{list_all, range_with_len}
use Rattle.outer_ports.specs.declared.part.Part.TheVariants.{Whole}
use Rattle.collective_spec.specs.{declared.kind.Kind.Kind, Kinds.is_custom}
use Rattle.collective_spec.specs.declared.kind.Kind.TheVariants as kind
use Rattle.candidate_formula.specs.Sizes.{size_of}
use Rattle.round_encoding.specs.Candidates.{size_limit}
use Rattle.topology_text.specs.Value.{IsNamed}
use Rattle.topology_families.{specs.{declared.family_kind.FamilyKind.{FamilyKind, TheVariants.{Line, Ring, Complete, Shared}}, Family.{family_groups, family_of, is_allowed, numbered_name}}, proofs.FamilyLaws.family_named}
use Rattle.report_form.specs.Reports.{IsWords, question_of}
use Rattle.frontier_audit.specs.Searches.{IsAsked}
use Rattle.run_rules.specs.Trials.{trial_chunks, trial_family, trial_kind, trial_size, trial_words}
use Rattle.trial_command.{specs.Counts.trial_topology, proofs.Small.{family_small, trial_light}}

-- every kind has every size
sizes_allowed : (n : ℕ) → is_allowed (trial_family n) (trial_size n) ≡ true
sizes_allowed n =
    let f = trial_family n in
    let sizes = range_with_len 3 8 in
    let each : list_all (is_allowed f) sizes ≡ true = AllPass-from_list_all (λ g. list_all (is_allowed g) sizes) (Line ∷ Ring ∷ Complete ∷ Shared ∷ []) refl (n % 4) Line (omega arith) in
    let own = AllPass-from_list_all (is_allowed f) sizes each (n / 4 % 8) 0 (omega arith) in
    subst (λ s. is_allowed f s ≡ true) (get_or-range_with_len 3 8 (n / 4 % 8) 0 (omega arith)) own

-- none has a pattern
kinds_standard : (n : ℕ) → not (is_custom (trial_kind n)) ≡ true
kinds_standard n =
    AllPass-from_list_all (λ k. not (is_custom k)) (kind.Broadcast ∷ kind.Gather ∷ kind.Allgather ∷ kind.Scatter ∷ kind.Alltoall ∷ kind.Reduce ∷ kind.Reducescatter ∷ kind.Allreduce ∷ []) refl (n / 32 % 8) kind.Broadcast (omega arith)

chunks_some : (n : ℕ) (k : Kind) → 1 ≤ trial_chunks n k
chunks_some n kind.Alltoall = omega arith
chunks_some n _ = omega arith

chunks_few : (n : ℕ) (k : Kind) → trial_chunks n k ≤ 10
chunks_few n kind.Alltoall = omega arith
chunks_few n _ = omega arith

-- its topology has names
named : (kind : FamilyKind) (size : ℕ) → is_allowed kind size ≡ true → IsNamed (family_of kind size)
named kind size e =
    let names = map numbered_name (range_with_len 0 size) in
    let P : ℕ → Type 0 = λ nodes. IsNamed (record { names = names; topology = record { nodes = nodes; groups = family_groups kind size }; custom = None }) in
    subst P (sym (length-map-range_with_len numbered_name 0 size)) (family_named kind size e)

words_of : (n : ℕ) → IsWords (length (trial_topology n).names) (trial_words n)
words_of n =
    let many = length-map-range_with_len numbered_name 0 (trial_size n) in
    record {
      limits = record {
        k = omega arith;
        some_steps = omega arith;
        steps = omega arith;
        some_chunks = chunks_some n (trial_kind n);
        chunks = let few = chunks_few n (trial_kind n) in omega (arith, few);
        some_conflicts = omega arith;
        conflicts = omega arith;
      };
      root = omega (arith, many);
      no_root = λ _. refl;
    }

pub trial_small : (n : ℕ) → size_of (question_of (trial_words n) (trial_topology n) Whole) ≤ size_limit
trial_small n =
    let small = family_small (trial_words n) (trial_family n) (trial_size n) (named (trial_family n) (trial_size n) (sizes_allowed n)).topology (trial_light n (trial_size n)) (omega arith) (chunks_few n (trial_kind n)) (omega arith) (omega arith) in
    omega (arith, small)

pub trial_asked : (n : ℕ) → IsAsked (trial_words n) (trial_topology n)
trial_asked n = record { topology = named (trial_family n) (trial_size n) (sizes_allowed n); words = words_of n; fits = kinds_standard n; small = trial_small n }
