-- Trials: which search a number stands for, and the text that sums it up. This project's own.
use Rattle.std.specs.Prelude.{ℕ, ◌+◌, ◌*◌, ◌/◌, ◌%◌, List, [], ◌∷◌, length, sum_by, slice_index_or, codes, decimal}
use Rattle.collective_spec.specs.declared.kind.Kind.{Kind, TheVariants.{Broadcast, Gather, Allgather, Scatter, Alltoall, Reduce, Reducescatter, Allreduce}}
use Rattle.candidate_order.specs.Ranges.{unpruned}
use Rattle.topology_families.specs.{declared.family_kind.FamilyKind.{FamilyKind, TheVariants.{Line, Ring, Complete, Shared}}, FamilyWords.family_word}
use Rattle.text_lines.specs.Text.{text_of}
use Rattle.report_form.specs.{Reports.{WordsValue, ReportValue}, Spelling.synth_words, Numbered.points_of}
use Rattle.node_programs.specs.Runs.{operations}
use Rattle.replay_text.specs.Showing.{shown_in, machine_of}

abbrev pub trial_family : ℕ → FamilyKind
trial_family n = slice_index_or (Line ∷ Ring ∷ Complete ∷ Shared ∷ []) (n % 4) Line

abbrev pub trial_size : ℕ → ℕ
trial_size n = 3 + n / 4 % 8

abbrev pub trial_kind : ℕ → Kind
trial_kind n =
    slice_index_or (Broadcast ∷ Gather ∷ Allgather ∷ Scatter ∷ Alltoall ∷ Reduce ∷ Reducescatter ∷ Allreduce ∷ []) (n / 32 % 8) Broadcast

-- an all-to-all has a chunk for each node
abbrev pub trial_chunks : ℕ → Kind → ℕ
trial_chunks n Alltoall = trial_size n
trial_chunks n _ = 1 + n / 2048 % 2

-- the search that the number stands for, from the first node
abbrev pub trial_words : ℕ → WordsValue
trial_words n = record {
  collective = record { kind = trial_kind n; root = 0 };
  limits = record { k = n / 256 % 2; max_s = 1 + n / 512 % 4; max_c = trial_chunks n (trial_kind n); conflicts = 2000; pruning = unpruned };
}

-- the search, and how many points, refuted and unknown candidates there are in all parts; each point is replayed in four orders, and each replay does all operations of its programs
unfoldable pub trial_text : ℕ → ReportValue → List ℕ
trial_text n r =
    text_of ((codes "trial" ∷ decimal n ∷ [])
    ∷ synth_words r.topology.names r.words
    ∷ (codes "family" ∷ family_word (trial_family n) ∷ decimal (trial_size n) ∷ [])
    ∷ (codes "points" ∷ decimal (sum_by (λ x. length x.1.points) r.frontiers) ∷ codes "refuted" ∷ decimal (sum_by (λ x. length x.1.refuted) r.frontiers) ∷ codes "unknown" ∷ decimal (sum_by (λ x. length x.1.unknown) r.frontiers) ∷ codes "joined" ∷ decimal (length r.joined) ∷ [])
    ∷ (codes "check" ∷ codes "verified" ∷ [])
    ∷ (codes "replays" ∷ decimal (4 * length (points_of r)) ∷ codes "events" ∷ decimal (4 * sum_by (λ p. operations (machine_of (shown_in r p))) (points_of r)) ∷ [])
    ∷ (codes "end" ∷ [])
    ∷ [])
