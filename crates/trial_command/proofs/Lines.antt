-- The lines of a trial, one after the other.
use Rattle.std.proofs.Common.{◌≡◌, ℕ, List, [], ◌∷◌, ◌++◌, codes, decimal, length, refl, ap, ◌∙◌}
use Rattle.text_lines.specs.Text.{line}
use Rattle.topology_families.specs.{declared.family_kind.FamilyKind.FamilyKind, FamilyWords.family_word}
use Rattle.report_form.specs.{Reports.{ReportValue, WordsValue}, Spelling.synth_words}
use Rattle.run_rules.specs.Trials.{trial_family, trial_size, trial_text}
use Rattle.trial_command.specs.Counts.{events_in, points_in, refuted_in, replays_in, unknown_in}
use Rattle.report_printing.proofs.Pieces.{before}

abbrev pub family_line : FamilyKind → ℕ → List ℕ
family_line kind size = line (codes "family" ∷ family_word kind ∷ decimal size ∷ [])

abbrev pub counts_line : ℕ → ℕ → ℕ → ℕ → List ℕ
counts_line points refuted unknown joined =
    line (codes "points" ∷ decimal points ∷ codes "refuted" ∷ decimal refuted ∷ codes "unknown" ∷ decimal unknown ∷ codes "joined" ∷ decimal joined ∷ [])

abbrev pub replays_line : ℕ → ℕ → List ℕ
replays_line count events = line (codes "replays" ∷ decimal count ∷ codes "events" ∷ decimal events ∷ [])

abbrev pub all_lines : ℕ → List (List ℕ) → WordsValue → FamilyKind → ℕ → ℕ → ℕ → ℕ → ℕ → ℕ → ℕ → List ℕ
all_lines n names w kind size points refuted unknown joined count events =
    line (codes "trial" ∷ decimal n ∷ []) ++ (line (synth_words names w) ++ (family_line kind size ++ (counts_line points refuted unknown joined ++ (codes "check verified\n" ++ (replays_line count events ++ codes "end\n")))))

lines_are : (n : ℕ) (r : ReportValue) → all_lines n r.topology.names r.words (trial_family n) (trial_size n) (points_in r) (refuted_in r) (unknown_in r) (length r.joined) (replays_in r) (events_in r) ≡ trial_text n r
unfolding trial_text
lines_are n r = refl

-- what is appended in a row
module _ (n : ℕ) (names : List (List ℕ)) (w : WordsValue) (kind : FamilyKind) (size points refuted unknown joined count events : ℕ) where
  pub appended : (a b c d e f g h : List ℕ) → a ≡ [] → b ≡ a ++ line (codes "trial" ∷ decimal n ∷ []) → c ≡ b ++ line (synth_words names w) → d ≡ c ++ family_line kind size
      → e ≡ d ++ counts_line points refuted unknown joined → f ≡ e ++ codes "check verified\n" → g ≡ f ++ replays_line count events → h ≡ g ++ codes "end\n"
      → h ≡ all_lines n names w kind size points refuted unknown joined count events
  appended a b c d e f g h none trial asked family counts checked replays end =
      before a b h _ _ trial (before b c h _ _ asked (before c d h _ _ family (before d e h _ _ counts (before e f h _ _ checked (before f g h _ _ replays end)))))
      ∙ ap (λ t. t ++ all_lines n names w kind size points refuted unknown joined count events) none

-- of values that are those of the trial
pub lines_of_trial : (n : ℕ) (r : ReportValue) (names : List (List ℕ)) (w : WordsValue) (kind : FamilyKind) (size points refuted unknown joined count events : ℕ)
    → names ≡ r.topology.names → w ≡ r.words → kind ≡ trial_family n → size ≡ trial_size n → points ≡ points_in r → refuted ≡ refuted_in r → unknown ≡ unknown_in r → joined ≡ length r.joined → count ≡ replays_in r → events ≡ events_in r
    → all_lines n names w kind size points refuted unknown joined count events ≡ trial_text n r
lines_of_trial n r names w kind size points refuted unknown joined count events e1 e2 e3 e4 e5 e6 e7 e8 e9 e10 =
    rw (e1, e3, e4, e5, e6, e7, e8, e9, e10) (ap (λ x. all_lines n r.topology.names x (trial_family n) (trial_size n) (points_in r) (refuted_in r) (unknown_in r) (length r.joined) (replays_in r) (events_in r)) e2 ∙ lines_are n r)
