-- Runs whose words ask for a family.
use Rattle.std.{proofs.Common.{arith, ◌≡◌, ◌≢◌, ◌==◌, ℕ, suc, zero, Bool, true, false, IsTrue, List, [], ◌∷◌, length, take, inl, inr, Ok, refl, sym, subst, ap, ◌∙◌, codes, bytes_eq}, specs.Fmt.digits}
use Rattle.topology_text.specs.Spelling.{spelling}
use Rattle.topology_families.specs.{declared.family_kind.FamilyKind.TheVariants.Line, Family.family_of}
use Rattle.command_words.specs.Words.{command_of}
use Rattle.command_words.specs.declared.command.Command.TheVariants as command
use Rattle.report_form.specs.Reading.{report_of}
use Rattle.report_laws.proofs.Readings.{read_by_spelling}
use Rattle.run_rules.specs.{declared.status.Status.TheVariants.{Done, SourceFailed, SinkFailed, ShelfFailed}, Commands.{Ask, opens_shelf, reads_source}, Tasks.{Write, due}, Rows.two_nodes_text}
use Rattle.sccl_run.{specs.{Laws.IsRightRun, Rows.{all_tell, family_run}, TopCall.{CountValue, IsEnd}}, proofs.{Calls.{quiet, spoken}, Dues.asks_one, Ended.ended, RightRuns.{done_answered, done_not_silent}}}

is_asked : command_of family_run.words ≡ Ok (command.Family Line 2)
unfolding command_of digits
is_asked = refl

is_due : due family_run.words family_run.bytes ≡ Ok (Write (spelling (family_of Line 2)))
unfolding due command_of digits
is_due = refl

text : spelling (family_of Line 2) ≡ two_nodes_text
unfolding spelling digits
text = refl

-- the words ask for a family alone
reads_nothing : Ask reads_source family_run.words → ⊥
reads_nothing ask = let reads : IsTrue (reads_source (Ok (command.Family Line 2))) = asks_one reads_source family_run.words (command.Family Line 2) is_asked ask in absurd (cc)

opens_nothing : Ask opens_shelf family_run.words → ⊥
opens_nothing ask = let opens : IsTrue (opens_shelf (Ok (command.Family Line 2))) = asks_one opens_shelf family_run.words (command.Family Line 2) is_asked ask in absurd (cc)

-- ---- the run that is right

pub family_is_right : (n : ℕ) → IsRightRun family_run (record { before = n; now = n }) (record { before = n; now = n }) (record { before = n; now = n })
unfolding due command_of digits
family_is_right n = record {
  call = record { source_fails = quiet SourceFailed Done _ (λ e. cc) refl; sink_fails = quiet SinkFailed Done _ (λ e. cc) refl; shelf_fails = quiet ShelfFailed Done _ (λ e. cc) refl; reads = λ e. absurd (cc); unread = λ _. refl; opens = λ e. absurd (cc); unopened = λ _ name. refl; behind_source = λ e name. refl; behind_refusals = λ no name. refl; silent = λ silent. absurd (done_not_silent Done refl silent) };
  left = λ told. record { read = λ ask _ _. absurd (reads_nothing ask); memory = λ e. absurd (cc); failed = λ e. absurd (cc) };
  came = codes "left";
  are = λ told ask. refl;
  read = report_of;
  reads = read_by_spelling;
  end = subst (λ d. IsEnd d family_run all_tell) (sym is_due) (inl (record { status = Done; text = two_nodes_text; answer = record { says = record { status = refl; text = sym text }; stay = λ told name. refl }; count = length two_nodes_text; stands = inl (refl, omega arith); written = λ told. refl }));
}

-- ---- runs that are not

done_so : (now : List ℕ) → now ≢ two_nodes_text → (a b c : CountValue) → IsRightRun (record family_run { now = now }) a b c → ⊥
done_so now other a b c run =
    let x = record family_run { now = now } in
    let end = done_answered (Ok (Write (spelling (family_of Line 2)))) x (ended x a b c _ run is_due) refl in
    other (end.written refl ∙ end.answer.says.text ∙ text)

-- what a test tells apart is not the same
pub differ : (f : List ℕ → Bool) (a b : List ℕ) → f a ≡ true → f b ≡ false → a ≡ b → ⊥
differ f a b at bt e = let same : true ≡ false = sym at ∙ ap f e ∙ bt in absurd (cc)

pub left_out_is_wrong : (a b c : CountValue) → IsRightRun (record family_run { now = [] }) a b c → ⊥
left_out_is_wrong = done_so [] (λ e. cc)

pub other_text_is_wrong : (a b c : CountValue) → IsRightRun (record family_run { now = codes "topology 1\nnodes n0 n1\ngroup 1 n0>n1\n" }) a b c → ⊥
other_text_is_wrong = done_so (codes "topology 1\nnodes n0 n1\ngroup 1 n0>n1\n") (differ (bytes_eq (codes "topology 1\nnodes n0 n1\ngroup 1 n0>n1\n")) (codes "topology 1\nnodes n0 n1\ngroup 1 n0>n1\n") two_nodes_text refl refl)

begins : ℕ → List ℕ → Bool
begins x [] = false
begins x (y ∷ ys) = y == x

-- what begins a text has its first byte, or none
begins_so : (count : ℕ) → codes "n" ≡ take count two_nodes_text → ⊥
unfolding begins
begins_so zero e = absurd (cc)
begins_so (suc count) e = differ (begins 110) (codes "n") (take (suc count) two_nodes_text) refl refl e

pub no_part_is_wrong : (a b c : CountValue) → IsRightRun (record family_run { status = SinkFailed; now = codes "n" }) a b c → ⊥
no_part_is_wrong a b c run =
    let x = record family_run { status = SinkFailed; now = codes "n" } in
    elim (ended x a b c (Ok (Write (spelling (family_of Line 2)))) run is_due) [
      | inl end ↦ begins_so end.count (end.written refl ∙ ap (take end.count) (end.answer.says.text ∙ text))
      | inr halt ↦ spoken SinkFailed (λ e. cc) (λ e. cc) (λ e. cc) halt.silent
    ]

pub source_is_wrong : (a b c : CountValue) → IsRightRun (record family_run { status = SourceFailed; now = [] }) a b c → ⊥
source_is_wrong a b c run = reads_nothing (run.call.reads refl)

pub shelf_is_wrong : (a b c : CountValue) → IsRightRun (record family_run { status = ShelfFailed; now = [] }) a b c → ⊥
shelf_is_wrong a b c run = opens_nothing (run.call.opens refl)
