-- The line that is blamed is the first at which the text can't go on to be a topology's.
use Rattle.std.proofs.Common.{◌≡◌, ◌≢◌, ℕ, ◌-◌, List, take, Result, Ok, Err, inl, inr, refl, sym, ap, ◌∙◌, arith, IfErr}
use Rattle.text_lines.{specs.Text.start, proofs.Gives.cut_agrees}
use Rattle.topology_text.specs.{declared.fault.{TopologyCode.{TopologyCode, TheVariants.OutOfMemory}, TopologyFault.TopologyFault}, Answer.Answers, First.{Agrees, FailsFirstAt}, Value.{NamedTopologyValue, IsNamed}}
use Rattle.topology_text.{specs.{Spelling.{lines_of, spelling}, Reading.topology_of}, proofs.{Laws.{rows_of_spelling, whole_at, whole_gives, all_again}, SteadyParts.settles_topology}}

-- no topology has the line that is blamed behind the lines before it
none_agrees : (text : List ℕ) (e : TopologyCode × ℕ) → whole_at (start text) ≡ Err e → (t : NamedTopologyValue) → IsNamed t → Agrees e.1 text t → ⊥
unfolding topology_of
none_agrees text e failed t ok same =
    let fails = (settles_topology.at (start text)).err e failed in
    let late = fails.late in
    let wrong = (fails.alike (start (spelling t)) (record { many = e.1; number = refl; up_to = omega arith; rows = same })).is in
    let read : whole_at (start (spelling t)) ≡ Ok t = all_again t ok in
    absurd (cc)

fails_first : (text : List ℕ) (e : TopologyCode × ℕ) → topology_of text ≡ Err e → FailsFirstAt text e.1
unfolding topology_of
fails_first text e failed =
    let s = (whole_gives (start text)).err e failed in
    record {
      before = (s.value, s.valid, cut_agrees (lines_of s.value) (start text) e.1 refl s.cut ∙ ap (take (e.1 - 1)) (sym (rows_of_spelling s.value s.valid)));
      now = none_agrees text e failed;
    }

pub blames : (text : List ℕ) (r : Result NamedTopologyValue TopologyFault) → Answers r (topology_of text) → IfErr r (λ fault. fault.code ≢ OutOfMemory → FailsFirstAt text fault.line)
blames text (Ok t) e = tt
blames text (Err fault) (inl none) = λ other. absurd (other none.0)
blames text (Err fault) (inr e) = λ other. fails_first text (fault.code, fault.line) e
