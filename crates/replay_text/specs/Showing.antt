-- What the replay of a point shows: the lines of the nodes after each step, the verdict, and a run of its programs in an order. This project's own text.
use Rattle.std.specs.{Prelude.{◌&&◌, ℕ, ◌+◌, not, Bool, true, false, if◌then◌else◌, List, [], ◌∷◌, ◌++◌, length, map, Option, None, Some, unwrap_or, codes, decimal}, List.{range_with_len, last_or}}
use Rattle.outer_ports.specs.declared.part.Part.{Part}
use Rattle.outer_ports.specs.declared.part.Part.TheVariants as part
use Rattle.schedule.specs.{Bags.{Bags, contributions, of_placement, held_at_2}, Running.run_of, JoinedRuns.joined_run, declared.verdict.Verdict.Verdict, Judging.verdict_of}
use Rattle.inversion.specs.{declared.verdict.SumVerdict.{SumVerdict, TheVariants.{Sums, Missing, Twice, Overfull, NoLink, Clash}}, Saying.{says_solves, says_sums}}
use Rattle.allreduce_join.specs.Judging.{summed_verdict_of}
use Rattle.collective_spec.specs.{declared.instance.Instance.Instance, Collectives.{spec_instance, spec_demand, chunks_in, adds_up}}
use Rattle.candidate_order.specs.{declared.mark.Mark.Mark, Frontiers.{QuestionValue, PointValue}}
use Rattle.candidate_order.specs.declared.mark.Mark.TheVariants as mark
use Rattle.node_programs.specs.{Programs.programs_of, Machines.{State, started}, Runs.{operations, chosen}}
use Rattle.bag_runs.specs.Stores.{stored}
use Rattle.text_lines.specs.Text.{text_of}
use Rattle.topology_text.specs.Spelling.{name_at}
use Rattle.report_form.specs.Reports.{ReportValue, question_of}
use Rattle.replay_text.specs.Replay.{held_lines, numbered_steps, verdict_words}

-- a point, its part, and what its part is asked for
pub record Shown : Type 0 where
  pub names : List (List ℕ)
  pub question : QuestionValue
  pub part : Part
  pub point : PointValue

abbrev pub shown_in : ReportValue → Part × PointValue → Shown
shown_in r x = record { names = r.topology.names; question = question_of r.words r.topology x.0; part = x.0; point = x.1 }

-- ---- what the point stands for

abbrev pub nodes_of : Shown → ℕ
nodes_of x = x.question.topology.nodes

abbrev pub chunks_at : Shown → ℕ
chunks_at x = chunks_in x.question.spec (nodes_of x) x.point.candidate.c

abbrev pub instance_at : Shown → Instance
instance_at x = spec_instance x.question.spec (nodes_of x) x.point.candidate.c

-- a joined point and a reduction add up; every other collective copies
abbrev pub is_joined : Part → Bool
is_joined part.Joined = true
is_joined _ = false

abbrev pub is_copied : Shown → Bool
is_copied x = not (is_joined x.part) && not (adds_up x.question.spec)

-- how many of the first steps add up: those that the mark of a joined point says, and else all, as in a reduction
abbrev pub steps_that_add : Mark → ℕ → ℕ
steps_that_add (mark.Joined adding) steps = adding
steps_that_add _ steps = steps

abbrev pub adding_of : Shown → ℕ
adding_of x = if is_copied x then 0 else steps_that_add x.point.mark (length x.point.schedule.rounds)

-- ---- the lines of the nodes

-- a node's name, and each chunk with a digit for each node: how often it has contributed, where 2 stands for two or more
abbrev pub bag_lines : Shown → Bags → List (List (List ℕ))
bag_lines x bags =
    map (λ node. name_at x.names node ∷ map (λ chunk. decimal chunk ++ 61 ∷ map (λ count. 48 + count) (held_at_2 (bags (chunk, node)))) (range_with_len 0 (chunks_at x))) (range_with_len 0 (nodes_of x))

-- after step 0, 1 and so on: the chunks that each node holds, or its bags
abbrev pub shown_steps : Shown → List (List (List (List ℕ)))
shown_steps x =
    if is_copied x
    then map (held_lines x.names) (run_of (instance_at x).pre x.point.schedule)
    else map (bag_lines x) (joined_run (contributions (nodes_of x)) x.point.schedule (adding_of x))

-- ---- the verdict

-- nodes by name, groups by number
abbrev pub sum_words : List (List ℕ) → SumVerdict → List (List ℕ)
sum_words names Sums = codes "holds" ∷ []
sum_words names (Missing chunk node of) = codes "missing" ∷ decimal chunk ∷ name_at names node ∷ name_at names of ∷ []
sum_words names (Twice chunk node of) = codes "twice" ∷ decimal chunk ∷ name_at names node ∷ name_at names of ∷ []
sum_words names (Overfull step group count) = codes "overfull" ∷ decimal step ∷ decimal group ∷ decimal count ∷ []
sum_words names (NoLink h) = codes "nolink" ∷ decimal h.chunk ∷ name_at names h.from ∷ name_at names h.to ∷ decimal h.step ∷ []
sum_words names (Clash chunk node step) = codes "clash" ∷ decimal chunk ∷ name_at names node ∷ decimal step ∷ []

abbrev pub summed_verdict : Shown → SumVerdict
summed_verdict x = summed_verdict_of x.question.topology (spec_demand x.question.spec (nodes_of x) x.point.candidate.c) x.point.schedule (adding_of x)

abbrev pub copied_verdict : Shown → Verdict
copied_verdict x = verdict_of x.question.topology (instance_at x).pre (instance_at x).post x.point.schedule

abbrev pub shown_verdict : Shown → List (List ℕ)
shown_verdict x = if is_copied x then verdict_words x.names (copied_verdict x) else sum_words x.names (summed_verdict x)

abbrev pub holds_as_shown : Shown → Bool
holds_as_shown x = if is_copied x then says_solves (copied_verdict x) else says_sums (summed_verdict x)

-- ---- the programs, and their run in an order

-- from what is held, or from one contribution of each node
abbrev pub machine_of : Shown → State
machine_of x =
    started (programs_of (nodes_of x) x.point.schedule (adding_of x))
    (stored (chunks_at x) (nodes_of x) (if is_copied x then of_placement (instance_at x).pre else contributions (nodes_of x)))

-- how many events a run has, which nodes move, and what they have in the end
abbrev pub order_lines : Shown → Option ℕ → List (List (List ℕ))
order_lines x None = []
order_lines x (Some seed) =
    (codes "order" ∷ decimal seed ∷ [])
    ∷ (codes "events" ∷ decimal (operations (machine_of x)) ∷ [])
    ∷ (codes "moves" ∷ map (name_at x.names) (chosen (machine_of x) seed))
    ∷ unwrap_or (last_or None (shown_steps x)) []

-- the number of the point, its steps, the verdict, and, only where this holds, the order
unfoldable pub shown_text : ℕ → Shown → Option ℕ → List ℕ
shown_text number x order =
    text_of ((codes "replay" ∷ decimal number ∷ [])
    ∷ (numbered_steps 0 (shown_steps x) ++ (shown_verdict x ∷ ((if holds_as_shown x then order_lines x order else []) ++ (codes "end" ∷ []) ∷ []))))
