-- Reports with the files beside them.
use Rattle.std.specs.Prelude.{ℕ, ◌==◌, ◌&&◌, Bool, true, false, if◌then◌else◌, List, [], ◌∷◌, ◌++◌, None, Some, codes}
use Rattle.outer_ports.specs.{declared.{part.Part.TheVariants.Whole, proof_name.{FileKind.TheVariants.{Cnf, Lrat, Partial}, ProofName.ProofName}}, Files.{Files, part_number, kind_number}}
use Rattle.cnf_formula.specs.Formulas.{FormulaValue}
use Rattle.lrat_text.specs.Printing.{cnf_text}
use Rattle.schedule.specs.{declared.hop.Hop.Hop, Placed.PlacementValue, Rows.send}
use Rattle.candidate_order.specs.{declared.{candidate.Candidate.Candidate, mark.Mark.{Mark, TheVariants.{Optimal, Open}}, pruning.Pruning.Pruning}, Rows.at, Ranges.unpruned}
use Rattle.candidate_order.specs.Frontiers.{QuestionValue, PointValue, UnknownValue, FrontierValue}
use Rattle.collective_spec.specs.declared.kind.Kind.{Kind, TheVariants.{Broadcast, Custom}}
use Rattle.topology_text.specs.Value.{NamedTopologyValue}
use Rattle.topology_families.specs.{declared.family_kind.FamilyKind.TheVariants.Ring, Family.family_of}
use Rattle.report_form.specs.{Reports.{WordsValue, ReportValue, question_of}, Rows.{point, two_nodes, relay_report, allreduce_report}}
use Rattle.candidate_formula.specs.Files.{file_of}
unfoldable pub use Rattle.std.specs.Fmt.{digits}

abbrev pub same_name : ProofName → ProofName → Bool
same_name a b = kind_number a.kind == kind_number b.kind && part_number a.part == part_number b.part && a.s == b.s && a.r == b.r && a.c == b.c

-- the files of a list of names and bytes
abbrev pub shelf : List (ProofName × List ℕ) → Files
shelf [] name = None
shelf (entry ∷ entries) name = if same_name entry.0 name then Some entry.1 else shelf entries name

abbrev pub one_step : Candidate
one_step = at 1 1 1

-- a search of this kind, with so many extra rounds, steps and chunks
abbrev pub words : Kind → ℕ → ℕ → ℕ → WordsValue
words kind k steps chunks = record { collective = record { kind = kind; root = 0 }; limits = record { k = k; max_s = steps; max_c = chunks; conflicts = 1000; pruning = unpruned } }

-- the ring of four nodes
abbrev pub four_nodes : NamedTopologyValue
four_nodes = family_of Ring 4

-- the text of the formula of one step on the line of three nodes, behind its first clause
abbrev pub rest_of_one_step : List ℕ
rest_of_one_step = codes "-3 0\n-5 0\n-1 2 0\n-3 4 0\n-5 6 0\n2 0\n4 0\n6 0\n-7 1 0\n-7 -3 0\n-7 4 0\n-8 3 0\n-8 -1 0\n-8 2 0\n-9 3 0\n-9 -5 0\n-9 6 0\n-10 5 0\n-10 -3 0\n-10 4 0\n1 -2 8 0\n3 -4 7 10 0\n5 -6 9 0\n-7 -10 0\n-7 11 0\n-12 0\n-8 13 0\n-14 0\n-9 15 0\n-16 0\n-10 17 0\n-18 0\n"

abbrev pub cnf_of_one_step : List ℕ
cnf_of_one_step = codes "p cnf 18 33\n1 0\n" ++ rest_of_one_step

abbrev pub proof_of_one_step : List ℕ
proof_of_one_step = codes "34 0 2 3 9 16 24 0\n"

-- a formula and a proof beside the candidate of one step
abbrev pub beside_one_step : List ℕ → List ℕ → Files
beside_one_step formula proof = shelf ((file_of Cnf Whole one_step, formula) ∷ (file_of Lrat Whole one_step, proof) ∷ [])

-- a log beside the candidate of one step
abbrev pub log_of_one_step : List ℕ → Files
log_of_one_step log = shelf ((file_of Cnf Whole one_step, cnf_of_one_step) ∷ (file_of Partial Whole one_step, log) ∷ [])

-- the relay's report with another mark, last send, and candidates
abbrev pub relay : Mark → Hop → List Candidate → List UnknownValue → ReportValue
relay mark last refuted unknown = record relay_report {
  frontiers = (Whole, record { points = point 2 2 mark (1 ∷ 1 ∷ []) (send 0 0 1 1 ∷ last ∷ []) ∷ []; refuted = refuted; unknown = unknown }) ∷ [];
}

-- each node sends the chunk that the other adds up, and then its own
abbrev pub joined_sends : List Hop
joined_sends = send 0 1 0 1 ∷ send 1 0 1 1 ∷ send 0 0 1 2 ∷ send 1 1 0 2 ∷ []

-- the allreduce's report with other joined points
abbrev pub allreduce : List PointValue → ReportValue
allreduce joined = record allreduce_report { joined = joined }

-- two nodes, a link of width 2 from the first to the second, and the one chunk that is to go over it
abbrev pub wide_link : NamedTopologyValue
wide_link =
    let at : ℕ → PlacementValue = λ node. record { chunks = 1; nodes = 2; pairs = (0, node) ∷ [] } in
    record {
      names = codes "n0" ∷ codes "n1" ∷ [];
      topology = record { nodes = 2; groups = record { links = (0, 1) ∷ []; width = 2 } ∷ [] };
      custom = Some (record { base = 1; before = at 0; after = at 1 });
    }

-- one point of two copies, in one step, with these sends
abbrev pub two_copies : List Hop → ReportValue
two_copies sends = record {
  words = words Custom 0 1 2;
  topology = wide_link;
  frontiers = (Whole, record { points = record { candidate = at 1 1 2; schedule = record { rounds = 1 ∷ []; sends = sends }; mark = Optimal } ∷ []; refuted = []; unknown = [] }) ∷ [];
  joined = [];
}

-- candidates that a set of nodes refutes are left out
abbrev pub cutting : Pruning
cutting = record { cuts = true; ordered = false }

-- only ordered schedules are sought
abbrev pub ordering : Pruning
ordering = record { cuts = false; ordered = true }

-- two nodes, one step, and two chunks at most
abbrev pub at_most_two : Kind → Pruning → FrontierValue → ReportValue
at_most_two kind pruning f = record {
  words = record { collective = record { kind = kind; root = 0 }; limits = record { k = 0; max_s = 1; max_c = 2; conflicts = 1000; pruning = pruning } };
  topology = two_nodes;
  frontiers = (Whole, f) ∷ [];
  joined = [];
}

abbrev pub two_at_once : Candidate
two_at_once = at 1 1 2

-- one chunk is sent, and two can't be
abbrev pub one_of_two : Hop → FrontierValue
one_of_two hop = record { points = point 1 1 Optimal (1 ∷ []) (hop ∷ []) ∷ []; refuted = two_at_once ∷ []; unknown = [] }

-- two were given up
abbrev pub two_given_up : FrontierValue
two_given_up = record { points = point 1 1 Open (1 ∷ []) (send 0 0 1 1 ∷ []) ∷ []; refuted = []; unknown = record { candidate = two_at_once; conflicts = 1000 } ∷ [] }

-- the broadcast of two chunks, and the text of a formula beside it
abbrev pub two_to_broadcast : QuestionValue
two_to_broadcast = question_of (words Broadcast 0 1 2) two_nodes Whole

abbrev pub beside_two : FormulaValue → Files
beside_two f = shelf ((file_of Cnf Whole two_at_once, cnf_text f) ∷ [])
