-- What is due for the words of a search, check by check.
use Rattle.std.proofs.Common.{◌≡◌, ◌⊎◌, inl, inr, ℕ, List, Result, Ok, Err, sym, ap}
use Rattle.text_lines.{specs.Check.{◌>>=◌}, proofs.Checks.{bind_ok, ok_is}}
use Rattle.topology_text.specs.{declared.fault.TopologyCode.{TopologyCode, TheVariants.OutOfMemory}, Value.NamedTopologyValue, Reading.topology_of, Answer.topology_number}
use Rattle.command_words.specs.declared.{command.SearchWords.SearchWords}
use Rattle.report_form.specs.Reports.{WordsValue}
use Rattle.run_rules.specs.{declared.status.Status.TheVariants.BadTopology, Refusals.{Refusal, refused_as, refused_at}, Tasks.{root_in, search_asked, searchable}}
use Rattle.run_rules.specs.Steps.{fitting, search_for, search_over, whole_question, words_for}

-- ---- what can be searched

pub cannot_search : (w : WordsValue) (t : NamedTopologyValue) (r : Refusal) → searchable (whole_question w t) ≡ Err r → search_for w t ≡ Err r
cannot_search w t r e = ap (λ x. x >>= (λ _. Ok (w, t))) e

-- ---- the pattern and the root

module _ (asked : SearchWords) (t : NamedTopologyValue) where
  abbrev over : Result ℕ Refusal → Result (WordsValue × NamedTopologyValue) Refusal
  over node = node >>= (λ n. search_for (words_for asked n) t)

-- ---- the text

pub no_topology : (asked : SearchWords) (bytes : List ℕ) (code : TopologyCode) (line : ℕ) → ((code ≡ OutOfMemory) × (line ≡ 0)) ⊎ (topology_of bytes ≡ Err (code, line)) → (code ≡ OutOfMemory → ⊥)
    → search_asked asked bytes ≡ Err (refused_at BadTopology (topology_number code) line)
no_topology asked bytes code line (inl memory) other = absurd (other memory.0)
no_topology asked bytes code line (inr e) other = ap (λ x. refused_as BadTopology topology_number x >>= search_over asked) e

-- ---- the search is that of the words

same_words : (v w : WordsValue) (t s : NamedTopologyValue) → search_for v t ≡ Ok (w, s) → w ≡ v
same_words v w t s e =
    let can = bind_ok (searchable (whole_question v t)) (λ _. Ok (v, t)) (w, s) e in
    ap (λ (p : WordsValue × NamedTopologyValue). p.0) (sym (ok_is {C = Refusal} (v, t) (w, s) can.2))

words_asked_for : (asked : SearchWords) (bytes : List ℕ) (w : WordsValue) (t : NamedTopologyValue) → search_asked asked bytes ≡ Ok (w, t) → (root : ℕ) × (w ≡ words_for asked root)
words_asked_for asked bytes w t e =
    let read = bind_ok (refused_as BadTopology topology_number (topology_of bytes)) (search_over asked) (w, t) e in
    let given = read.0 in
    let fits = bind_ok (fitting asked given) (λ _. over asked given (root_in given.names asked.root)) (w, t) read.2 in
    let rooted = bind_ok (root_in given.names asked.root) (λ n. search_for (words_for asked n) given) (w, t) fits.2 in
    (rooted.0, same_words (words_for asked rooted.0) w given t rooted.2)

pub same_kind : (asked : SearchWords) (bytes : List ℕ) (w : WordsValue) (t : NamedTopologyValue) → search_asked asked bytes ≡ Ok (w, t) → w.collective.kind ≡ asked.kind
same_kind asked bytes w t e = ap (λ (v : WordsValue). v.collective.kind) (words_asked_for asked bytes w t e).1

pub same_limits : (asked : SearchWords) (bytes : List ℕ) (w : WordsValue) (t : NamedTopologyValue) → search_asked asked bytes ≡ Ok (w, t) → w.limits ≡ asked.limits
same_limits asked bytes w t e = ap (λ (v : WordsValue). v.limits) (words_asked_for asked bytes w t e).1
