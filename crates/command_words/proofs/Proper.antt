-- What is given and checked makes a proper command.
use Rattle.std.proofs.{Common.{◌≡◌, ◌≢◌, ◌≤◌, ◌&&◌, ◌||◌, ℕ, Bool, true, false, not, cond, refl, subst, codes, bytes_eq, List, [], ◌∷◌, Option, Some, None, IfSome, option_map, is_some, unwrap_or}, lemmas.Bool.{and_parts, not-false}}
use Rattle.std.specs.List.{AllByRecursion, list_all}
use Rattle.candidate_order.specs.{Ranges.IsLimits, declared.pruning.Pruning.Pruning}
use Rattle.collective_spec.specs.{declared.kind.Kind.TheVariants.{Allreduce, Custom}, Kinds.{word_of, every_kind, takes_root}}
use Rattle.command_words.specs.declared.{command.{JsonWhat.JsonWhat, RootWord.RootWord}, key.Key.Key, verb.Verb.{Verb, TheVariants.{Synth, Check, Replay, Programs, Family, Trial, Bound, Ordered, Degrade, Json, Unjson}}}
use Rattle.command_words.specs.{Tables.{named, key_row, same_key, search, whats, what_word, Number}, Words.{fits, is_refused}, Commands.{IsProper, command_for}}
use Rattle.command_words.specs.{inner.Seen.{AreRight, IsRight, has_idle_point, has_idle_root, has_required, has_wrong_size}, Given.{Given, given_at, is_given, text_at, number_at, kind_at, what_at, root_at, limits_at}}
use Rattle.command_words.proofs.Found.{found, number_fits}
use Rattle.command_words.specs.declared.command.JsonWhat.TheVariants as what
use Rattle.command_words.specs.declared.key.Key.TheVariants as key

-- commands refuse values of two keys alone
pub untaken : (verb : Verb) (k : Key) (text : List ℕ) → same_key key.Collective k ≡ false → same_key key.What k ≡ false → is_refused verb k text ≡ false
untaken Bound k text c w = rw c refl
untaken Ordered k text c w = rw c refl
untaken Unjson k text c w = rw w refl
untaken _ k text c w = refl

-- a value that is found by a name is none that has another name
other_named : {V : Type 0} (name : V → List ℕ) (values : List V) (text : List ℕ) (d v : V) → bytes_eq (name v) text ≡ false → d ≢ v → unwrap_or (named name values text) d ≢ v
other_named name [] text d v apart other = other
other_named name (w ∷ ws) text d v apart other =
    elim (bytes_eq (name w) text) as (λ b. bytes_eq (name w) text ≡ b → unwrap_or (cond b (Some w) (named name ws text)) d ≢ v)
    [ true ↦ (λ e same. let e2 : bytes_eq (name v) text ≡ true = subst (λ x. bytes_eq (name x) text ≡ true) same e in absurd (cc)) | false ↦ (λ _. other_named name ws text d v apart other) ] refl

-- each key passes a test that all pass
each : (p : Key → Bool) (ks : List Key) → list_all p ks ≡ true → AllByRecursion (λ k. p k ≡ true) ks
each p [] all = tt
each p (k ∷ ks) all = let parts = and_parts (p k) (list_all p ks) all in (parts.0, each p ks parts.1)

or_none : (b : Bool) → (b || false) ≡ false → b ≡ false
or_none false e = refl
or_none true e = absurd (cc)

module _ (verb : Verb) (n : ℕ) (g : List Given) (right : AreRight verb n g) where
  -- the number of a key that is given is in its range
  number_in : (k : Key) (least greatest : ℕ) → (key_row k).1 ≡ Number least greatest → is_given k g ≡ true → (least ≤ number_at k g) × (number_at k g ≤ greatest)
  number_in k least greatest row given =
      let fit : fits (key_row k).1 (text_at k g) ≡ true = elim (given_at k g) as (λ o. IfSome o (IsRight verb n k) → is_some o ≡ true → fits (key_row k).1 (unwrap_or (option_map (λ x. x.text) o) []) ≡ true) [ None ↦ (λ _ e. absurd (cc)) | Some x ↦ (λ r _. r.fit) ] (found (IsRight verb n) k g right) given in
      let number = number_fits least greatest (text_at k g) (rw row at fit) in
      (number.1, number.2)

  -- a value is not refused
  not_refused : (k : Key) → is_refused verb k [] ≡ false → is_refused verb k (text_at k g) ≡ false
  not_refused k none = elim (given_at k g) as (λ o. IfSome o (IsRight verb n k) → is_refused verb k (unwrap_or (option_map (λ x. x.text) o) []) ≡ false) [ None ↦ (λ _. none) | Some x ↦ (λ r. r.taken) ] (found (IsRight verb n) k g right)

  limits_in : (pruning : Pruning) → list_all (λ k. is_given k g) search ≡ true → IsLimits (limits_at g pruning)
  limits_in pruning all =
      let given = each (λ k. is_given k g) search all in
      let k = number_in key.K 0 8 refl given.1.0 in
      let steps = number_in key.Steps 1 8 refl given.1.1.0 in
      let chunks = number_in key.Chunks 1 16 refl given.1.1.1.0 in
      let conflicts = number_in key.Conflicts 1 100000 refl given.1.1.1.1.0 in
      record { k = k.1; some_steps = steps.0; steps = steps.1; some_chunks = chunks.0; chunks = chunks.1; some_conflicts = conflicts.0; conflicts = conflicts.1 }

rooted : (g : List Given) → (is_given key.Root g && not (takes_root (kind_at g))) ≡ false → IfSome (root_at g) (λ root. takes_root (kind_at g) ≡ true)
rooted g idle = elim (given_at key.Root g) as (λ o. (is_some o && not (takes_root (kind_at g))) ≡ false → IfSome (option_map (λ x. record { name = x.text; word = x.word }) o) (λ (root : RootWord). takes_root (kind_at g) ≡ true)) [ None ↦ (λ _. tt) | Some x ↦ (λ e. not-false _ e) ] idle

one_search : (g : List Given) → (bytes_eq (codes "allreduce") (text_at key.Collective g) || false) ≡ false → kind_at g ≢ Allreduce
one_search g taken = other_named word_of every_kind (text_at key.Collective g) Custom Allreduce (or_none _ taken) (λ e. absurd (cc))

json_proper : (g : List Given) (value : JsonWhat) (point : Option Given) → what_at g ≡ value → given_at key.Point g ≡ point → has_idle_point Json g ≡ false → has_required Json g ≡ true → IsProper (command_for Json g)
json_proper g what.Programs (Some p) e f idle all = rw (e, f) refl
json_proper g what.Programs None e f idle all = let point : false ≡ true = (and_parts (is_given key.What g) false (rw (e, f) at all)).1 in absurd (cc)
json_proper g _ (Some p) e f idle all = let point : true ≡ false = rw (e, f) at idle in absurd (cc)
json_proper g _ None e f idle all = rw (e, f) refl

-- the checks of a command make it proper
pub proper : (verb : Verb) (n : ℕ) (g : List Given) → AreRight verb n g → has_idle_point verb g ≡ false → has_required verb g ≡ true → has_idle_root verb g ≡ false → has_wrong_size verb g ≡ false → IsProper (command_for verb g)
proper Synth n g right point all root size = (limits_in Synth n g right _ all, rooted g root)
proper Check n g right point all root size = tt
proper Replay n g right point all root size = number_in Replay n g right key.Point 1 65535 refl (each (λ k. is_given k g) (key.Point ∷ []) all).0
proper Programs n g right point all root size = number_in Programs n g right key.Point 1 65535 refl (each (λ k. is_given k g) (key.Point ∷ []) all).0
proper Family n g right point all root size = not-false _ size
proper Trial n g right point all root size = (number_in Trial n g right key.N 0 4095 refl (each (λ k. is_given k g) (key.N ∷ []) all).0).1
proper Bound n g right point all root size = (limits_in Bound n g right _ all, rooted g root, one_search g (not_refused Bound n g right key.Collective refl), refl)
proper Ordered n g right point all root size = (limits_in Ordered n g right _ all, rooted g root, one_search g (not_refused Ordered n g right key.Collective refl), refl)
proper Degrade n g right point all root size =
    let given = each (λ k. is_given k g) (key.Group ∷ key.Width ∷ []) all in
    ((number_in Degrade n g right key.Group 0 255 refl given.0).1, (number_in Degrade n g right key.Width 0 16 refl given.1.0).1)
proper Json n g right point all root size = json_proper g _ _ refl refl point all
proper Unjson n g right point all root size = other_named what_word whats (text_at key.What g) what.Topology what.Programs (or_none _ (not_refused Unjson n g right key.What refl)) (λ e. absurd (cc))
