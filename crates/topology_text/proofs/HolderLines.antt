-- The lines of the chunks of a pattern: what is read stands there, and what stands there is read.
use Rattle.std.proofs.{Common.{◌≡◌, ℕ, zero, suc, ◌+◌, ◌-◌, ◌<◌, ◌≤◌, List, [], ◌∷◌, ◌++◌, map, length, replicate, Result, Ok, refl, sym, ap, ◌∙◌, append_assoc, arith, rules, codes}, lemmas.List.{append-nil, length-replicate}}
use Rattle.list_laws.proofs.Each.{each_map}
use Rattle.std.specs.List.{AllByRecursion}
use Rattle.text_lines.specs.{Text.{Row, Place}, Check.{◌>>=◌, line_part}}
use Rattle.text_lines.proofs.{Gives.{Gives, gives_done, gives_like, gives_then, Between, here, then_on, Cut, cut_here, cut_on}, ReadBack.{Reads, reads_here, reads_as, reads_then, line_again}, Repeated.place, Rows.{AreTokens, row_of}}
use Rattle.text_lines.proofs.Words.{IsWord, literal, tokens_from}
use Rattle.topology_text.specs.{declared.fault.TopologyCode.TopologyCode, Reading.{holders_line, Pairs, row_of_pairs, holders_at}}
use Rattle.topology_text.proofs.{Front.Names, Held.{Ascends, EachAscends, pairs_from}, PatternLines.{named_words, named_are_words, holders_line_gives, holders_line_again}}

-- ---- the nodes that hold each chunk before, and after

abbrev pub Holders : Type 0
Holders = List ℕ × List ℕ

abbrev pub befores : List Holders → List (List ℕ)
befores hs = map (λ h. h.0) hs

abbrev pub afters : List Holders → List (List ℕ)
afters hs = map (λ h. h.1) hs

abbrev pub AreHeld : ℕ → List Holders → Type 0
AreHeld nodes hs = AllByRecursion (λ h. Ascends 0 nodes h.0 × Ascends 0 nodes h.1) hs

pub befores_ascend : (nodes : ℕ) (hs : List Holders) → AreHeld nodes hs → EachAscends nodes (befores hs)
befores_ascend nodes hs ok = each_map (λ h. Ascends 0 nodes h.0 × Ascends 0 nodes h.1) (Ascends 0 nodes) (λ h. h.0) (λ h both. both.0) hs ok

pub afters_ascend : (nodes : ℕ) (hs : List Holders) → AreHeld nodes hs → EachAscends nodes (afters hs)
afters_ascend nodes hs ok = each_map (λ h. Ascends 0 nodes h.0 × Ascends 0 nodes h.1) (Ascends 0 nodes) (λ h. h.1) (λ h both. both.1) hs ok

-- the lines of chunks numbered from g on
abbrev pub holder_lines : List (List ℕ) → ℕ → List Holders → List (List (List ℕ))
holder_lines names g [] = []
holder_lines names g (h ∷ hs) = named_words names (codes "before") g h.0 ∷ named_words names (codes "after") g h.1 ∷ holder_lines names (g + 1) hs

pub holder_lines_are_words : (names : List (List ℕ)) (g : ℕ) (hs : List Holders) → Names names → AreHeld (length names) hs → g + length hs ≤ 16 → AllByRecursion AreTokens (holder_lines names g hs)
holder_lines_are_words names g [] ok held few = tt
holder_lines_are_words names g (h ∷ hs) ok held few =
    let (one, two) = held.0 in (
      tokens_from (named_words names (codes "before") g h.0) (omega arith) (named_are_words names (codes "before") g h.0 (literal (codes "before") refl) (omega (arith, few)) ok one),
      (
        tokens_from (named_words names (codes "after") g h.1) (omega arith) (named_are_words names (codes "after") g h.1 (literal (codes "after") refl) (omega (arith, few)) ok two),
        holder_lines_are_words names (g + 1) hs ok held.1 (omega (arith, few)),
      ),
    )

-- ---- the lines of each chunk

-- nothing was read yet
abbrev pub no_pairs : Pairs
no_pairs = record { before = []; after = [] }

-- the pairs with those of these chunks behind them
abbrev pub with_holders : Pairs → ℕ → List Holders → Pairs
with_holders found g hs = record { before = found.before ++ pairs_from g (befores hs); after = found.after ++ pairs_from g (afters hs) }

abbrev pub pushed : Pairs → ℕ → List ℕ → List ℕ → Pairs
pushed found g b a = record { before = found.before ++ row_of_pairs g b; after = found.after ++ row_of_pairs g a }

none_more : (found : Pairs) (g : ℕ) → found ≡ with_holders found g []
none_more found g i = record { before = sym (append-nil found.before) i; after = sym (append-nil found.after) i }

one_more : (found : Pairs) (g : ℕ) (h : Holders) (hs : List Holders) → with_holders (pushed found g h.0 h.1) (g + 1) hs ≡ with_holders found g (h ∷ hs)
one_more found g h hs i = record {
  before = append_assoc found.before (row_of_pairs g h.0) (pairs_from (g + 1) (befores hs)) i;
  after = append_assoc found.after (row_of_pairs g h.1) (pairs_from (g + 1) (afters hs)) i;
}

-- what is left of the reading behind the line of the nodes after, and behind that of the nodes before
abbrev pub behind_after : List (List ℕ) → ℕ → ℕ → Pairs → List ℕ → List ℕ × Place → Result (Pairs × Place) (TopologyCode × ℕ)
behind_after names left g found b y = holders_at names left (g + 1) (pushed found g b y.0) y.1

abbrev pub behind_before : List (List ℕ) → ℕ → ℕ → Pairs → List ℕ × Place → Result (Pairs × Place) (TopologyCode × ℕ)
behind_before names left g found x = line_part (holders_line names (codes "after") g) x.1 >>= behind_after names left g found x.0

-- so many chunks that no node holds
abbrev pub nothing_held : ℕ → List Holders
nothing_held left = replicate left ([], [])

nothing_many : (left : ℕ) → length (nothing_held left) ≡ left
nothing_many left = length-replicate {A = Holders} left ([], [])

pub nothing_valid : (nodes left : ℕ) → AreHeld nodes (nothing_held left)
nothing_valid nodes zero = tt
nothing_valid nodes (suc left) = ((tt, tt), nothing_valid nodes left)

-- the lines of so many chunks were read
pub record HoldersTaken (names : List (List ℕ)) (left g : ℕ) (found : Pairs) (p : Place) (x : Pairs × Place) : Type 0 where
  pub held : List Holders
  pub many : length held ≡ left
  pub valid : AreHeld (length names) held
  pub pairs : x.0 ≡ with_holders found g held
  pub lines : Between (holder_lines names g held) p x.1

-- the lines before this one are the first of so many chunks
pub record HoldersCut (names : List (List ℕ)) (left g : ℕ) (p : Place) (n : ℕ) : Type 0 where
  pub held : List Holders
  pub many : length held ≡ left
  pub valid : AreHeld (length names) held
  pub cut : Cut (holder_lines names g held) p n

module _ (names : List (List ℕ)) where
  -- cut in the lines of these chunks, of which this is the first
  cut_with : (left g : ℕ) (p : Place) (n : ℕ) (b a : List ℕ) (more : List Holders) → length more ≡ left → Ascends 0 (length names) b → Ascends 0 (length names) a → AreHeld (length names) more → Cut (holder_lines names g ((b, a) ∷ more)) p n → HoldersCut names (suc left) g p n
  cut_with left g p n b a more many one two valid cut = record { held = (b, a) ∷ more; many = ap suc many; valid = ((one, two), valid); cut = cut }

  pub holders_give : (left g : ℕ) (found : Pairs) (p : Place) → Gives (λ (e : TopologyCode × ℕ). HoldersCut names left g p e.1) (λ (x : Pairs × Place). HoldersTaken names left g found p x) (holders_at names left g found p)
  holders_give zero g found p = gives_done (found, p) (record { held = []; many = refl; valid = tt; pairs = none_more found g; lines = here p })
  holders_give (suc left) g found p =
      let nothing : List Holders = nothing_held left in
      let one : List ℕ → List (List (List ℕ)) = λ b. named_words names (codes "before") g b ∷ [] in
      let two : List ℕ → List (List (List ℕ)) = λ a. named_words names (codes "after") g a ∷ [] in
      let rest : List Holders → List (List (List ℕ)) = holder_lines names (g + 1) in
      gives_then _ _ (holders_line_gives names (codes "before") g p)
      (λ e line. cut_with left g p e.1 [] [] nothing (nothing_many left) tt tt (nothing_valid (length names) left) (cut_here (one [] ++ (two [] ++ rest nothing)) p e.1 line))
      (λ b rb tb. gives_then _ _ (holders_line_gives names (codes "after") g b.1)
      (λ e line. cut_with left g p e.1 b.0 [] nothing (nothing_many left) tb.0 tt (nothing_valid (length names) left) (cut_on (one b.0) (two [] ++ rest nothing) p b.1 e.1 tb.1 (cut_here (two [] ++ rest nothing) b.1 e.1 line)))
      (λ a ra ta. gives_like
      (λ e f. cut_with left g p e.1 b.0 a.0 f.held f.many tb.0 ta.0 f.valid (cut_on (one b.0) (two a.0 ++ rest f.held) p b.1 e.1 tb.1 (cut_on (two a.0) (rest f.held) b.1 a.1 e.1 ta.1 f.cut)))
      (λ x t. record {
        held = (b.0, a.0) ∷ t.held;
        many = ap suc t.many;
        valid = ((tb.0, ta.0), t.valid);
        pairs = t.pairs ∙ one_more found g (b.0, a.0) t.held;
        lines = then_on (one b.0) (two a.0 ++ rest t.held) p b.1 x.1 tb.1 (then_on (two a.0) (rest t.held) b.1 a.1 x.1 ta.1 t.lines);
      })
      (holders_give left (g + 1) (pushed found g b.0 a.0) a.1)))

  holders_line_reads : (word : List ℕ) (g : ℕ) (nodes : List ℕ) (n : ℕ) (rows : List Row) → IsWord word → g < 16 → Names names → Ascends 0 (length names) nodes → Reads (line_part (holders_line names word g) (place n (row_of (named_words names word g nodes) ∷ rows))) nodes rows
  holders_line_reads word g nodes n rows is small ok valid = line_again (holders_line names word g) (row_of (named_words names word g nodes)) nodes n rows (holders_line_again names word g nodes is (omega (arith, small)) ok valid)

  pub holders_read : (g : ℕ) (hs : List Holders) (found : Pairs) (n : ℕ) (rest : List Row) → Names names → AreHeld (length names) hs → g + length hs ≤ 16
      → Reads (holders_at names (length hs) g found (place n (map row_of (holder_lines names g hs) ++ rest))) (with_holders found g hs) rest
  holders_read g [] found n rest ok held few = reads_as _ (none_more found g) (reads_here found n rest)
  holders_read g (h ∷ hs) found n rest ok held few =
      reads_then _ _ (holders_line_reads (codes "before") g h.0 n _ (literal (codes "before") refl) (omega (arith, few)) ok held.0.0)
      (λ k. reads_then _ _ (holders_line_reads (codes "after") g h.1 k _ (literal (codes "after") refl) (omega (arith, few)) ok held.0.1)
      (λ m. reads_as _ (one_more found g h hs) (holders_read (g + 1) hs (pushed found g h.0 h.1) m rest ok held.1 (omega (arith, few)))))

-- what the loop over the chunks needs
pub next_chunk : (names : List (List ℕ)) (base g : ℕ) (found : Pairs) (p : Place) → g < base → holders_at names (base - g) g found p ≡ (line_part (holders_line names (codes "before") g) p >>= behind_before names (base - (g + 1)) g found)
next_chunk names base g found p more = search rules

pub chunk_read : (names : List (List ℕ)) (base g : ℕ) (found later : Pairs) (p q r : Place) (b a : List ℕ) → g < base → line_part (holders_line names (codes "before") g) p ≡ Ok (b, q) → line_part (holders_line names (codes "after") g) q ≡ Ok (a, r)
    → later.before ≡ found.before ++ row_of_pairs g b → later.after ≡ found.after ++ row_of_pairs g a → holders_at names (base - (g + 1)) (g + 1) later r ≡ holders_at names (base - g) g found p
chunk_read names base g found later p q r b a more one two so so_too = rw (next_chunk names base g found p more, one, two) (λ i. holders_at names (base - (g + 1)) (g + 1) (record { before = so i; after = so_too i }) r)
