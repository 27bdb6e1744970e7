-- Pieces of a text, appended one after another.
use Rattle.std.{proofs.Common.{◌≡◌, ℕ, List, [], ◌∷◌, ◌++◌, map, refl, sym, ap, ◌∙◌, append_assoc, codes, decimal}, specs.List.flat_map}
use Rattle.outer_ports.specs.declared.part.Part.{Part, TheVariants.{Whole, Reduce, Gather, Joined}}
use Rattle.collective_spec.specs.{declared.kind.Kind.TheVariants.Allreduce, Kinds.word_of}
use Rattle.candidate_order.specs.Frontiers.{PointValue, FrontierValue}
use Rattle.text_lines.{specs.Text.{line, text_of, fields}, proofs.Words.join_fields}
use Rattle.topology_text.specs.Spelling.{lines_of, spelling, version_word}
use Rattle.report_form.specs.{Reports.{ReportValue, WordsValue}, Reading.part_bytes, Spelling.{root_words, pruning_words, part_words, point_lines, refuted_words, unknown_words, frontier_lines, joined_lines, synth_words, report_text}}
use Rattle.report_printing.specs.Printed.{frontier_text, limits_text, point_text}

-- a piece, and all behind it
pub before : (a b c x rest : List ℕ) → b ≡ a ++ x → c ≡ b ++ rest → c ≡ a ++ (x ++ rest)
before a b c x rest first second = second ∙ ap (λ t. t ++ rest) first ∙ append_assoc a x rest

-- a line as its first token, and a space before each other
pub line_is : (word : List ℕ) (words : List (List ℕ)) → word ++ (fields words ++ codes "\n") ≡ line (word ∷ words)
line_is word words = sym (ap (λ t. t ++ 10 ∷ []) (join_fields word words) ∙ append_assoc word (fields words) (10 ∷ []))

pub text_append : (a b : List (List (List ℕ))) → text_of (a ++ b) ≡ text_of a ++ text_of b
text_append [] b = refl
text_append (x ∷ xs) b = ap (λ t. line x ++ t) (text_append xs b) ∙ sym (append_assoc (line x) (text_of xs) (text_of b))

-- the text of lists of lines, list by list
pub text_each : {A : Type 0} (f : A → List (List (List ℕ))) (xs : List A) → text_of (flat_map f xs) ≡ flat_map (λ x. text_of (f x)) xs
text_each f [] = refl
text_each f (x ∷ xs) = text_append (f x) (flat_map f xs) ∙ ap (λ t. text_of (f x) ++ t) (text_each f xs)

-- the line that begins a part
pub part_line : (x : Part) → part_bytes x ++ codes "\n" ≡ line (part_words x)
part_line Whole = refl
part_line Reduce = refl
part_line Gather = refl
part_line Joined = refl

pub frontier_is : (names : List (List ℕ)) (part : Part) (f : FrontierValue) → line (part_words part) ++ (flat_map (point_text names) f.points ++ (text_of (map refuted_words f.refuted) ++ text_of (map unknown_words f.unknown))) ≡ frontier_text names (part, f)
frontier_is names part f = simp (text_append, text_each (point_lines names))

pub joined_is : (names : List (List ℕ)) (joined : List PointValue) → codes "joined\n" ++ flat_map (point_text names) joined ≡ text_of (joined_lines names Allreduce joined)
joined_is names joined = simp text_each

-- a space and a word before other pieces
field_first : (word : List ℕ) (words : List (List ℕ)) (rest : List ℕ) → fields (word ∷ words) ++ rest ≡ (32 ∷ word) ++ (fields words ++ rest)
field_first word words rest = append_assoc (32 ∷ word) (fields words) rest

-- the fields of one list of words, and then those of another
fields_both : (a b : List (List ℕ)) → fields (a ++ b) ≡ fields a ++ fields b
fields_both [] b = refl
fields_both (x ∷ xs) b = ap (λ t. (32 ∷ x) ++ t) (fields_both xs b) ∙ sym (append_assoc (32 ∷ x) (fields xs) (fields b))

-- the words of the root and of what may be left out, and the end of the line
last_is : (a b : List (List ℕ)) (end : List ℕ) → fields a ++ (fields b ++ end) ≡ fields (a ++ b) ++ end
last_is a b end = sym (ap (λ t. t ++ end) (fields_both a b) ∙ append_assoc (fields a) (fields b) end)

-- the line of what was asked, with its keys side by side
pub asked_is : (names : List (List ℕ)) (w : WordsValue) → codes "synth collective=" ++ (word_of w.collective.kind ++ (limits_text w.limits ++ (fields (root_words names w) ++ (fields (pruning_words w.limits.pruning) ++ codes "\n")))) ≡ line (synth_words names w)
asked_is names w =
    let k : List ℕ = codes " k=" ++ decimal w.limits.k in
    let s : List ℕ = codes " steps=" ++ decimal w.limits.max_s in
    let c : List ℕ = codes " chunks=" ++ decimal w.limits.max_c in
    let f : List ℕ = codes " conflicts=" ++ decimal w.limits.conflicts in
    let kind : List ℕ = codes "collective=" ++ word_of w.collective.kind in
    let roots : List (List ℕ) = root_words names w ++ pruning_words w.limits.pruning in
    let end : List ℕ = codes "\n" in
    let rest : List ℕ = fields roots ++ end in
    let w2 : List (List ℕ) = (codes "k=" ++ decimal w.limits.k) ∷ (codes "steps=" ++ decimal w.limits.max_s) ∷ (codes "chunks=" ++ decimal w.limits.max_c) ∷ (codes "conflicts=" ++ decimal w.limits.conflicts) ∷ roots in
    let w3 : List (List ℕ) = (codes "steps=" ++ decimal w.limits.max_s) ∷ (codes "chunks=" ++ decimal w.limits.max_c) ∷ (codes "conflicts=" ++ decimal w.limits.conflicts) ∷ roots in
    let w4 : List (List ℕ) = (codes "chunks=" ++ decimal w.limits.max_c) ∷ (codes "conflicts=" ++ decimal w.limits.conflicts) ∷ roots in
    let w5 : List (List ℕ) = (codes "conflicts=" ++ decimal w.limits.conflicts) ∷ roots in
    let five : fields w5 ++ end ≡ f ++ rest = field_first (codes "conflicts=" ++ decimal w.limits.conflicts) roots end in
    let four : fields w4 ++ end ≡ c ++ (f ++ rest) = field_first (codes "chunks=" ++ decimal w.limits.max_c) w5 end ∙ ap (λ t. c ++ t) five in
    let three : fields w3 ++ end ≡ s ++ (c ++ (f ++ rest)) = field_first (codes "steps=" ++ decimal w.limits.max_s) w4 end ∙ ap (λ t. s ++ t) four in
    let two : fields w2 ++ end ≡ k ++ (s ++ (c ++ (f ++ rest))) = field_first (codes "k=" ++ decimal w.limits.k) w3 end ∙ ap (λ t. k ++ t) three in
    let numbers : limits_text w.limits ++ rest ≡ k ++ (s ++ (c ++ (f ++ rest))) =
    append_assoc k (s ++ (c ++ f)) rest ∙ (ap (λ t. k ++ t) (append_assoc s (c ++ f) rest) ∙ ap (λ t. k ++ (s ++ t)) (append_assoc c f rest)) in
    let one : fields (kind ∷ w2) ++ end ≡ (32 ∷ kind) ++ (limits_text w.limits ++ rest) = field_first kind w2 end ∙ ap (λ t. (32 ∷ kind) ++ t) (two ∙ sym numbers) in
    let split : (32 ∷ kind) ++ (limits_text w.limits ++ rest) ≡ codes " collective=" ++ (word_of w.collective.kind ++ (limits_text w.limits ++ rest)) = append_assoc (codes " collective=") (word_of w.collective.kind) (limits_text w.limits ++ rest) in
    ap (λ t. codes "synth collective=" ++ (word_of w.collective.kind ++ (limits_text w.limits ++ t))) (last_is (root_words names w) (pruning_words w.limits.pruning) end)
    ∙ ap (λ t. codes "synth" ++ t) (sym (one ∙ split)) ∙ line_is (codes "synth") (kind ∷ w2)

pub report_is : (r : ReportValue) → line (codes "sccl" ∷ version_word r.topology.custom ∷ []) ++ (line (synth_words r.topology.names r.words) ++ (spelling r.topology ++ (flat_map (frontier_text r.topology.names) r.frontiers ++ (text_of (joined_lines r.topology.names r.words.collective.kind r.joined) ++ codes "end\n")))) ≡ report_text r
unfolding report_text spelling
report_is r =
    let names = r.topology.names in
    let parts : List (List (List ℕ)) = flat_map (frontier_lines names) r.frontiers in
    let joined : List (List (List ℕ)) = joined_lines names r.words.collective.kind r.joined in
    let last : List (List (List ℕ)) = (codes "end" ∷ []) ∷ [] in
    let body : text_of ((parts ++ joined) ++ last) ≡ flat_map (frontier_text names) r.frontiers ++ (text_of joined ++ text_of last) =
    text_append (parts ++ joined) last ∙ (ap (λ t. t ++ text_of last) (text_append parts joined) ∙ (append_assoc (text_of parts) (text_of joined) (text_of last) ∙ ap (λ t. t ++ (text_of joined ++ text_of last)) (text_each (frontier_lines names) r.frontiers))) in
    let rest : text_of (lines_of r.topology ++ ((parts ++ joined) ++ last)) ≡ text_of (lines_of r.topology) ++ (flat_map (frontier_text names) r.frontiers ++ (text_of joined ++ text_of last)) =
    text_append (lines_of r.topology) ((parts ++ joined) ++ last) ∙ ap (λ t. text_of (lines_of r.topology) ++ t) body in
    sym (ap (λ t. line (codes "sccl" ∷ version_word r.topology.custom ∷ []) ++ (line (synth_words names r.words) ++ t)) rest)
