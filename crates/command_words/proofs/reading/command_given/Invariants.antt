use Rattle.std.{proofs.Common.{◌≡◌, ◌+◌, [], length, map, drop}, specs.List.IsDistinct}
use Rattle.command_words.specs.{Tables.same_key, Words.{given_from, texts}, inner.Seen.{AreRight, from_place, seen_all}}
use Rattle.command_words.proofs.reading.command_given.Given as goal

-- the words that were read gave what stands from `first` on
abbrev pub invariant-loop-word : goal.invariant-loop-word
invariant-loop-word l = record {
  read : given_from l.verb (seen_all (from_place l.first l.places)) (l.word-index + 1) (drop l.word-index (texts l.words)) ≡ given_from l.verb [] 1 (texts l.words);
  right : AreRight l.verb (length l.words + 1) (seen_all (from_place l.first l.places));
  distinct : IsDistinct same_key (map (λ x. x.key) (from_place l.first l.places));
  place : l.first + l.word-index ≡ 18;
}
