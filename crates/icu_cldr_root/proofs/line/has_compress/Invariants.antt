use Rattle.std.proofs.Common.{◌≡◌, ℕ, List, ◌++◌}
use Rattle.std.specs.Prelude.{codes, bytes_eq}
use Rattle.std.specs.List.{list_any}
use Rattle.std.specs.Str.Iter.{split_whitespace_rest}
use Rattle.icu_cldr_root.specs.WrittenLines.{AreLineWords}
use Rattle.icu_cldr_root.proofs.line.has_compress.Given as goal

-- the words so far, and whether one of them is COMPRESS
abbrev pub invariant-loop-word : goal.invariant-loop-word
invariant-loop-word l = (seen : List (List ℕ))
    × ((more : List (List ℕ)) → AreLineWords (split_whitespace_rest l.word-iterator) more → AreLineWords (split_whitespace_rest l.words) (seen ++ more))
    × (l.is_named ≡ list_any (λ w. bytes_eq w (codes "COMPRESS")) seen)
