-- What is appended of lines, one after another.
use Rattle.std.proofs.Common.{◌≡◌, ℕ, Bool, true, false, List, [], ◌∷◌, ◌++◌, map, if◌then◌else◌, refl, sym, length, take, drop, get_or, ◌<◌, ◌+◌, ◌-◌, ◌∙◌, arith, ap}
use Rattle.line_sorts.specs.FirstLines.{firsts, firsts_behind, have_one_key, unrepeated}
use Rattle.line_sorts.specs.InputLines.{ended_lines}
use Rattle.std.proofs.lemmas.List.{at_drop_more, take_all}
use Rattle.line_sorts.specs.KeyBuffers.{LineView, line_bytes, place_pair, pairs_at}
use Rattle.line_sorts.specs.declared.line_places.LinePlace.{LinePlace}

-- the next of those behind another, unless both have one key
pub next_first : (separator : ℕ) (before x : List ℕ × List ℕ) (xs : List (List ℕ × List ℕ))
    → ended_lines separator (map line_bytes (firsts_behind have_one_key before (x ∷ xs)))
    ≡ (if have_one_key before x then [] else line_bytes x ++ separator ∷ []) ++ ended_lines separator (map line_bytes (firsts_behind have_one_key x xs))
next_first separator before x xs = by (have_one_key before x) where
  by : (b : Bool) → ended_lines separator (map line_bytes (if b then firsts_behind have_one_key x xs else x ∷ firsts_behind have_one_key x xs))
      ≡ (if b then [] else line_bytes x ++ separator ∷ []) ++ ended_lines separator (map line_bytes (firsts_behind have_one_key x xs))
  by true = refl
  by false = refl

-- the first, and then those behind it
pub first_then : (separator : ℕ) (k : LineView) (places : List LinePlace) (d : LinePlace) → 0 < length places
    → ended_lines separator (map line_bytes (firsts have_one_key (pairs_at k places)))
    ≡ (line_bytes (place_pair k (get_or places 0 d)) ++ separator ∷ [])
    ++ ended_lines separator (map line_bytes (firsts_behind have_one_key (place_pair k (get_or places 0 d)) (pairs_at k (take (length places - 1) (drop 1 places)))))
first_then separator k [] d some = absurd (omega (arith, some))
first_then separator k (p ∷ ps) d some =
    ap (λ (qs : List LinePlace). (line_bytes (place_pair k p) ++ separator ∷ [])
    ++ ended_lines separator (map line_bytes (firsts_behind have_one_key (place_pair k p) (pairs_at k qs))))
    (sym (take_all (length (p ∷ ps) - 1) ps (omega arith)))

module _ (separator : ℕ) (k : LineView) where
  -- the text of lines, one behind another
  abbrev pub each_text : List LinePlace → List ℕ
  each_text places = ended_lines separator (map line_bytes (pairs_at k places))

  -- that of the first of those that have one key, behind another line
  abbrev pub behind_text : List ℕ × List ℕ → List LinePlace → List ℕ
  behind_text before places = ended_lines separator (map line_bytes (firsts_behind have_one_key before (pairs_at k places)))

  pub each_next : (places : List LinePlace) (i : ℕ) (d : LinePlace) → i < length places
      → each_text (drop i places) ≡ (line_bytes (place_pair k (get_or places i d)) ++ separator ∷ []) ++ each_text (drop (i + 1) places)
  each_next places i d within = at_drop_more each_text places i d within

  pub behind_next : (before : List ℕ × List ℕ) (places : List LinePlace) (i : ℕ) (d : LinePlace) → i < length places
      → behind_text before (drop i places)
      ≡ unrepeated separator before (place_pair k (get_or places i d)) ++ behind_text (place_pair k (get_or places i d)) (drop (i + 1) places)
  behind_next before places i d within =
      at_drop_more (behind_text before) places i d within
      ∙ next_first separator before (place_pair k (get_or places i d)) (pairs_at k (drop (i + 1) places))
