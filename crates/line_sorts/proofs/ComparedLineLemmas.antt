-- Places by numbers that keys begin with, and places that are sorted by comparisons of their lines.
use Rattle.std.proofs.Common.{◌≡◌, ℕ, zero, suc, Bool, List, [], ◌∷◌, drop, get_or, map, refl, sym, ap, ◌∙◌, take, subst}
use Rattle.std.proofs.lemmas.Cmp.{on_total}
use Rattle.std.proofs.lemmas.List.Sorted.{IsPermutation-map, ranks_by}
use Rattle.std.specs.Cmp.{IsStrictWeakOrder}
use Rattle.std.specs.List.{AllByRecursion, zip}
use Rattle.std.specs.List.Sorted.{IsPermutation, IsSorted, IsStable}
use Rattle.std.specs.Ordering.{is_lt}
use Rattle.std.specs.declared.cmp.Ordering.{Ordering}
use Rattle.icu_order_levels.specs.beginnings.KeyBeginnings.{AreBytes}
use Rattle.icu_index_keys.specs.inner.NameEntries.{prefix_of}
use Rattle.line_sorts.proofs.LineOrderLemmas.{keyed_total}
use Rattle.line_sorts.proofs.MappedOrderLemmas.{ascends_mapped, stable_mapped}
use Rattle.line_sorts.specs.FirstLines.{have_one_key, printed}
use Rattle.line_sorts.specs.KeyBuffers.{LineView, line_bytes, pairs_at, place_pair, view_by, view_of}
use Rattle.line_sorts.specs.KeyedOrders.{keyed_order}
use Rattle.line_sorts.specs.LineFronts.{HaveFronts}
use Rattle.line_sorts.specs.ShownLines.{shown_lines}
use Rattle.line_sorts.specs.declared.keyed_lines.KeyedLines.{KeyedLines}
use Rattle.line_sorts.specs.declared.line_order.LineOrder.{LineOrder}
use Rattle.line_sorts.specs.declared.line_places.LinePlace.{LinePlace}
use Rattle.line_sorts.specs.declared.sort_request.Repeats.{Repeats}
use Rattle.line_sorts.specs.declared.sort_request.Repeats.TheVariants.{All, FirstOnly}
use Rattle.line_sorts.specs.inner.PlaceOrders.{IsLinePlace, numbered_places}
use Rattle.line_sorts.specs.inner.SettledPlaces.{Settles}

-- ---- places by numbers

at_drop : (i : ℕ) (ls : List (List ℕ)) (x : List ℕ) (xs : List (List ℕ)) → drop i ls ≡ x ∷ xs → (get_or ls i [] ≡ x) × (drop (suc i) ls ≡ xs)
at_drop zero [] x xs e = absurd (cc)
at_drop zero (l ∷ ls) x xs e = (ap (λ zs. get_or zs 0 []) e, ap (drop 1) e)
at_drop (suc i) [] x xs e = absurd (cc)
at_drop (suc i) (l ∷ ls) x xs e = at_drop i ls x xs e

module _ (key : List ℕ → List ℕ) (lines : List (List ℕ)) where
  abbrev front : List ℕ → ℕ
  front line = prefix_of (key line)

  pairs_from : (i : ℕ) (rest : List (List ℕ)) → drop i lines ≡ rest
      → pairs_at (view_by key lines) (numbered_places i (map front rest)) ≡ zip (map key rest) rest
  pairs_from i [] e = refl
  pairs_from i (x ∷ xs) e =
      let at = at_drop i lines x xs e in
      ap (λ l. (key l, l) ∷ pairs_at (view_by key lines) (numbered_places (suc i) (map front xs))) at.0
      ∙ ap (λ ps. (key x, x) ∷ ps) (pairs_from (suc i) xs at.1)

  right_from : (i : ℕ) (rest : List (List ℕ)) → drop i lines ≡ rest → AllByRecursion (λ line. AreBytes (take 8 (key line))) rest
      → AllByRecursion (IsLinePlace (view_by key lines)) (numbered_places i (map front rest))
  right_from i [] e h = tt
  right_from i (x ∷ xs) e h =
      let at = at_drop i lines x xs e in (
        record {
          begins = ap front (sym at.0);
          bytes = subst (λ l. AreBytes (take 8 (key l))) (sym at.0) h.0;
        },
        right_from (suc i) xs at.1 h.1,
      )

  module _ (fronts : List ℕ) (h : HaveFronts key lines fronts) where
    pub numbered_pairs : pairs_at (view_by key lines) (numbered_places 0 fronts) ≡ zip (map key lines) lines
    numbered_pairs =
        ap (λ fs. pairs_at (view_by key lines) (numbered_places 0 fs)) h.numbers ∙ pairs_from 0 lines refl

    pub numbered_right : AllByRecursion (IsLinePlace (view_by key lines)) (numbered_places 0 fronts)
    numbered_right =
        subst (λ fs. AllByRecursion (IsLinePlace (view_by key lines)) (numbered_places 0 fs)) (sym h.numbers) (right_from 0 lines refl h.bytes)

-- ---- a run that is sorted by comparisons

module _ (v : LineView) (o : LineOrder) where
  abbrev pub compared : LinePlace → LinePlace → Ordering
  compared x y = keyed_order o (place_pair v x) (place_pair v y)

  pub compared_weak : IsStrictWeakOrder (λ x y. is_lt (compared x y))
  compared_weak = ranks_by (on_total (place_pair v) (keyed_total o)) (λ (p : LinePlace). p)

  any : (ps : List LinePlace) → AllByRecursion (λ p. Unit {0}) ps
  any [] = tt
  any (p ∷ ps) = (tt, any ps)

  pub compared_run : (run ys : List LinePlace) → IsPermutation run ys → IsSorted compared ys → IsStable compared run ys → Settles v o run ys
  compared_run run ys moved sorted stable = record {
    moved = IsPermutation-map (place_pair v) run ys moved;
    ascends = ascends_mapped (place_pair v) compared (keyed_order o) (λ p. Unit {0}) (λ x y h g. refl) ys (any ys) sorted;
    stable = stable_mapped (place_pair v) compared (keyed_order o) (λ p. Unit {0}) (λ x y h g. refl) (keyed_total o) run ys (any run) (any ys) moved stable;
  }

-- ---- what is written of the lines at places, where none is left out

same_lines : (v w : LineView) (places : List LinePlace) → ((i : ℕ) → v.line_at i ≡ w.line_at i) → map line_bytes (pairs_at v places) ≡ map line_bytes (pairs_at w places)
same_lines v w [] e = refl
same_lines v w (p ∷ ps) e = ap (λ l. l ∷ map line_bytes (pairs_at v ps)) (e p.index) ∙ ap (λ ls. w.line_at p.index ∷ ls) (same_lines v w ps e)

pub all_written : (key : List ℕ → List ℕ) (k : KeyedLines) (same : List ℕ → List ℕ → Bool) (r : Repeats) (places : List LinePlace) → r ≡ All
    → map line_bytes (printed r have_one_key (pairs_at (view_of k) places))
    ≡ printed r same (map line_bytes (pairs_at (view_by key (shown_lines k.lines.now)) places))
all_written key k same All places e = same_lines (view_of k) (view_by key (shown_lines k.lines.now)) places (λ i. refl)
all_written key k same FirstOnly places e = absurd (cc)
