-- Lines that are printed of those that have their keys.
use Rattle.std.proofs.Common.{◌≡◌, ℕ, Bool, true, false, List, [], ◌∷◌, bytes_eq, map, if◌then◌else◌, refl, sym, ap, ◌∙◌}
use Rattle.std.proofs.lemmas.Map.Text.{is_eq-slice_cmp}
use Rattle.std.specs.List.{AllByRecursion}
use Rattle.std.specs.Ordering.{is_eq}
use Rattle.icu_order_levels.specs.ListOrder.{list_order}
use Rattle.line_sorts.proofs.SortedLineLemmas.{IsKeyed}
use Rattle.line_sorts.specs.FirstLines.{firsts, firsts_behind, have_one_key, printed}
use Rattle.line_sorts.specs.KeyBuffers.{line_bytes}
use Rattle.line_sorts.specs.declared.sort_request.Repeats.{Repeats}
use Rattle.line_sorts.specs.declared.sort_request.Repeats.TheVariants.{All, FirstOnly}

module _ (key : List ℕ → List ℕ) where
  abbrev alike : List ℕ → List ℕ → Bool
  alike x y = is_eq (list_order (key x) (key y))

  one_key : (x y : List ℕ × List ℕ) → IsKeyed key x → IsKeyed key y → have_one_key x y ≡ alike (line_bytes x) (line_bytes y)
  one_key x y h k =
      ap (λ i. bytes_eq i y.0) h ∙ (ap (bytes_eq (key x.1)) k ∙ sym (is_eq-slice_cmp (key x.1) (key y.1)))

  behind_at : (b c : Bool) (x : List ℕ × List ℕ) (ys : List (List ℕ × List ℕ)) (zs : List (List ℕ)) → b ≡ c → map line_bytes ys ≡ zs
      → map line_bytes (if b then ys else x ∷ ys) ≡ (if c then zs else line_bytes x ∷ zs)
  behind_at true true x ys zs e h = h
  behind_at false false x ys zs e h = ap (λ ls. line_bytes x ∷ ls) h
  behind_at true false x ys zs e h = absurd (cc)
  behind_at false true x ys zs e h = absurd (cc)

  firsts_behind_as : (before : List ℕ × List ℕ) (ks : List (List ℕ × List ℕ)) → IsKeyed key before → AllByRecursion (IsKeyed key) ks
      → map line_bytes (firsts_behind have_one_key before ks) ≡ firsts_behind alike (line_bytes before) (map line_bytes ks)
  firsts_behind_as before [] h are = refl
  firsts_behind_as before (k ∷ ks) h are =
      behind_at (have_one_key before k) (alike (line_bytes before) (line_bytes k)) k (firsts_behind have_one_key k ks)
      (firsts_behind alike (line_bytes k) (map line_bytes ks)) (one_key before k h are.0) (firsts_behind_as k ks are.0 are.1)

  firsts_as : (ks : List (List ℕ × List ℕ)) → AllByRecursion (IsKeyed key) ks → map line_bytes (firsts have_one_key ks) ≡ firsts alike (map line_bytes ks)
  firsts_as [] are = refl
  firsts_as (k ∷ ks) are = ap (λ ls. line_bytes k ∷ ls) (firsts_behind_as k ks are.0 are.1)

  -- of those with one key the first is printed, where of lines with equal keys the first is
  pub printed_as : (repeats : Repeats) (ks : List (List ℕ × List ℕ)) → AllByRecursion (IsKeyed key) ks
      → map line_bytes (printed repeats have_one_key ks) ≡ printed repeats alike (map line_bytes ks)
  printed_as All ks are = refl
  printed_as FirstOnly ks are = firsts_as ks are
