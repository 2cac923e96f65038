-- Canonically equivalent texts have the same lists, and at the identical level they alone.
use Rattle.std.proofs.Common.{◌≡◌, ℕ, Bool, true, false, List, [], ◌∷◌, map, Ordering, Equal, refl, ap, ◌∙◌, subst}
use Rattle.unicode_normalization.specs.Forms.{nfd}
use Rattle.icu_options.specs.declared.settings.Strength.{Strength}
use Rattle.icu_options.specs.declared.settings.Strength.TheVariants.{Identical}
use Rattle.icu_order_levels.specs.Identical.{identical_rank}
use Rattle.icu_order_levels.specs.Primaries.{Compression}
use Rattle.icu_order_levels.specs.Keys.{LevelLists, in_turn, levels_order, primaries_order, secondaries_order, cases_order, tertiaries_order, quaternaries_order, characters_order}
use Rattle.icu_order_levels.specs.declared.forms.KeyForm.{KeyForm}
use Rattle.icu_order_levels.proofs.Order.{same_lists_order, tied_lists}
use Rattle.icu_order_levels.proofs.KeepLemmas.{both_tie}
use Rattle.icu_order_levels.proofs.SameKeys.{all_tie}
use Rattle.icu_order_levels.proofs.OwnOrder.{own_secondaries, own_cases, own_tertiaries, own_quaternaries}
use Rattle.icu_order_levels.proofs.IdenticalOrder.{same_from_ranks}
use Rattle.icu_order_texts.specs.weighting.Collations.{Collation}
use Rattle.icu_order_texts.specs.weighting.Forms.{compression_of, form_by, is_identical}
use Rattle.icu_order_texts.specs.TextOrder.{lists_by, text_order, text_key}

-- ---- a text ties with itself, whatever its characters where they don't count

tie_with : (c : Compression) (f : KeyForm) (t : LevelLists) (cs : List ℕ) → characters_order f.identical t (record t { characters = cs }) ≡ Equal
    → levels_order c f t (record t { characters = cs }) ≡ Equal
tie_with c f t cs e =
    all_tie _ _ _ _ _ _ (same_lists_order (map c.reorder t.primaries) (map c.reorder t.primaries) refl) (own_secondaries t cs f.secondary)
    (own_cases t cs f.cases) (own_tertiaries t cs f.tertiary) (own_quaternaries t cs f.quaternary) e

own_characters : (t : LevelLists) (f : Bool) → characters_order f t t ≡ Equal
own_characters t false = refl
own_characters t true = same_lists_order (map identical_rank t.characters) (map identical_rank t.characters) refl

own_levels : (c : Compression) (f : KeyForm) (t : LevelLists) → levels_order c f t t ≡ Equal
own_levels c f t = tie_with c f t t.characters (own_characters t f.identical)

uncounted : (f : Bool) (t u : LevelLists) → f ≡ false → characters_order f t u ≡ Equal
uncounted false t u e = refl
uncounted true t u e = cc

-- where the characters don't count, texts with all other lists the same tie
pub uncounted_tie : (c : Compression) (f : KeyForm) (t : LevelLists) (cs : List ℕ) → f.identical ≡ false
    → levels_order c f t (record t { characters = cs }) ≡ Equal
uncounted_tie c f t cs e = tie_with c f t cs (uncounted f.identical t (record t { characters = cs }) e)

-- the last level of two texts that tie
last_level : (c : Compression) (f : KeyForm) (t u : LevelLists) → levels_order c f t u ≡ Equal → characters_order f.identical t u ≡ Equal
last_level c f t u h =
    let o1 = secondaries_order f.secondary t u in
    let o2 = cases_order f.cases t u in
    let o3 = tertiaries_order f.tertiary t u in
    let o4 = quaternaries_order f.quaternary t u in
    let o5 = characters_order f.identical t u in
    let after0 = both_tie (primaries_order c t u) (in_turn (o1 ∷ o2 ∷ o3 ∷ o4 ∷ o5 ∷ [])) h in
    let after1 = both_tie o1 (in_turn (o2 ∷ o3 ∷ o4 ∷ o5 ∷ [])) after0.1 in
    let after2 = both_tie o2 (in_turn (o3 ∷ o4 ∷ o5 ∷ [])) after1.1 in
    let after3 = both_tie o3 (in_turn (o4 ∷ o5 ∷ [])) after2.1 in
    let after4 = both_tie o4 (in_turn (o5 ∷ [])) after3.1 in
    (both_tie o5 Equal after4.1).0

same_characters : (t u : LevelLists) → characters_order true t u ≡ Equal → t.characters ≡ u.characters
same_characters t u e =
    same_from_ranks t.characters u.characters (tied_lists (map identical_rank t.characters) (map identical_rank u.characters) e)

module _ (collation : Collation) (t u : List ℕ) where
  open collation use {tables as all, settings}

  abbrev order_of_decomposed : List ℕ → List ℕ → Ordering
  order_of_decomposed text other =
      levels_order (compression_of all) (form_by collation) (lists_by collation text) (lists_by collation other)

  pub equivalent_tie : nfd t ≡ nfd u → text_order collation t u ≡ Equal
  unfolding text_order
  equivalent_tie e =
      ap (λ text. order_of_decomposed text (nfd u)) e ∙ own_levels (compression_of all) (form_by collation) (lists_by collation (nfd u))

  pub equivalent_key : nfd t ≡ nfd u → text_key collation t ≡ text_key collation u
  unfolding text_key
  equivalent_key e = rw e refl

  characters_tie : (s : Strength) → s ≡ Identical → characters_order (is_identical s) (lists_by collation (nfd t)) (lists_by collation (nfd u)) ≡ Equal → nfd t ≡ nfd u
  unfolding lists_by
  characters_tie s is e =
      same_characters (lists_by collation (nfd t)) (lists_by collation (nfd u))
      (subst (λ s. characters_order (is_identical s) (lists_by collation (nfd t)) (lists_by collation (nfd u)) ≡ Equal) is e)

  pub identical_equivalent : settings.strength ≡ Identical → text_order collation t u ≡ Equal → nfd t ≡ nfd u
  unfolding text_order
  identical_equivalent is e =
      characters_tie settings.strength is
      (last_level (compression_of all) (form_by collation) (lists_by collation (nfd t)) (lists_by collation (nfd u)) e)
