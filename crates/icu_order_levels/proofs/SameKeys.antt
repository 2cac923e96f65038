-- Two texts have one key exactly if they have the same lists.
use Rattle.std.proofs.Common.{◌≡◌, Bool, true, false, [], ◌∷◌, map, refl, sym, ap, ◌∙◌, Ordering, Equal, Option, Some, None}
use Rattle.icu_order_levels.specs.Identical.{identical_rank}
use Rattle.icu_order_levels.specs.Primaries.{Compression}
use Rattle.icu_order_levels.specs.Keys.{in_turn, LevelLists, key_bytes, primaries_order, secondaries_order, cases_order, tertiaries_order, quaternaries_order, characters_order}
use Rattle.icu_order_levels.specs.KeyPremises.{ReachableWeights, AreWeights, AreLists, AreParallel}
use Rattle.icu_order_levels.specs.KeyLaws.{SameSecondaries, SameCases, SameTertiaries, SameQuaternaries, SameCharacters, HaveSameLists}
use Rattle.icu_order_levels.proofs.Order.{same_lists_order, tied_lists}
use Rattle.icu_order_levels.proofs.IdenticalOrder.{same_from_ranks}
use Rattle.icu_order_levels.proofs.KeepLemmas.{both_tie, tied_segments, same_segments_order}
use Rattle.icu_order_levels.proofs.KeyOrder.{keys_order}
use Rattle.icu_order_levels.specs.declared.forms.CaseForm.{CaseForm}
use Rattle.icu_order_levels.specs.declared.forms.KeyForm.{KeyForm}
use Rattle.icu_order_levels.specs.declared.forms.QuaternaryForm.{QuaternaryForm}
use Rattle.icu_order_levels.specs.declared.forms.SecondaryForm.{SecondaryForm}
use Rattle.icu_order_levels.specs.declared.forms.SecondaryForm.TheVariants.{Backward, Forward}
use Rattle.icu_order_levels.specs.declared.forms.TertiaryForm.{TertiaryForm}

module _ (t u : LevelLists) where
  -- ---- a level that ties has the same list
  pub secondaries_from : (f : Option SecondaryForm) → secondaries_order f t u ≡ Equal → SameSecondaries f t u
  secondaries_from None e = tt
  secondaries_from (Some Forward) e = tied_lists t.secondaries u.secondaries e
  secondaries_from (Some Backward) e = tied_segments t.segments u.segments e

  pub cases_from : (f : Option CaseForm) → cases_order f t u ≡ Equal → SameCases f t u
  cases_from None e = tt
  cases_from (Some form) e = tied_lists t.cases u.cases e

  pub tertiaries_from : (f : Option TertiaryForm) → tertiaries_order f t u ≡ Equal → SameTertiaries f t u
  tertiaries_from None e = tt
  tertiaries_from (Some form) e = tied_lists t.tertiaries u.tertiaries e

  pub quaternaries_from : (f : Option QuaternaryForm) → quaternaries_order f t u ≡ Equal → SameQuaternaries f t u
  quaternaries_from None e = tt
  quaternaries_from (Some form) e = tied_lists t.quaternaries u.quaternaries e

  pub characters_from : (f : Bool) → characters_order f t u ≡ Equal → SameCharacters f t u
  characters_from false e = tt
  characters_from true e =
      same_from_ranks t.characters u.characters (tied_lists (map identical_rank t.characters) (map identical_rank u.characters) e)

  -- ---- and the same list ties
  secondaries_to : (f : Option SecondaryForm) → SameSecondaries f t u → secondaries_order f t u ≡ Equal
  secondaries_to None e = refl
  secondaries_to (Some Forward) e = same_lists_order t.secondaries u.secondaries e
  secondaries_to (Some Backward) e = same_segments_order t.segments u.segments e

  cases_to : (f : Option CaseForm) → SameCases f t u → cases_order f t u ≡ Equal
  cases_to None e = refl
  cases_to (Some form) e = same_lists_order t.cases u.cases e

  tertiaries_to : (f : Option TertiaryForm) → SameTertiaries f t u → tertiaries_order f t u ≡ Equal
  tertiaries_to None e = refl
  tertiaries_to (Some form) e = same_lists_order t.tertiaries u.tertiaries e

  quaternaries_to : (f : Option QuaternaryForm) → SameQuaternaries f t u → quaternaries_order f t u ≡ Equal
  quaternaries_to None e = refl
  quaternaries_to (Some form) e = same_lists_order t.quaternaries u.quaternaries e

  characters_to : (f : Bool) → SameCharacters f t u → characters_order f t u ≡ Equal
  characters_to false e = refl
  characters_to true e = same_lists_order (map identical_rank t.characters) (map identical_rank u.characters) (ap (map identical_rank) e)

pub all_tie : (a b c d e f : Ordering) → a ≡ Equal → b ≡ Equal → c ≡ Equal → d ≡ Equal → e ≡ Equal → f ≡ Equal
    → in_turn (a ∷ b ∷ c ∷ d ∷ e ∷ f ∷ []) ≡ Equal
all_tie a b c d e f g h i j k l = rw (g, h, i, j, k, l) refl

module _ (c : Compression) (f : KeyForm) (reachable : ReachableWeights) (t u : LevelLists) (well_formed : AreWeights c f reachable) (p : AreLists f reachable t)
    (q : AreLists f reachable u) (both : AreParallel c f t u) where
  pub same_levels : key_bytes c f t ≡ key_bytes c f u → HaveSameLists c f t u
  same_levels e =
      let o = sym (keys_order c f reachable t u well_formed p q both) ∙ same_lists_order (key_bytes c f t) (key_bytes c f u) e in
      let o0 = both_tie (primaries_order c t u)
      (in_turn (secondaries_order f.secondary t u ∷ cases_order f.cases t u ∷ tertiaries_order f.tertiary t u ∷ quaternaries_order
      f.quaternary t u ∷ characters_order f.identical t u ∷ [])) o in
      let o1 = both_tie (secondaries_order f.secondary t u)
      (in_turn (cases_order f.cases t u ∷ tertiaries_order f.tertiary t u ∷ quaternaries_order f.quaternary t u ∷ characters_order
      f.identical t u ∷ [])) o0.1 in
      let o2 =
      both_tie (cases_order f.cases t u)
      (in_turn (tertiaries_order f.tertiary t u ∷ quaternaries_order f.quaternary t u ∷ characters_order f.identical t u ∷ [])) o1.1 in
      let o3 =
      both_tie (tertiaries_order f.tertiary t u)
      (in_turn (quaternaries_order f.quaternary t u ∷ characters_order f.identical t u ∷ [])) o2.1 in
      let o4 = both_tie (quaternaries_order f.quaternary t u) (in_turn (characters_order f.identical t u ∷ [])) o3.1 in
      let o5 = both_tie (characters_order f.identical t u) Equal o4.1 in
      record {
        primaries = tied_lists (map c.reorder t.primaries) (map c.reorder u.primaries) o0.0;
        secondaries = secondaries_from t u f.secondary o1.0;
        cases = cases_from t u f.cases o2.0;
        tertiaries = tertiaries_from t u f.tertiary o3.0;
        quaternaries = quaternaries_from t u f.quaternary o4.0;
        characters = characters_from t u f.identical o5.0;
      }

  pub same_keys : HaveSameLists c f t u → key_bytes c f t ≡ key_bytes c f u
  same_keys same = tied_lists (key_bytes c f t) (key_bytes c f u) (keys_order c f reachable t u well_formed p q both ∙ all_tie _ _ _ _ _ _
      (same_lists_order (map c.reorder t.primaries) (map c.reorder u.primaries) same.primaries)
      (secondaries_to t u f.secondary same.secondaries) (cases_to t u f.cases same.cases) (tertiaries_to t u f.tertiary same.tertiaries)
      (quaternaries_to t u f.quaternary same.quaternaries) (characters_to t u f.identical same.characters))
