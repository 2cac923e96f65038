-- An entry more, where a border stands.
use Rattle.std.proofs.Common.{◌≡◌, ℕ, ◌<◌, ◌≤◌, List, [], ◌∷◌, ◌++◌, drop, get_or, length, take, sym, ap, ◌∙◌, subst}
use Rattle.std.proofs.Math.ListN.{set}
use Rattle.std.specs.Global.{Vec}
use Rattle.icu_index_keys.proofs.LeafLemmas.{entries_put, entries_same, entries_pushed, none_there}
use Rattle.icu_index_keys.proofs.LeafPlaceLemmas.{leaf_got}
use Rattle.icu_index_keys.specs.declared.name_entries.Entry.{Entry}
use Rattle.icu_index_keys.specs.inner.Leaves.{before, behind, entries_of, leaf_at}

module _ (ls : List (Vec Entry)) (i j : ℕ) where
  pub place_inside : (old : Vec Entry) → old ≡ get_or ls i old → i < length ls → j ≤ length (leaf_at ls i) → j ≤ length old.items
  place_inside old was low inside =
      subst (λ es. j ≤ length es) (leaf_got ls i old low ∙ ap (λ (o : Vec Entry). o.items) (sym was)) inside

  here : (old : Vec Entry) → old ≡ get_or ls i old → i < length ls → leaf_at ls i ≡ old.items
  here old was low = leaf_got ls i old low ∙ ap (λ (o : Vec Entry). o.items) (sym was)

  pub put_in_place : (e : Entry) (old l : Vec Entry) → old ≡ get_or ls i old → i < length ls → l.items ≡ take j old.items ++ e ∷ drop j old.items
      → entries_of (set ls i l) ≡ before ls i j ++ e ∷ behind ls i j
  put_in_place e old l was low put = entries_put ls i j e l low (put ∙ ap (λ es. take j es ++ e ∷ drop j es) (sym (here old was low)))

  pub put_failed : (old l : Vec Entry) → old ≡ get_or ls i old → i < length ls → l.items ≡ old.items → entries_of (set ls i l) ≡ entries_of ls
  put_failed old l was low stays = entries_same ls i l low (stays ∙ sym (here old was low))

  pub put_last : (e : Entry) (l : Vec Entry) (new : List (Vec Entry)) → l.items ≡ e ∷ [] → new ≡ ls ++ l ∷ [] → length ls ≤ i → j ≤ length (leaf_at ls i)
      → entries_of new ≡ before ls i j ++ e ∷ behind ls i j
  put_last e l new one pushed past inside =
      let none = none_there ls i j past inside in
      ap entries_of pushed
      ∙ (entries_pushed ls l
      ∙ (ap (λ es. entries_of ls ++ (es ++ [])) one
      ∙ (ap (λ es. es ++ e ∷ []) (sym none.0) ∙ ap (λ es. before ls i j ++ e ∷ es) (sym none.1))))
