-- Where an index is made anew each name gets its new key.
use Rattle.std.proofs.Common.{◌≡◌, ℕ, ◌<◌, ◌==◌, false, cond, List, [], ◌∷◌, ◌++◌, map, refl, sym, ap, ap₂, ◌∙◌, subst}
use Rattle.std.proofs.lemmas.Bool.{eq-eqb}
use Rattle.icu_index_store.proofs.stored_rows.RekeyedRows.{apart_test, apart_back}
use Rattle.std.specs.List.{AllByRecursion}
use Rattle.sqlite.specs.Held.{state}
use Rattle.sqlite_trees.proofs.ListLemmas.{map-map}
use Rattle.sqlite_trees.specs.declared.store.Store.{Ghosts}
use Rattle.icu_table_data.proofs.ListLemmas.{weaker}
use Rattle.icu_index_store.proofs.stored_rows.RanStatements.{steps_leave}
use Rattle.icu_index_store.specs.stored_rows.KeptNames.{KeptName, NameStep, AreNumbered, Keeps, key_given, left_by, left_by_all, other_print, rekeyed, rekeying, under_key}
use Rattle.icu_index_store.specs.stored_rows.RowLaws.{NamesAreRekeyed}

left_by_both : (first more : List NameStep) (kept : List KeptName) → left_by_all (first ++ more) kept ≡ left_by_all more (left_by_all first kept)
left_by_both [] more kept = refl
left_by_both (step ∷ first) more kept = left_by_both first more (left_by step kept)

map_id : (ks : List KeptName) → map (λ k. k) ks ≡ ks
map_id [] = refl
map_id (k ∷ ks) = ap (λ l. k ∷ l) (map_id ks)

same_map : (f h : KeptName → KeptName) (ks : List KeptName) → AllByRecursion (λ k. f k ≡ h k) ks → map f ks ≡ map h ks
same_map f h [] e = refl
same_map f h (k ∷ ks) e = ap₂ (λ j l. j ∷ l) e.0 (same_map f h ks e.1)

module _ (key : List ℕ → List ℕ) where
  abbrev step_for : KeptName → NameStep
  step_for k = rekeyed k.number (key k.name)

  -- what the steps of some names make of one
  abbrev given_by : List KeptName → KeptName → KeptName
  given_by [] x = x
  given_by (k ∷ ks) x = given_by ks (key_given k.number (key k.name) x)

  by_each : (ks xs : List KeptName) → left_by_all (map step_for ks) xs ≡ map (given_by ks) xs
  by_each [] xs = sym (map_id xs)
  by_each (k ∷ ks) xs = by_each ks (map (key_given k.number (key k.name)) xs) ∙ map-map (given_by ks) (key_given k.number (key k.name)) xs

  -- no step is one of this name
  passed_over : (ks : List KeptName) (x : KeptName) → AllByRecursion (λ k. (x.number == k.number) ≡ false) ks → given_by ks x ≡ x
  passed_over [] x h = refl
  passed_over (k ∷ ks) x h = ap (λ b. given_by ks (cond b (record x { key = key k.name }) x)) h.0 ∙ passed_over ks x h.1

  own : (k : KeptName) (ks : List KeptName) → AllByRecursion (λ j. k.number < j.number) ks → given_by (k ∷ ks) k ≡ under_key key k
  own k ks up =
      ap (λ b. given_by ks (cond b (under_key key k) k)) (eq-eqb k.number k.number refl)
      ∙ passed_over ks (under_key key k) (weaker (λ j. k.number < j.number) (λ j. (k.number == j.number) ≡ false) (λ j low. apart_test k.number j.number low) ks up)

  later : (k : KeptName) (ks xs : List KeptName) → AllByRecursion (λ j. k.number < j.number) xs → AllByRecursion (λ x. given_by ks x ≡ under_key key x) xs
      → AllByRecursion (λ x. given_by (k ∷ ks) x ≡ under_key key x) xs
  later k ks [] up h = tt
  later k ks (x ∷ xs) up h = (ap (λ b. given_by ks (cond b (record x { key = key k.name }) x)) (apart_back k.number x.number up.0) ∙ h.0, later k ks xs up.1 h.1)

  each_own : (ks : List KeptName) → AreNumbered ks → AllByRecursion (λ x. given_by ks x ≡ under_key key x) ks
  each_own [] h = tt
  each_own (k ∷ ks) h = (own k ks h.0, later k ks ks h.0 (each_own ks h.1))

  all_rekeyed : (fingerprint settings : List ℕ) (kept : List KeptName) → AreNumbered kept → left_by_all (rekeying key fingerprint settings kept) kept ≡ map (under_key key) kept
  all_rekeyed fingerprint settings kept order =
      left_by_both (map step_for kept) (other_print fingerprint settings ∷ []) kept
      ∙ (by_each kept kept ∙ same_map (given_by kept) (under_key key) kept (each_own kept order))

module _ {S : Type 0} (g : Ghosts S) where
  pub names_rekeyed : NamesAreRekeyed g
  names_rekeyed key fingerprint settings old new kept keeps ran =
      subst (Keeps (state g new).now) (all_rekeyed key fingerprint settings kept keeps.numbered) (steps_leave g (rekeying key fingerprint settings kept) old new kept keeps ran)
