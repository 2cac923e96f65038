-- Names that are made anew, some at a time.
use Rattle.std.proofs.Common.{◌≡◌, ℕ, ℤ, pos, negsuc, int_lt, ◌<ℤ◌, zero, suc, ◌+◌, ◌-◌, ◌<◌, ◌≤◌, true, List, [], ◌∷◌, length, map, drop, take, get_or, Option, Some, None, Ok, IfSome, IsTrue, refl, sym, ap, ap₂, ◌∙◌, subst, subst₂, arith}
use Rattle.std.proofs.lemmas.Int.{ints}
use Rattle.std.proofs.lemmas.List.{at_drop_all, drop_more}
use Rattle.sqlite.proofs.Callers.{IsPlain}
use Rattle.sqlite.specs.Batch.{ExecutesAllInside}
use Rattle.sqlite.specs.Held.{Held, state}
use Rattle.sqlite.specs.Listing.{understood}
use Rattle.sqlite.specs.State.{State, ExecutesInside, Shown, ShowsRows}
use Rattle.sqlite.specs.Clock.{timed}
use Rattle.sqlite_schema.specs.declared.command.Returning.{Returning}
use Rattle.sqlite_trees.specs.declared.store.Store.{Ghosts}
use Rattle.sqlite_value.specs.Order.{Row, column}
use Rattle.sqlite_value.specs.declared.value.Value.TheVariants.{Blob, Int, Text}
use Rattle.icu_index_store.specs.stored_names.StatementTexts.{after_text, fingerprint_text, keep_fingerprint_text, rekey_text, replace_fingerprint_text, tables_text}
use Rattle.icu_index_store.proofs.stored_rows.MadeTables.{tables_made, tables_stay}
use Rattle.icu_index_store.proofs.stored_rows.NextRows.{next_shown}
use Rattle.icu_index_store.proofs.stored_rows.PrintedRows.{prints_first, prints_other}
use Rattle.icu_index_store.proofs.stored_rows.RanStatements.{keeps_as}
use Rattle.icu_index_store.proofs.stored_rows.RekeyedRows.{rekeys}
use Rattle.icu_index_store.proofs.stored_rows.RenewedNames.{above_unchanged, all_renewed, has_above, next_renewed, none_renewed}
use Rattle.icu_index_store.proofs.stored_rows.StatementMeanings.{after_is, print_is}
use Rattle.icu_index_store.specs.stored_rows.KeptNames.{KeptName, AreNumbered, Keeps, names_above, renewed_up_to, shown_row, under_key}
use Rattle.icu_index_store.specs.stored_rows.Renewals.{AreRenewed, GivesKey, HasRenewed, RenewsIndex, RenewsNext, StaysIndex, renewed_by}
use Rattle.icu_index_store.specs.stored_rows.StoredSchemas.{names_schema}

-- ---- queries

-- a query leaves the transaction as it is
pub shown_inside : (sql : List ℕ) (params : Row) (old new : State) (rows : List Row) → Shown sql params old new rows → new.in_transaction ≡ old.in_transaction
unfolding Shown
shown_inside sql params old new rows h = at h.0.returning h.2
  where
    at : (what : Option Returning) → ShowsRows old new sql h.0 (timed params h.0.formats h.1.now) rows what → new.in_transaction ≡ old.in_transaction
    at None it = it.3.0.mode
    at (Some what) it = it.1.shown.mode

-- and one without RETURNING what there is
pub shown_same : (sql : List ℕ) (params : Row) (old new : State) (rows : List Row) → IsPlain (understood old.now.schema sql) → Shown sql params old new rows → new.now ≡ old.now
unfolding Shown
shown_same sql params old new rows plain h =
    let none = (subst IsPlain h.1.is plain).0 in
    let it = subst (ShowsRows old new sql h.0 (timed params h.0.formats h.1.now) rows) none h.2 in
    it.3.0.now_is

keeps_shown : (sql : List ℕ) (params : Row) (old new : State) (rows : List Row) (kept : List KeptName) → IsPlain (understood names_schema sql)
    → Keeps old.now kept → Shown sql params old new rows → Keeps new.now kept
keeps_shown sql params old new rows kept plain keeps h =
    keeps_as old.now new.now kept (shown_same sql params old new rows (subst (λ s. IsPlain (understood s sql)) (sym keeps.schema) plain) h) keeps

-- ---- rows of names

whole : (n : ℕ) → n ≡ n - 0
whole n = omega arith

-- the first of the next names, where a row of them is shown
first_row : (n : ℕ) (ks : List KeptName) (row : Row) (more : List Row) → row ∷ more ≡ map shown_row (take n ks)
    → (next : KeptName) × (rest : List KeptName) × (ks ≡ next ∷ rest) × (row ≡ shown_row next) × (more ≡ map shown_row (take (n - 1) rest))
first_row zero ks row more h = absurd (let e = h in cc)
first_row (suc n) [] row more h = absurd (let e = h in cc)
first_row (suc n) (k ∷ ks) row more h =
    let one : n ≡ suc n - 1 = omega arith in
    let head : row ≡ shown_row k = cc in
    let tail : more ≡ map shown_row (take n ks) = cc in
    (k, ks, refl, head, tail ∙ ap (λ m. map shown_row (take m ks)) one)

no_rows : (n : ℕ) (ks : List KeptName) → 0 < n → [] ≡ map shown_row (take n ks) → ks ≡ []
no_rows zero ks some h = absurd (omega arith)
no_rows (suc n) [] some h = refl
no_rows (suc n) (k ∷ ks) some h = absurd (let e = h in cc)

-- ---- what is there already

module _ {S : Type 0} (g : Ghosts S) where
  pub index_made : (old new : Held S) → ExecutesAllInside g 0 tables_text old new (Ok tt) → StaysIndex (state g old).now (state g new).now
  index_made old new h = record {
    made = λ none. tables_made g old new h none;
    stays = λ kept keeps. keeps_as (state g old).now (state g new).now kept (tables_stay g old new h kept keeps) keeps;
  }

  pub index_read : (old mid new : Held S) (rows : List Row) → StaysIndex (state g old).now (state g mid).now → Shown fingerprint_text [] (state g mid) (state g new) rows
      → StaysIndex (state g old).now (state g new).now
  index_read old mid new rows stays h =
      let on : (kept : List KeptName) → Keeps (state g mid).now kept → Keeps (state g new).now kept = λ kept keeps. keeps_shown fingerprint_text [] (state g mid) (state g new) rows kept print_is.0 keeps h in
      record { made = λ none. on [] (stays.made none); stays = λ kept keeps. on kept (stays.stays kept keeps) }

  pub index_printed : (fingerprint settings : List ℕ) (old mid new : Held S) (count : ℕ) → StaysIndex (state g old).now (state g mid).now
      → ExecutesInside 0 keep_fingerprint_text (Blob fingerprint ∷ Text settings ∷ []) (state g mid) (state g new) (Ok count) → StaysIndex (state g old).now (state g new).now
  index_printed fingerprint settings old mid new count stays h =
      let on : (kept : List KeptName) → Keeps (state g mid).now kept → Keeps (state g new).now kept = λ kept keeps. prints_first fingerprint settings (state g mid) (state g new) count kept keeps h.0 in
      record { made = λ none. on [] (stays.made none); stays = λ kept keeps. on kept (stays.stays kept keeps) }

  -- ---- some names made anew

  module _ (key : List ℕ → List ℕ) where
    -- the number up to which names are under new keys
    abbrev pub reached : ℤ → Option ℤ → ℤ
    reached behind None = behind
    reached behind (Some last) = last

    -- so many rows were gone through, and the last of them had a number above the first ones
    abbrev pub StandsAt : ℤ → Option ℤ → ℕ → Type 0
    StandsAt behind None count = count ≡ 0
    StandsAt behind (Some last) count = behind <ℤ last

    -- of the rows that the query for the next names showed so many were gone through
    pub record RenewsSome (behind : ℤ) (most : ℕ) (rows : List Row) (old new : Held S) (count : ℕ) (last : Option ℤ) : Type 0 where
      pub inside : IsTrue (state g new).in_transaction
      pub names : (kept : List KeptName) → AreNumbered kept → Keeps (state g old).now (renewed_up_to key behind kept)
          → Keeps (state g new).now (renewed_up_to key (reached behind last) kept)
          × (drop count rows ≡ map shown_row (take (most - count) (names_above (reached behind last) kept)))
          × StandsAt behind last count

    pub renewal_begins : (behind : ℤ) (most : ℕ) (rows : List Row) (old new : Held S) → IsTrue (state g old).in_transaction
        → Shown after_text (Int behind ∷ Int (pos most) ∷ []) (state g old) (state g new) rows → RenewsSome behind most rows old new 0 None
    renewal_begins behind most rows old new inside h = record {
      inside = shown_inside after_text _ (state g old) (state g new) rows h ∙ inside;
      names = λ kept numbered keeps. (
        keeps_shown after_text _ (state g old) (state g new) rows (renewed_up_to key behind kept) after_is.1 keeps h,
        next_shown behind most (state g old) (state g new) rows (renewed_up_to key behind kept) keeps h
            ∙ (ap (λ ks. map shown_row (take most ks)) (above_unchanged key behind kept)
            ∙ ap (λ n. map shown_row (take n (names_above behind kept))) (whole most)),
        refl,
      );
    }

    pub renewal_goes_on : (behind : ℤ) (most : ℕ) (rows : List Row) (old now new : Held S) (count : ℕ) (last : Option ℤ) (d : Row) (number : ℤ)
        → RenewsSome behind most rows old now count last → count < length rows → GivesKey key g (get_or rows count d) number now new
        → RenewsSome behind most rows old new (count + 1) (Some number)
    renewal_goes_on behind most rows old now new count last d number some low gives = record {
      inside = gives.ran.1.mode;
      names = λ kept numbered keeps.
          let b = reached behind last in
          let was = some.names kept numbered keeps in
          let first = first_row (most - count) (names_above b kept) (get_or rows count d) (drop (count + 1) rows) (sym (drop_more rows count d low) ∙ was.1) in
          let next = first.0 in
          let is : number ≡ pos next.number = let e : Int number ≡ Int (pos next.number) = sym gives.number_is ∙ ap (λ r. column r 0) first.3 in cc in
          let name : gives.name ≡ next.name = let e : Blob gives.name ≡ Blob next.name = sym gives.name_is ∙ ap (λ r. column r 1) first.3 in cc in
          let goes = next_renewed key b kept next first.1 numbered first.2 in
          let ran : ExecutesInside 0 rekey_text (Int (pos next.number) ∷ Blob (key next.name) ∷ []) (state g now) (state g new) (Ok gives.count) =
          subst₂ (λ n x. ExecutesInside 0 rekey_text (Int n ∷ Blob (key x) ∷ []) (state g now) (state g new) (Ok gives.count)) is name gives.ran in
          let keeps_more = rekeys next.number (key next.name) (state g now) (state g new) gives.count (renewed_up_to key b kept) was.0 ran.0 in
          let up : int_lt b (pos next.number) ≡ true = has_above key b kept next first.1 first.2 in
          let less : (most - count) - 1 ≡ most - (count + 1) = omega arith in (
            subst (λ n. Keeps (state g new).now (renewed_up_to key n kept)) (sym is) (subst (Keeps (state g new).now) goes.0 keeps_more),
            first.4 ∙ ap₂ (λ n ks. map shown_row (take n ks)) less (sym goes.1 ∙ ap (λ n. names_above n kept) (sym is)),
            rises last (subst (λ n. int_lt b n ≡ true) (sym is) up) was.2,
          );
    }
      where
        rises : (it : Option ℤ) → int_lt (reached behind it) number ≡ true → StandsAt behind it count → behind <ℤ number
        rises None up stands = omega (arith, ints)
        rises (Some l) up stands = omega (arith, ints)

    pub renewal_ends : (behind : ℤ) (most : ℕ) (rows : List Row) (old new : Held S) (count : ℕ) (last : Option ℤ) → 0 < most → length rows ≤ count
        → RenewsSome behind most rows old new count last → RenewsNext key g behind last old new
    renewal_ends behind most rows old new count last some_most all some = record {
      inside = some.inside;
      names = λ kept numbered keeps. at last kept (some.names kept numbered keeps);
    }
      where
        at : (it : Option ℤ) (kept : List KeptName) → Keeps (state g new).now (renewed_up_to key (reached behind it) kept)
            × (drop count rows ≡ map shown_row (take (most - count) (names_above (reached behind it) kept))) × StandsAt behind it count
            → Keeps (state g new).now (renewed_by key it kept) × IfSome it (λ l. behind <ℤ l)
        at None kept h =
            let long : 0 < most - count = omega (arith, h.2) in
            let none : [] ≡ map shown_row (take (most - count) (names_above behind kept)) = sym (at_drop_all (λ l. l) rows count all) ∙ h.1 in
            (subst (Keeps (state g new).now) (all_renewed key behind kept (no_rows (most - count) (names_above behind kept) long none)) h.0, tt)
        at (Some l) kept h = (h.0, h.2)

    -- ---- all of them

    pub all_begin : (low : ℕ) (old : Held S) → IsTrue (state g old).in_transaction → HasRenewed key g (negsuc low) old old
    all_begin low old inside = record {
      inside = inside;
      names = λ kept keeps. subst (Keeps (state g old).now) (sym (none_renewed key low kept)) keeps;
    }

    pub all_go_on : (behind last : ℤ) (old now new : Held S) → HasRenewed key g behind old now → RenewsNext key g behind (Some last) now new → HasRenewed key g last old new
    all_go_on behind last old now new so next = record {
      inside = next.inside;
      names = λ kept keeps. (next.names kept keeps.numbered (so.names kept keeps)).0;
    }

    pub all_end : (behind : ℤ) (old now new : Held S) → HasRenewed key g behind old now → RenewsNext key g behind None now new → AreRenewed key (state g old).now (state g new).now
    all_end behind old now new so next = λ kept keeps. (next.names kept keeps.numbered (so.names kept keeps)).0

    -- the last one is never at or below the first number
    pub all_stuck : (behind last : ℤ) (old now new : Held S) → ¬ (behind <ℤ last) → HasRenewed key g behind old now → RenewsNext key g behind (Some last) now new
        → AreRenewed key (state g old).now (state g new).now
    all_stuck behind last old now new stuck so next = λ kept keeps. absurd (stuck (next.names kept keeps.numbered (so.names kept keeps)).1)

    -- ---- a whole index

    pub index_renewed : (fingerprint settings : List ℕ) (first old now new : Held S) (count : ℕ) → StaysIndex (state g first).now (state g old).now
        → AreRenewed key (state g old).now (state g now).now
        → ExecutesInside 0 replace_fingerprint_text (Blob fingerprint ∷ Text settings ∷ []) (state g now) (state g new) (Ok count)
        → RenewsIndex key (state g first).now (state g new).now
    index_renewed fingerprint settings first old now new count stays renewed h =
        let on : (kept : List KeptName) → Keeps (state g old).now kept → Keeps (state g new).now (map (under_key key) kept) =
        λ kept keeps. prints_other fingerprint settings (state g now) (state g new) count (map (under_key key) kept) (renewed kept keeps) h.0 in
        record { made = λ none. on [] (stays.made none); names = λ kept keeps. on kept (stays.stays kept keeps) }
