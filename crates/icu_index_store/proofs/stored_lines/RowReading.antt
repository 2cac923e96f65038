-- Rows that are read one by one, and their lines.
use Rattle.std.proofs.Common.{◌≡◌, inl, inr, ℕ, ◌+◌, ◌-◌, ◌^◌, List, [], ◌∷◌, ◌++◌, flat_map, length, None, Ok, Some, refl, sym, ap, ap₂, ◌∙◌, subst, append-nil, append_assoc, length-append}
use Rattle.sqlite.proofs.Callers.{unchanged_then}
use Rattle.sqlite.proofs.StateLemmas.{unchanged}
use Rattle.sqlite.proofs.StreamLemmas.{given_plain}
use Rattle.sqlite.specs.Clock.{timed}
use Rattle.sqlite.specs.Effect.{Database}
use Rattle.sqlite.specs.Given.{Advances, HasGiven}
use Rattle.sqlite.specs.Held.{Held, state}
use Rattle.sqlite.specs.Listing.{IsSourceOf, reads_listing, understood}
use Rattle.sqlite.specs.State.{State, IsStatement, IsUnchanged, Shown, ShowsRows}
use Rattle.sqlite_resolve.specs.declared.compiled.Compiled.{Compiled}
use Rattle.sqlite_trees.specs.declared.store.Store.{Ghosts}
use Rattle.sqlite_value.specs.Order.{Row, bytes}
use Rattle.icu_index_store.specs.stored_lines.NameLines.{PrintsRows, name_line, row_lines, name_read, name_in_row}
use Rattle.icu_index_store.specs.stored_names.StoredNames.{IsRowOf}
use Rattle.icu_index_store.specs.declared.stored_names.stored_name.StoredName.{StoredName}

-- what a query shows after calls that changed nothing, it shows of what there was before
module _ (sql : List ℕ) (params : Row) (old mid new : State) (same : IsUnchanged old mid) (plain : (c : Compiled) → understood old.now.schema sql ≡ Ok c → c.returning ≡ None) where
  shown_before : (rows : List Row) → Shown sql params mid new rows → Shown sql params old new rows
  unfolding Shown
  shown_before rows h =
      let is : IsStatement old sql params h.0 = record { is = subst (λ (d : Database). understood d.schema sql ≡ Ok h.0) same.0.now_is h.1.is; whole = h.1.whole; given = h.1.given; now = h.1.now } in
      let none = plain h.0 is.is in
      let full = timed params h.0.formats h.1.now in
      let it = subst (ShowsRows mid new sql h.0 full rows) none h.2 in
      let source = subst (λ (d : Database). IsSourceOf (reads_listing d.schema sql) d it.0) same.0.now_is it.1 in
      (h.0, is, subst (ShowsRows old new sql h.0 full rows) (sym none) (it.0, source, it.2, unchanged_then old mid new same it.3))

flat_map-last : {X Y : Type 0} (f : X → List Y) (xs : List X) (x : X) → flat_map f (xs ++ x ∷ []) ≡ flat_map f xs ++ f x
flat_map-last f [] x = append-nil (f x)
flat_map-last f (y ∷ xs) x = ap (λ l. f y ++ l) (flat_map-last f xs x) ∙ sym (append_assoc (f y) (flat_map f xs) (f x))

same_name : (row : Row) (s : StoredName) → IsRowOf row s → name_in_row row ≡ name_read s
same_name row s is = ap₂ (λ x y. (bytes x, bytes y)) is.1 is.2

module _ {S : Type 0} (g : Ghosts S) (front : List ℕ) where
  -- so many rows were read since the start of a query, and the text grew by their lines
  abbrev pub HasPrinted : Held S → Held S → List ℕ → List ℕ → ℕ → Type 0
  HasPrinted old new before after count =
      (sql : List ℕ) (params : Row) → HasGiven g sql params old []
      → (given : List Row) × HasGiven g sql params new given × IsUnchanged (state g old) (state g new) × (after ≡ before ++ row_lines front given) × (length given ≡ count)

  pub printed_none : (old : Held S) (text : List ℕ) → HasPrinted old old text text 0
  unfolding HasGiven
  printed_none old text = λ sql params h. ([], h, unchanged (state g old) h.0.is_open, sym (append-nil text), refl)

  pub printed_more : (old mid new : Held S) (before text : List ℕ) (count : ℕ) (row : Row) (s : StoredName) → HasPrinted old mid before text count
      → Advances g mid new (Some row) → IsUnchanged (state g mid) (state g new) → IsRowOf row s → HasPrinted old new before (text ++ name_line front (name_read s)) (count + 1)
  printed_more old mid new before text count row s printed moved same is = λ sql params h.
      let was = printed sql params h in
      let line = ap (name_line front) (same_name row s is) in (
        was.0 ++ row ∷ [],
        moved sql params was.0 was.1,
        unchanged_then (state g old) (state g mid) (state g new) was.2 same,
        ap₂ (λ x y. x ++ y) was.3 (sym line)
            ∙ (append_assoc before (row_lines front was.0) (name_line front (name_in_row row))
            ∙ ap (λ l. before ++ l) (sym (flat_map-last (λ r. name_line front (name_in_row r)) was.0 row))),
        length-append was.0 (row ∷ []) ∙ ap (λ n. n + 1) was.4,
      )

  pub printed_all : (old mid new : Held S) (before text : List ℕ) (count : ℕ) → HasPrinted old mid before text count → Advances g mid new None → PrintsRows g front old new before text
  printed_all old mid new before text count printed moved = λ sql params h.
      let was = printed sql params h in
      (was.0, inl (shown_before sql params (state g old) (state g mid) (state g new) was.2 (given_plain g sql params old [] h) was.0 (moved sql params was.0 was.1)), was.3)

  pub printed_most : (old new : Held S) (before text : List ℕ) (count : ℕ) → count ≡ 2 ^ 64 - 1 → HasPrinted old new before text count → PrintsRows g front old new before text
  printed_most old new before text count most printed = λ sql params h.
      let was = printed sql params h in
      (was.0, inr (was.1, was.2, was.4 ∙ most), was.3)
