-- The law of names that are listed by a collation, as a contract names it.
use Rattle.std.specs.Prelude.{◌≡◌, ℕ, Bool, ◌&&◌, not, List, [], filter, map, Option, Some}
use Rattle.std.specs.Ordering.{is_lt}
use Rattle.std.specs.declared.cmp.Ordering.{Ordering}
use Rattle.sqlite.specs.Held.{Held, state}
use Rattle.sqlite.specs.State.{Shown}
use Rattle.sqlite_trees.specs.declared.store.Store.{Ghosts}
use Rattle.sqlite_value.specs.Order.{Row}
use Rattle.icu_order_levels.specs.beginnings.KeyBeginnings.{stands_between}
use Rattle.icu_table_provider.specs.well_formed.WellFormedTables.{IsWellFormedTables}
use Rattle.icu_text_encodings.specs.DecodedTexts.{utf8_text}
use Rattle.icu_index_store.specs.stored_names.StatementTexts.{all_text, range_parameters, range_text}
use Rattle.icu_index_store.specs.stored_rows.KeptNames.{HaveNameKeys, KeptName, Keeps, rekeying}
use Rattle.icu_index_store.specs.stored_rows.NameListings.{Change, Named, ShowInOrder, left_after_all, named, step_of}
use Rattle.icu_index_store.specs.stored_rows.RowLaws.{RunInTurn}
use Rattle.icu_order_texts.specs.Collations.{Collation}
use Rattle.icu_order_texts.specs.TextOrder.{text_key, text_order}

-- the sort key of a name, which is bytes in UTF-8 that may be damaged
abbrev pub name_key : Collation → List ℕ → List ℕ
name_key c name = text_key c (utf8_text name)

-- the order of two names: that of their texts
abbrev pub order_of : Collation → List ℕ → List ℕ → Ordering
order_of c x y = text_order c (utf8_text x) (utf8_text y)

module _ {S : Type 0} (g : Ghosts S) where
  -- what queries show of names
  pub record ShowsNames (c : Collation) (names : List Named) (old new : Held S) : Type 0 where
    pub all : (rows : List Row) → Shown all_text [] (state g old) (state g new) rows
        → ShowInOrder (order_of c) names rows
    pub between : (from to : List ℕ) (rows : List Row)
        → Shown (range_text (Some (name_key c to))) (range_parameters (name_key c from) (Some (name_key c to))) (state g old) (state g new) rows
        → ShowInOrder (order_of c) (filter (λ n. not (is_lt (order_of c n.0 from)) && is_lt (order_of c n.0 to)) names) rows
    pub within : (lower : List ℕ) (upper : Option (List ℕ)) (passes : List ℕ → Bool)
        → ((name : List ℕ) → stands_between lower upper (name_key c name) ≡ passes name) → (rows : List Row)
        → Shown (range_text upper) (range_parameters lower upper) (state g old) (state g new) rows
        → ShowInOrder (order_of c) (filter (λ n. passes n.0) names) rows

  -- by each collation whose tables meet the conditions, after changes to an index of names under their sort keys
  abbrev pub NamesAreListed : Type 0
  NamesAreListed =
      (c : Collation) → IsWellFormedTables c.tables → (kept : List KeptName) (changes : List Change) (old mid new : Held S)
      → Keeps (state g old).now kept → HaveNameKeys (name_key c) kept → RunInTurn g (map (step_of (name_key c)) changes) old mid
      → ShowsNames c (left_after_all changes (map named kept)) mid new

  -- after an index was made anew for the collation, whatever its keys were before, and after changes to it then
  abbrev pub RebuiltNamesAreListed : Type 0
  RebuiltNamesAreListed =
      (c : Collation) → IsWellFormedTables c.tables → (fingerprint settings : List ℕ) (kept : List KeptName)
      (changes : List Change) (old anew mid new : Held S)
      → Keeps (state g old).now kept → RunInTurn g (rekeying (name_key c) fingerprint settings kept) old anew
      → RunInTurn g (map (step_of (name_key c)) changes) anew mid
      → ShowsNames c (left_after_all changes (map named kept)) mid new
