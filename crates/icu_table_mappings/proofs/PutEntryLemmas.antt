-- Entries that are put between characters.
use Rattle.std.proofs.Common.{◌≡◌, ℕ, Bool, true, false, List, [], Option, Some, None, refl, sym, ap, ◌∙◌, if◌then◌else◌}
use Rattle.std.specs.Prelude.{◌&&◌, bytes_eq, unwrap_or, option_and_then}
use Rattle.std.specs.BTreeMap.{get_by, insert_entry}
use Rattle.std.specs.Cmp.Lexicographic.{slice_cmp}
use Rattle.std.specs.Global.{Vec}
use Rattle.std.specs.Map.{remove_entry}
use Rattle.std.specs.Ordering.{is_eq, nat_cmp}
use Rattle.icu_table_mappings.specs.Surroundings.{Suffixes, Surroundings, entry_at, entry_between, value_among, PutsEntryBetween}
use Rattle.icu_table_mappings.proofs.AddedContextLemmas.{between_from_get}
use Rattle.icu_table_mappings.proofs.SurroundingLemmas.{inserted_among, key_order, removed_among, same_from_true}

-- entries that stand behind characters, or none
pub entries_or_none : (o : Option Suffixes) (none : Suffixes) (after : List ℕ) → entry_at none after ≡ None
    → entry_at (unwrap_or o none) after ≡ option_and_then (λ s. entry_at s after) o
entries_or_none None none after h = h
entries_or_none (Some s) none after h = refl

-- nothing stands in an empty map
pub nothing_at : (none : Suffixes) (after : List ℕ) → none.entries ≡ [] → entry_at none after ≡ None
unfolding value_among
nothing_at none after h = ap (λ es. value_among es after) h

pub nothing_between : (none : Surroundings) (before after : List ℕ) → none.entries ≡ [] → entry_between none before after ≡ None
unfolding value_among
nothing_between none before after h = ap (λ es. option_and_then (λ s. entry_at s after) (value_among es before)) h

module _ (old new : Surroundings) (removed : List (Vec ℕ × Suffixes)) (before after : Vec ℕ) (found : Option Suffixes) (none suffixes added : Suffixes) (entry : ℕ)
    (gone : removed ≡ remove_entry (λ k. is_eq (slice_cmp nat_cmp before.items k.items)) old.entries)
    (was : found ≡ get_by (λ k. slice_cmp nat_cmp before.items k.items) old)
    (empty : none.entries ≡ []) (is : suffixes ≡ unwrap_or found none)
    (adds : added.entries ≡ insert_entry key_order suffixes.entries after entry)
    (puts : new.entries ≡ insert_entry key_order removed before added) where
  -- the entries behind the characters, as they were
  pub before_put : (a : List ℕ) → entry_at suffixes a ≡ entry_between old before.items a
  before_put a =
      ap (λ (s : Suffixes). entry_at s a) is
      ∙ entries_or_none found none a (nothing_at none a empty)
      ∙ sym (between_from_get old before.items found was a)

  put_here : (b a : List ℕ) (t : Bool) → bytes_eq before.items b ≡ t
      → option_and_then (λ s. entry_at s a) (if t then Some added else value_among removed b)
      ≡ (if t && bytes_eq after.items a then Some entry else entry_between old b a)
  put_here b a true here =
      ap (λ es. value_among es a) adds
      ∙ inserted_among a suffixes.entries after entry
      ∙ ap (λ o. if bytes_eq after.items a then Some entry else o) (before_put a ∙ ap (λ k. entry_between old k a) (same_from_true before.items b here))
  put_here b a false other =
      ap (λ es. option_and_then (λ s. entry_at s a) (value_among es b)) gone
      ∙ ap (option_and_then (λ s. entry_at s a)) (removed_among before.items b old.entries other)

  -- an entry is put between characters, and nothing else changes
  pub put_between : PutsEntryBetween old new before.items after.items entry
  put_between b a =
      ap (λ es. option_and_then (λ s. entry_at s a) (value_among es b)) puts
      ∙ ap (option_and_then (λ s. entry_at s a)) (inserted_among b removed before added)
      ∙ put_here b a (bytes_eq before.items b) refl
