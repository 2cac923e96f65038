-- Primary weights that share a lead byte after reordering are written shorter in sort keys all, or none of them (UTS
-- #35 part 5, "Collation Reordering").
use Rattle.std.specs.Prelude.{ℕ, ◌<◌, ◌≡◌, Bool, true, false, not, ◌&&◌, ◌==◌, List, slice_index_or, Contains}
use Rattle.std.specs.List.{list_any}
use Rattle.icu_table_provider.specs.Reorderings.{Reordering, lead_byte}
use Rattle.icu_table_provider.specs.SpecialPrimaries.{SpecialPrimaries, is_compressible}
use Rattle.icu_table_provider.specs.well_formed.Leads.{reordered_lead}

-- the lead byte of the weight, before reordering, is compressible
abbrev pub compresses : SpecialPrimaries → ℕ → Bool
compresses special p = is_compressible special (lead_byte p)

-- of the weights, any two that share a lead after reordering have leads that are both compressible or both not
abbrev pub CompressAlike : List ℕ → SpecialPrimaries → Reordering → Type 0
CompressAlike ps special r =
    (v w : ℕ) → Contains ps v → Contains ps w → reordered_lead r v ≡ reordered_lead r w → compresses special v ≡ compresses special w

-- two of the weights share a lead after reordering, and one has a compressible lead, the other not
pub record CompressApart (ps : List ℕ) (special : SpecialPrimaries) (r : Reordering) : Type 0 where
  pub compressed : ℕ
  pub other : ℕ
  pub has_compressed : Contains ps compressed
  pub has_other : Contains ps other
  pub together : reordered_lead r compressed ≡ reordered_lead r other
  pub is_compressed : compresses special compressed ≡ true
  pub is_other : compresses special other ≡ false

-- the weight comes to lead l, and has a compressible lead
abbrev pub compressed_at : SpecialPrimaries → Reordering → ℕ → ℕ → Bool
compressed_at special r l p = (reordered_lead r p == l) && compresses special p

-- the weight comes to lead l, and has a lead that is not compressible
abbrev pub other_at : SpecialPrimaries → Reordering → ℕ → ℕ → Bool
other_at special r l p = (reordered_lead r p == l) && not (compresses special p)

-- the mark of lead l, false beyond the end
abbrev pub mark_of : List Bool → ℕ → Bool
mark_of marks l = slice_index_or marks l false

-- a table for the lead bytes has marks where one of the weights comes to
abbrev pub Marks : (ℕ → ℕ → Bool) → List ℕ → List Bool → Type 0
Marks comes ps marks = (l : ℕ) → l < 256 → mark_of marks l ≡ list_any (comes l) ps

-- a place has marks in both tables
pub record HaveCommonMark (one other : List Bool) : Type 0 where
  pub place : ℕ
  pub inside : place < 256
  pub in_one : mark_of one place ≡ true
  pub in_other : mark_of other place ≡ true

-- none has
abbrev pub HaveNoCommonMark : List Bool → List Bool → Type 0
HaveNoCommonMark one other = (l : ℕ) → l < 256 → (mark_of one l && mark_of other l) ≡ false
