-- Where a text may be parted: between the steps of its reading, before a character that leads (UTS #10, "Searching and
-- Matching").
use Rattle.std.specs.Prelude.{ℕ, Bool, true, false, not, ◌&&◌, ◌||◌, ◌==◌, List, [], ◌∷◌, length, drop, bytes_eq}
use Rattle.std.specs.List.{list_any}
use Rattle.ucd_normal.specs.declared.forms.Form.TheVariants.{Nfd, Nfc}
use Rattle.ucd_normal.specs.declared.forms.QuickCheck.{QuickCheck}
use Rattle.ucd_normal.specs.declared.forms.QuickCheck.TheVariants.{Maybe}
use Rattle.ucd_normal.specs.QuickCheck.{quick_check}
use Rattle.unicode_normalization.specs.Decompose.{decompose}
use Rattle.unicode_normalization.specs.Forms.{nfd}
use Rattle.unicode_normalization.specs.Order.{is_starter}
use Rattle.icu_element_reading.specs.TextElements.{Reading, step, consumed, last_two}

-- ---- characters that lead

-- it may compose with what stands before it (UAX #15, "Normalization Forms")
abbrev pub may_compose : QuickCheck → Bool
may_compose Maybe = true
may_compose _ = false

-- A character that may stand behind the first one of a canonical decomposition. U+0FB5 and U+0FB7 do, and don't
-- compose.
abbrev pub is_follower : ℕ → Bool
is_follower c = may_compose (quick_check Nfc c) || c == 0xFB5 || c == 0xFB7

-- a starter that begins a letter: it doesn't belong to the one before it
abbrev pub leads : ℕ → Bool
leads c = is_starter c && not (is_follower c)

-- the first of these characters leads
abbrev pub first_leads : List ℕ → Bool
first_leads [] = false
first_leads (c ∷ cs) = leads c

-- ---- what the reading comes to

-- What is left of a decomposed text, after a context, before its first step and after each step. The first list is one
-- at least as long as the text, to go by.
unfoldable pub rests_along : List ℕ → Reading → List ℕ → List ℕ → List (List ℕ)
rests_along along reading before [] = [] ∷ []
rests_along [] reading before (c ∷ text) = (c ∷ text) ∷ []
rests_along (_ ∷ along) reading before (c ∷ text) =
    let s = step reading before c text in
    (c ∷ text) ∷ rests_along along reading (last_two before (consumed c s)) s.rest

-- after some step of reading the decomposed text just these characters are left
abbrev pub reaches : Reading → List ℕ → List ℕ → Bool
reaches reading text left = list_any (bytes_eq left) (rests_along text reading [] text)

-- ---- places

-- a place before the end of a text that is left: its first character decomposes to one that leads, and the reading of
-- the whole text reaches it
abbrev pub is_place_before : Reading → List ℕ → List ℕ → Bool
is_place_before reading text [] = false
is_place_before reading text (c ∷ cs) = first_leads (decompose Nfd c) && reaches reading (nfd text) (nfd (c ∷ cs))

-- a place of a text, by how many characters stand before it: where it begins, where it ends, or one between
abbrev pub is_place : Reading → List ℕ → ℕ → Bool
is_place reading text k = k == 0 || k == length text || is_place_before reading text (drop k text)
