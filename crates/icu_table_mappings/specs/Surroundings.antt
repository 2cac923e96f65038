-- The entries of a character by what stands around it (UTS #35 part 5, "Context-Sensitive Mappings").
use Rattle.std.specs.Prelude.{◌≡◌, ℕ, zero, suc, List, [], ◌∷◌, Bool, true, false, ◌||◌, ◌&&◌, Option, Some, None, ◌⊎◌, is_some, option_and_then, if◌then◌else◌, take, length, nat_eq, bytes_eq}
use Rattle.std.specs.BTreeMap.{BTreeMap}
use Rattle.std.specs.List.{starts_with}
use Rattle.std.specs.Option.{option_or}
use Rattle.std.specs.Global.{Vec}

-- entries by lists of characters
abbrev pub Suffixes : Type 0
Suffixes = BTreeMap (Vec ℕ) ℕ

-- entries by the characters before, the nearest first, and those after
abbrev pub Surroundings : Type 0
Surroundings = BTreeMap (Vec ℕ) Suffixes

-- the value at the first key that has these characters
unfoldable pub value_among : {X : Type 0} → List (Vec ℕ × X) → List ℕ → Option X
value_among [] chars = None
value_among (e ∷ es) chars = if bytes_eq e.0.items chars then Some e.1 else value_among es chars

-- the entry at these characters
abbrev pub entry_at : Suffixes → List ℕ → Option ℕ
entry_at suffixes chars = value_among suffixes.entries chars

-- the entry behind just these characters and before just those
abbrev pub entry_between : Surroundings → List ℕ → List ℕ → Option ℕ
entry_between all before after = option_and_then (λ suffixes. entry_at suffixes after) (value_among all.entries before)

-- the entry behind these characters and before those is this one, and no other changes
abbrev pub PutsEntryBetween : Surroundings → Surroundings → List ℕ → List ℕ → ℕ → Type 0
PutsEntryBetween old new before after e = (b a : List ℕ) → entry_between new b a
    ≡ (if bytes_eq before b && bytes_eq after a then Some e else entry_between old b a)

-- the entry that the character has by itself, before nothing
abbrev pub own_entry : ℕ → List ℕ → Option ℕ
own_entry own [] = Some own
own_entry own (c ∷ cs) = None

-- one of these entries is before characters with which others begin
unfoldable pub begins_after : List (Vec ℕ × ℕ) → List ℕ → Bool
begins_after [] after = false
begins_after (e ∷ es) after = starts_with nat_eq after e.0.items || begins_after es after

-- the entry before these characters where a longer prefix has entries: one of these, unless none of them begins the
-- characters, and then that of the shorter prefix
abbrev pub behind_longer : Option Suffixes → List ℕ → Option ℕ → Option ℕ
behind_longer None after shorter = shorter
behind_longer (Some longer) after shorter = if begins_after longer.entries after then entry_at longer after else shorter

-- The entry before these characters by the longest prefix that has mappings, of no more characters than n. Where none
-- of these mappings is of the character alone, those of the next shorter prefix count too, but for what one of them
-- begins (UTS #35 part 5, "Context-Sensitive Mappings").
unfoldable pub nearest_of : Surroundings → ℕ → ℕ → List ℕ → List ℕ → Option ℕ
nearest_of all own zero before after = option_or (entry_between all [] after) (own_entry own after)
nearest_of all own (suc n) before after =
    behind_longer (value_among all.entries (take (suc n) before)) after (nearest_of all own n before after)

-- the entry behind these characters, the nearest first, and before those
abbrev pub nearest : Surroundings → ℕ → List ℕ → List ℕ → Option ℕ
nearest all own before after = nearest_of all own (length before) before after

-- behind these characters there is an entry of the character, if only its own: they are none, or those before a mapping
abbrev pub IsBehind : Surroundings → List ℕ → Type 0
IsBehind all before = (before ≡ []) ⊎ (is_some (value_among all.entries before) ≡ true)
