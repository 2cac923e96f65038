-- Keys: numbers that stand for the first three weights of elements, in their order; and which keys have their weight of
-- a level below others.
use Rattle.std.specs.Prelude.{ℕ, ◌+◌, ◌-◌, ◌*◌, ◌/◌, ◌%◌, ◌^◌, Bool, false, not, ◌&&◌, ◌==◌, nat_lt, nat_le, if◌then◌else◌, List, [], ◌∷◌, map, filter, Option, Some, None}
use Rattle.icu_table_entries.specs.Elements.{Element}
use Rattle.icu_table_entries.specs.ElementConditions.{separator_primary}
use Rattle.icu_rule_meaning.specs.SymbolicElements.{tertiary_of}
use Rattle.icu_rule_meaning.specs.declared.symbolic.SymbolicWeight.{SymbolicWeight}
use Rattle.icu_rule_meaning.specs.TailoredRoots.{last_below, numbers_of}
use Rattle.icu_rule_root.specs.RootElements.{first_implicit_lead}
use Rattle.icu_rule_root.specs.declared.key_window.KeyLevel.{KeyLevel}
use Rattle.icu_rule_root.specs.declared.key_window.KeyLevel.TheVariants.{Primary, Secondary, Tertiary}
use Rattle.icu_rule_root.specs.declared.key_window.KeyWindow.{KeyWindow}

-- the key of an element
abbrev pub element_key : Element → ℕ
element_key x = x.primary * 2 ^ 32 + x.secondary * 2 ^ 16 + tertiary_of x

-- a key without the weights below a level
abbrev pub key_to : KeyLevel → ℕ → ℕ
key_to Primary k = k / 2 ^ 32
key_to Secondary k = k / 2 ^ 16
key_to Tertiary k = k

-- the window of the weights below a primary one
abbrev pub secondary_window : ℕ → KeyWindow
secondary_window p =
    let base : ℕ = p * 2 ^ 16 in record { level = Secondary; base = base; low = base; last = base + 0xFFFF }

-- the window of the weights below a primary and a secondary one
abbrev pub tertiary_window : ℕ → ℕ → KeyWindow
tertiary_window p s =
    let base : ℕ = p * 2 ^ 32 + s * 2 ^ 16 in
    record { level = Tertiary; base = base; low = base; last = base + 0xFFFF }

-- that window, if the secondary weight has two bytes
abbrev pub tertiary_window_below : ℕ → ℕ → Option KeyWindow
tertiary_window_below p s = if nat_lt s (2 ^ 16) then Some (tertiary_window p s) else None

-- the window of the weights below others, if there may be some
unfoldable pub window_below : List ℕ → Option KeyWindow
window_below [] = Some (record { level = Primary; base = 0; low = separator_primary; last = first_implicit_lead - 1 })
window_below (p ∷ []) = Some (secondary_window p)
window_below (p ∷ s ∷ []) = tertiary_window_below p s
window_below (p ∷ s ∷ t ∷ above) = None

-- the window below weights that rules may have tailored
unfoldable pub symbolic_window : List SymbolicWeight → Option KeyWindow
symbolic_window above = elim (numbers_of above) [ None ↦ None | Some numbers ↦ window_below numbers ]

-- the weight of a key in a window, if it lies there
abbrev pub window_weight : KeyWindow → ℕ → Option ℕ
window_weight window k =
    let v : ℕ = key_to window.level k in
    if nat_lt window.low v && nat_le v window.last then Some (v - window.base) else None

-- the number begins the list
abbrev pub begins_with_number : ℕ → List ℕ → Bool
begins_with_number w [] = false
begins_with_number w (v ∷ ws) = v == w

-- a weight before others, if there is one and it isn't the first of them already
abbrev pub with_front : Option ℕ → List ℕ → List ℕ
with_front None ws = ws
with_front (Some w) ws = if begins_with_number w ws then ws else w ∷ ws

-- the weights that ascending keys have in a window, each once
unfoldable pub weights_in_window : KeyWindow → List ℕ → List ℕ
weights_in_window window [] = []
weights_in_window window (k ∷ keys) = with_front (window_weight window k) (weights_in_window window keys)

-- the weights below others, by ascending keys
unfoldable pub weights_by_keys : List ℕ → List ℕ → List ℕ
weights_by_keys keys above = elim (window_below above) [ None ↦ [] | Some window ↦ weights_in_window window keys ]

-- the next lesser weight below weights of which none is tailored, if there is one
abbrev pub lesser_by_keys : List ℕ → List SymbolicWeight → ℕ → Option ℕ
lesser_by_keys keys above w =
    elim (symbolic_window above) [ None ↦ None | Some window ↦ last_below None (weights_in_window window keys) w ]

-- the weight of a level in a key, of two bytes
abbrev pub low_part : KeyLevel → ℕ → ℕ
low_part level k = key_to level k % 2 ^ 16

-- the weights of a level in keys, without zeros
abbrev pub low_parts : KeyLevel → List ℕ → List ℕ
low_parts level keys = filter (λ w. not (w == 0)) (map (low_part level) keys)
