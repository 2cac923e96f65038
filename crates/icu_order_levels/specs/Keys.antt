-- A whole key: the primary level, and the others one after another (UTS #10, "Form Sort Keys"; UTS #35 part 5, "Setting
-- Options").
use Rattle.std.specs.Prelude.{Bool, true, false, ◌≡◌, ℕ, List, [], ◌∷◌, ◌++◌, map, Option, Some, None}
use Rattle.std.specs.Ordering.{ordering_then}
use Rattle.std.specs.declared.cmp.Ordering.{Ordering}
use Rattle.std.specs.declared.cmp.Ordering.TheVariants.{Equal}
use Rattle.icu_order_levels.specs.ListOrder.{list_order, segments_order, IsUnder}
use Rattle.icu_order_levels.specs.Primaries.{Compression, primary_level}
use Rattle.icu_order_levels.specs.Secondaries.{secondary_level, backward_level}
use Rattle.icu_order_levels.specs.Tertiaries.{tertiary_level}
use Rattle.icu_order_levels.specs.Cases.{case_level}
use Rattle.icu_order_levels.specs.Quaternaries.{quaternary_level}
use Rattle.icu_order_levels.specs.Identical.{identical_level, identical_rank}
use Rattle.icu_order_levels.specs.declared.forms.SecondaryForm.{SecondaryForm}
use Rattle.icu_order_levels.specs.declared.forms.SecondaryForm.TheVariants.{Forward, Backward}
use Rattle.icu_order_levels.specs.declared.forms.CaseForm.{CaseForm}
use Rattle.icu_order_levels.specs.declared.forms.TertiaryForm.{TertiaryForm}
use Rattle.icu_order_levels.specs.declared.forms.QuaternaryForm.{QuaternaryForm}
use Rattle.icu_order_levels.specs.declared.forms.KeyForm.{KeyForm}

-- ---- levels one after another

-- a level after the primary one: absent, opened by 01, or opened and closed by 01
pub data LevelPart : Type 0 where
  absent : LevelPart
  opened : List ℕ → LevelPart
  closed : List ℕ → LevelPart

-- the bytes of a level, with those that open and close it
abbrev pub part_bytes : LevelPart → List ℕ
part_bytes absent = []
part_bytes (opened bs) = 1 ∷ bs
part_bytes (closed bs) = 1 ∷ (bs ++ 1 ∷ [])

-- the bytes of levels one after another
abbrev pub parts_bytes : List LevelPart → List ℕ
parts_bytes [] = []
parts_bytes (p ∷ ps) = part_bytes p ++ parts_bytes ps

-- the first order that isn't Equal
abbrev pub in_turn : List Ordering → Ordering
in_turn [] = Equal
in_turn (o ∷ os) = ordering_then o (in_turn os)

-- The bytes ps and qs determine the order o, whatever follows, as long as what follows is nothing or begins below 02:
-- the order of both is o, and then that of what follows
abbrev pub Determines : List ℕ → List ℕ → Ordering → Type 0
Determines ps qs o = (s t : List ℕ) → IsUnder 2 s → IsUnder 2 t → list_order (ps ++ s) (qs ++ t) ≡ ordering_then o (list_order s t)

-- one level of two keys, and the order that it is to determine
pub record TwoParts : Type 0 where
  pub left : LevelPart
  pub right : LevelPart
  pub order : Ordering

-- a level that is absent on both sides determines Equal, and one that is there on both sides what its bytes determine
abbrev pub PartDetermines : LevelPart → LevelPart → Ordering → Type 0
PartDetermines absent absent o = o ≡ Equal
PartDetermines absent (opened qs) o = ⊥
PartDetermines absent (closed qs) o = ⊥
PartDetermines (opened ps) absent o = ⊥
PartDetermines (opened ps) (opened qs) o = Determines ps qs o
PartDetermines (opened ps) (closed qs) o = ⊥
PartDetermines (closed ps) absent o = ⊥
PartDetermines (closed ps) (opened qs) o = ⊥
PartDetermines (closed ps) (closed qs) o = Determines ps qs o

-- each level determines its order where all earlier levels tie
abbrev pub DetermineInTurn : List TwoParts → Type 0
DetermineInTurn [] = Unit {0}
DetermineInTurn (p ∷ ps) = PartDetermines p.left p.right p.order × (p.order ≡ Equal → DetermineInTurn ps)

-- ---- the six levels

-- The lists of a text: primaries before reordering, secondaries forward and in reversed segments, ranks of case,
-- tertiaries as the form has them, quaternaries, decomposed characters. What the form does not name may be anything
pub record LevelLists : Type 0 where
  pub primaries : List ℕ
  pub secondaries : List ℕ
  pub segments : List (List ℕ)
  pub cases : List ℕ
  pub tertiaries : List ℕ
  pub quaternaries : List ℕ
  pub characters : List ℕ

-- the secondary level of a key, from the lists of its text
abbrev pub secondary_part : Option SecondaryForm → LevelLists → LevelPart
secondary_part None t = absent
secondary_part (Some Forward) t = closed (secondary_level t.secondaries)
secondary_part (Some Backward) t = closed (backward_level t.segments)

-- the case level of a key
abbrev pub case_part : Option CaseForm → LevelLists → LevelPart
case_part None t = absent
case_part (Some form) t = opened (case_level form t.cases)

-- the tertiary level of a key
abbrev pub tertiary_part : Option TertiaryForm → LevelLists → LevelPart
tertiary_part None t = absent
tertiary_part (Some form) t = closed (tertiary_level form t.tertiaries)

-- the quaternary level of a key
abbrev pub quaternary_part : Option QuaternaryForm → LevelLists → LevelPart
quaternary_part None t = absent
quaternary_part (Some form) t = closed (quaternary_level form t.quaternaries)

-- the identical level of a key
abbrev pub identical_part : Bool → LevelLists → LevelPart
identical_part false t = absent
identical_part true t = opened (identical_level t.characters)

-- the levels of a key after the primary one, in their order
abbrev pub later_parts : KeyForm → LevelLists → List LevelPart
later_parts f t =
    secondary_part f.secondary t ∷ case_part f.cases t ∷ tertiary_part f.tertiary t ∷ quaternary_part f.quaternary t
    ∷ identical_part f.identical t ∷ []

-- the key of a text
abbrev pub key_bytes : Compression → KeyForm → LevelLists → List ℕ
key_bytes c f t = primary_level c 0 t.primaries ++ parts_bytes (later_parts f t)

-- ---- the order that keys are to keep: the lists in turn

-- the order of two texts by their primaries, reordered
abbrev pub primaries_order : Compression → LevelLists → LevelLists → Ordering
primaries_order c t u = list_order (map c.reorder t.primaries) (map c.reorder u.primaries)

-- the order of two texts by their secondaries, from the front or segment by segment, where they count
abbrev pub secondaries_order : Option SecondaryForm → LevelLists → LevelLists → Ordering
secondaries_order None t u = Equal
secondaries_order (Some Forward) t u = list_order t.secondaries u.secondaries
secondaries_order (Some Backward) t u = segments_order t.segments u.segments

-- the order of two texts by their cases, where they count
abbrev pub cases_order : Option CaseForm → LevelLists → LevelLists → Ordering
cases_order None t u = Equal
cases_order (Some form) t u = list_order t.cases u.cases

-- the order of two texts by their tertiaries, where they count
abbrev pub tertiaries_order : Option TertiaryForm → LevelLists → LevelLists → Ordering
tertiaries_order None t u = Equal
tertiaries_order (Some form) t u = list_order t.tertiaries u.tertiaries

-- the order of two texts by their quaternaries, where they count
abbrev pub quaternaries_order : Option QuaternaryForm → LevelLists → LevelLists → Ordering
quaternaries_order None t u = Equal
quaternaries_order (Some form) t u = list_order t.quaternaries u.quaternaries

-- the order of two texts by their characters, U+FFFE lowest, where they count
abbrev pub characters_order : Bool → LevelLists → LevelLists → Ordering
characters_order false t u = Equal
characters_order true t u = list_order (map identical_rank t.characters) (map identical_rank u.characters)

-- the order of two texts: the first level that differs decides
abbrev pub levels_order : Compression → KeyForm → LevelLists → LevelLists → Ordering
levels_order c f t u =
    in_turn (primaries_order c t u ∷ secondaries_order f.secondary t u ∷ cases_order f.cases t u
    ∷ tertiaries_order f.tertiary t u ∷ quaternaries_order f.quaternary t u ∷ characters_order f.identical t u ∷ [])
