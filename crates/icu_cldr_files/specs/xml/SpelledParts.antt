-- A text that is a sequence of parts.
use Rattle.std.specs.Prelude.{◌≡◌, ◌≢◌, ℕ, ◌<◌, List, ◌++◌, length, drop}
use Rattle.std.specs.List.{flat_map, AllByRecursion}

-- a text is a sequence of parts, each of which spells its share of a list by the relation P
pub record SpellsInParts {B : Type 0} (P : List ℕ → List B → Type 0) (text : List ℕ) (said : List B) : Type 0 where
  pub parts : List (List ℕ × List B)
  pub each : AllByRecursion (λ part. P part.0 part.1) parts
  pub text_is : text ≡ flat_map (λ part. part.0) parts
  pub said_is : said ≡ flat_map (λ part. part.1) parts

-- a mark doesn't occur in a text
abbrev pub LacksText : List ℕ → List ℕ → Type 0
LacksText mark text = (before after : List ℕ) → text ≢ before ++ (mark ++ after)

-- a text is cut where a mark begins for the first time
pub record IsCutBefore (mark text before rest : List ℕ) : Type 0 where
  pub whole : text ≡ before ++ rest
  pub at : (after : List ℕ) × (rest ≡ mark ++ after)
  pub first : LacksText mark before

-- a text is cut around a mark, where it occurs for the first time
pub record IsCutAround (mark text before after : List ℕ) : Type 0 where
  pub whole : text ≡ before ++ (mark ++ after)
  pub first : LacksText mark before

-- a text is a part of which P holds, and then the rest
abbrev pub Begins : (List ℕ → Type 0) → List ℕ → List ℕ → Type 0
Begins P text rest = (part : List ℕ) × (text ≡ part ++ rest) × P part
