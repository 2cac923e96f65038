-- What a program answers.
use Rattle.std.specs.Prelude.{◌≡◌, ℕ, List, [], ◌∷◌, ◌++◌, codes, chars}
use Rattle.std.specs.declared.cmp.Ordering.{Ordering}
use Rattle.std.specs.declared.cmp.Ordering.TheVariants.{Less, Equal, Greater}
use Rattle.icu_options.specs.declared.settings.Strength.{Strength}
use Rattle.icu_order_texts.specs.Collations.{Collation}
use Rattle.icu_order_texts.specs.TextOrder.{text_order, text_key}
use Rattle.icu_collator.specs.NameOrders.{name_order, IsStablySorted}
use Rattle.collate_commands.specs.Commands.{Asked, for_order, for_key, for_sorting, strength_of}
use Rattle.collate_commands.specs.KeyText.{key_text}
use Rattle.line_sorts.specs.InputLines.{lines_of, lines_text}

-- the sign of an order
abbrev pub sign_of : Ordering → List ℕ
sign_of Less = codes "<"
sign_of Equal = codes "="
sign_of Greater = codes ">"

-- The output has the lines of the input, in the order of the texts that they decode to, equal ones as they stood.
pub record SortsLines (order : List ℕ → List ℕ → Ordering) (input output : List ℕ) : Type 0 where
  pub lines : List (List ℕ)
  pub sorted : IsStablySorted order (lines_of input) lines
  pub written : output ≡ lines_text lines

-- The output answers the command by this collation, where these bytes stand in the input: a line with the
-- sign of the order or with the bytes of the key, or the lines of the input in order.
abbrev pub IsAnswerBy : Collation → Asked → List ℕ → List ℕ → Type 0
IsAnswerBy collation (for_order c) input output = output ≡ sign_of (text_order collation (chars c.left) (chars c.right)) ++ 10 ∷ []
IsAnswerBy collation (for_key k) input output = output ≡ key_text (text_key collation (chars k.text)) ++ 10 ∷ []
IsAnswerBy collation (for_sorting strength) input output = SortsLines (name_order collation) input output

-- by which collations texts are compared at a strength
abbrev pub Compares : Type 1
Compares = Strength → Collation → Type 0

-- The output answers the command by such a collation, at its strength.
abbrev pub IsAnswer : Compares → Asked → List ℕ → List ℕ → Type 0
IsAnswer compares asked input output =
    (c : Collation) × compares (strength_of asked) c × IsAnswerBy c asked input output
