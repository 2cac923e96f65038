-- Texts that are sequences of parts, part by part.
use Rattle.std.proofs.Common.{◌≡◌, ℕ, List, [], ◌∷◌, ◌++◌, refl, sym, ◌∙◌, ap}
use Rattle.std.specs.List.{flat_map, AllByRecursion}
use Rattle.std.proofs.lemmas.List.{append-nil}
use Rattle.std.proofs.lemmas.Grind.{flat_map-append}
use Rattle.icu_cldr_files.specs.xml.SpelledParts.{SpellsInParts}

-- one element more
one_more : {X : Type 0} (P : X → Type 0) (xs : List X) (x : X) → AllByRecursion P xs → P x → AllByRecursion P (xs ++ x ∷ [])
one_more P [] x all last = (last, tt)
one_more P (y ∷ xs) x all last = (all.0, one_more P xs x all.1 last)

-- a text without a part
pub no_part : {B : Type 0} (P : List ℕ → List B → Type 0) → SpellsInParts P [] []
no_part P = record { parts = []; each = tt; text_is = refl; said_is = refl }

-- one part more
pub last_part : {B : Type 0} (P : List ℕ → List B → Type 0) (text : List ℕ) (said : List B) (back : List ℕ) (more : List B)
    → SpellsInParts P text said → P back more → SpellsInParts P (text ++ back) (said ++ more)
last_part P text said back more s last = record {
  parts = s.parts ++ (back, more) ∷ [];
  each = one_more (λ part. P part.0 part.1) s.parts (back, more) s.each last;
  text_is = ap (λ t. t ++ back) s.text_is ∙ (ap (λ t. flat_map (λ part. part.0) s.parts ++ t) (sym (append-nil back)) ∙ sym (flat_map-append (λ part. part.0) s.parts ((back, more) ∷ [])));
  said_is = ap (λ t. t ++ more) s.said_is ∙ (ap (λ t. flat_map (λ part. part.1) s.parts ++ t) (sym (append-nil more)) ∙ sym (flat_map-append (λ part. part.1) s.parts ((back, more) ∷ [])));
}
