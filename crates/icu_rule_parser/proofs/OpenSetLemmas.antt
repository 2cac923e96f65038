-- Parts of sets, and what they lead to.
use Rattle.std.proofs.Common.{ℕ, Bool, true, false, not, ◌||◌, ◌&&◌, ◌≡◌, List, [], ◌∷◌, ◌++◌, map, reverse, ap, ◌∙◌, sym, refl, Vec}
use Rattle.std.specs.Char.{IsScalar}
use Rattle.std.proofs.lemmas.List.{map-append, reverse-append}
use Rattle.std.specs.declared.alloc.Global.{Global}
use Rattle.icu_rule_parser.specs.declared.statement.CharacterRange.{CharacterRange}
use Rattle.icu_rule_parser.specs.declared.set_parts.SetSign.TheVariants.{Opens, Closes}
use Rattle.icu_rule_parser.specs.declared.set_parts.CharacterProperty.{CharacterProperty}
use Rattle.icu_rule_parser.specs.declared.set_parts.SetPart.{SetPart}
use Rattle.icu_rule_parser.specs.declared.set_parts.SetPart.TheVariants as parts
use Rattle.icu_rule_parser.specs.declared.open_sets.OpenSet.{OpenSet}
use Rattle.icu_rule_parser.specs.declared.open_sets.TakenPart.TheVariants as taken
use Rattle.icu_rule_parser.specs.CharacterSets.{have_character, is_in_property, SetReading, begun, with_set, lacks_set, closed_has, goes_on, is_over, set_step}
use Rattle.icu_rule_parser.specs.TakenText.{open_reading, readings_of, LeadsTo}

pub without_is : (a b l m r : Bool) → l ≡ not a → m ≡ (l || b) → r ≡ not m → r ≡ (a && not b)
without_is true true l m r e f g = rw (g, f, e) refl
without_is true false l m r e f g = rw (g, f, e) refl
without_is false b l m r e f g = rw (g, f, e) refl

pub common_is : (a b l r : Bool) → l ≡ not b → r ≡ (a && not l) → r ≡ (a && b)
common_is a true l r e f = rw (f, e) refl
common_is a false l r e f = rw (f, e) refl

-- the innermost set is read first
pub pushed : (c : ℕ) (sets : List OpenSet) (now : OpenSet) → readings_of c (sets ++ now ∷ []) ≡ open_reading c now ∷ readings_of c sets
pushed c sets now =
    ap reverse (map-append (open_reading c) sets (now ∷ [])) ∙ reverse-append (map (open_reading c) sets) (open_reading c now ∷ [])

pub leads_on : (part : SetPart) (front old new : List OpenSet) (now next : OpenSet) → old ≡ front ++ now ∷ [] → new ≡ front ++ next ∷ [] → ((c : ℕ) (outer : List SetReading) → IsScalar c → set_step c (open_reading c now ∷ outer) part ≡ goes_on (open_reading c next ∷ outer)) → LeadsTo part old new taken.GoesOn
leads_on part front old new now next e f step c k =
    ap (λ t. set_step c (readings_of c t) part) e ∙ ap (λ t. set_step c t part) (pushed c front now) ∙ step c (readings_of c front) k
    ∙ ap goes_on (sym (ap (readings_of c) f ∙ pushed c front next))

pub leads_in : (front new : List OpenSet) (now next : OpenSet) → new ≡ (front ++ now ∷ []) ++ next ∷ [] → ((c : ℕ) → open_reading c next ≡ begun) → LeadsTo (parts.Sign Opens) (front ++ now ∷ []) new taken.GoesOn
leads_in front new now next f is c k =
    ap (λ t. set_step c t (parts.Sign Opens)) (pushed c front now)
    ∙ ap goes_on (ap (λ r. r ∷ open_reading c now ∷ readings_of c front) (sym (is c))
    ∙ ap (λ t. open_reading c next ∷ t) (sym (pushed c front now)) ∙ sym (ap (readings_of c) f ∙ pushed c (front ++ now ∷ []) next))

pub leads_first : (old new : List OpenSet) (next : OpenSet) → old ≡ [] → new ≡ old ++ next ∷ [] → ((c : ℕ) → open_reading c next ≡ begun) → LeadsTo (parts.Sign Opens) old new taken.GoesOn
leads_first old new next e f is c k =
    ap (λ t. set_step c (readings_of c t) (parts.Sign Opens)) e
    ∙ ap goes_on (ap (λ r. r ∷ []) (sym (is c)) ∙ sym (ap (readings_of c) (f ∙ ap (λ t. t ++ next ∷ []) e)))

pub leads_whole : (old new : List OpenSet) (property : CharacterProperty) (ranges : Vec CharacterRange Global) → old ≡ [] → ((c : ℕ) → IsScalar c → have_character ranges.items c ≡ is_in_property property c) → LeadsTo (parts.Property property) old new (taken.Ends ranges)
leads_whole old new property ranges e has c k =
    ap (λ t. set_step c (readings_of c t) (parts.Property property)) e ∙ ap is_over (sym (has c k))

closes_last : (c : ℕ) (now : SetReading) (b : Bool) → lacks_set now.place ≡ false → closed_has now ≡ b → set_step c (now ∷ []) (parts.Sign Closes) ≡ is_over b
closes_last c now b h e = rw h (ap is_over e)

closes_inner : (c : ℕ) (now o : SetReading) (outer : List SetReading) (b : Bool) → lacks_set now.place ≡ false → closed_has now ≡ b → set_step c (now ∷ o ∷ outer) (parts.Sign Closes) ≡ goes_on (with_set o b ∷ outer)
closes_inner c now o outer b h e = rw h (ap (λ t. goes_on (with_set o t ∷ outer)) e)

pub leads_out : (front new : List OpenSet) (now : OpenSet) (ranges : Vec CharacterRange Global) → front ≡ [] → lacks_set now.place ≡ false → ((c : ℕ) → IsScalar c → have_character ranges.items c ≡ closed_has (open_reading c now)) → LeadsTo (parts.Sign Closes) (front ++ now ∷ []) new (taken.Ends ranges)
leads_out front new now ranges e h has c k =
    ap (λ t. set_step c t (parts.Sign Closes)) (pushed c front now ∙ ap (λ t. open_reading c now ∷ readings_of c t) e)
    ∙ closes_last c (open_reading c now) (have_character ranges.items c) h (sym (has c k))

pub leads_back : (front rest new : List OpenSet) (now outer next : OpenSet) (ranges : Vec CharacterRange Global) → front ≡ rest ++ outer ∷ [] → new ≡ rest ++ next ∷ [] → lacks_set now.place ≡ false → ((c : ℕ) → IsScalar c → have_character ranges.items c ≡ closed_has (open_reading c now)) → ((c : ℕ) → IsScalar c → open_reading c next ≡ with_set (open_reading c outer) (have_character ranges.items c)) → LeadsTo (parts.Sign Closes) (front ++ now ∷ []) new taken.GoesOn
leads_back front rest new now outer next ranges e f h has is c k =
    ap (λ t. set_step c t (parts.Sign Closes)) (pushed c front now ∙ ap (λ t. open_reading c now ∷ t) (ap (readings_of c) e ∙ pushed c rest outer))
    ∙ closes_inner c (open_reading c now) (open_reading c outer) (readings_of c rest) (have_character ranges.items c) h (sym (has c k))
    ∙ ap goes_on (ap (λ r. r ∷ readings_of c rest) (sym (is c k)) ∙ sym (ap (readings_of c) f ∙ pushed c rest next))
