-- By tables that were checked, each element of a text is reachable by one of them, or of a number.
use Rattle.std.proofs.Common.{◌≡◌, ℕ, ◌<◌, ◌-◌, Bool, true, false, not, ◌&&◌, nat_le, nat_lt, List, [], ◌∷◌, length, map, Option, Some, None, if◌then◌else◌, slice_index, refl, sym, ap, ◌∙◌, arith, inl, inr, IsTrue}
use Rattle.std.proofs.lemmas.Bool.{and_parts}
use Rattle.std.proofs.lemmas.Bool.Decides.{nat_tests}
use Rattle.std.specs.Char.{IsScalar}
use Rattle.std.specs.List.{AllByRecursion, Contains}
use Rattle.unicode_normalization.specs.Forms.{nfd}
use Rattle.icu_order_levels.specs.Numbers.{run_weights}
use Rattle.icu_table_entries.specs.declared.error.DataTable.TheVariants.{Root, Jamo, Tailoring, Diacritics}
use Rattle.icu_table_provider.specs.Diacritics.{is_replaced_index}
use Rattle.icu_table_entries.specs.Elements.{Element, of_primary, of_secondary}
use Rattle.icu_table_provider.specs.ReachableTables.{IsReachable}
use Rattle.icu_table_data.specs.Data.{Data, homed}
use Rattle.icu_table_provider.specs.Tables.{Tables, diacritic_of}
use Rattle.icu_table_data.specs.Final.{final_elements}
use Rattle.icu_table_data.proofs.ListLemmas.{all_members, of_member, weaker}
use Rattle.icu_table_provider.specs.CollatorTables.{CollatorTables}
use Rattle.icu_table_provider.specs.well_formed.WellFormedTables.{IsWellFormedTables}
use Rattle.icu_element_reading.specs.TextElements.{Reading, elements_of}
use Rattle.icu_element_reading.specs.TextParts.{is_replaced, IsOfDiacritic, IsOfNumber, IsTextElement}
use Rattle.icu_element_reading.specs.ReachableTexts.{IsReachableElement, IsNumberElement, IsReachableOrNumber, collator_reading}
use Rattle.icu_element_reading.proofs.ReadableLemmas.{well_formed_readable, readable_digits}
use Rattle.icu_element_reading.proofs.ElementSourceLemmas.{elements_of-sources}

-- ---- entries

-- an entry that is reachable in the root, the table of jamo or the tailoring gives reachable elements
pub reachable_entry : (tables : Tables) (x : Element) (home : Data) (c e : ℕ) → IsReachable tables home c e → Contains (final_elements (homed home e) c) x → IsReachableElement tables x
reachable_entry tables x home c e (inl reachable) member =
    record { table = Root; reachable = record { home = home; char = c; entry = e; reachable = reachable; member = member } }
reachable_entry tables x home c e (inr (inl reachable)) member =
    record { table = Jamo; reachable = record { home = home; char = c; entry = e; reachable = reachable; member = member } }
reachable_entry tables x home c e (inr (inr reachable)) member =
    record { table = Tailoring; reachable = record { home = home; char = c; entry = e; reachable = reachable; member = member } }

-- ---- diacritics

found : (b : Bool) (v s : ℕ) → (if b then Some v else None) ≡ Some s → (b ≡ true) × (v ≡ s)
found true v s is = (refl, cc)
found false v s is = cc

index_inside : (c n : ℕ) → (nat_le 0x300 c && nat_lt (c - 0x300) n) ≡ true → c - 0x300 < n
index_inside c n h = let parts = and_parts (nat_le 0x300 c) (nat_lt (c - 0x300) n) h in grind (arith, nat_tests)

kept_index : (c n : ℕ) → (nat_le 0x300 c && nat_lt (c - 0x300) n) ≡ true → IsTrue (not (is_replaced c)) → is_replaced_index (c - 0x300) ≡ false
kept_index c n h kept = let parts = and_parts (nat_le 0x300 c) (nat_lt (c - 0x300) n) h in grind (arith, nat_tests)

reachable_diacritic : (tables : Tables) (x : Element) → IsOfDiacritic tables x → IsReachableElement tables x
unfolding diacritic_of
reachable_diacritic tables x diacritic =
    let c = diacritic.char in
    let is = found (nat_le 0x300 c && nat_lt (c - 0x300) (length tables.diacritics)) (slice_index tables.diacritics (c - 0x300)) diacritic.secondary diacritic.in_table in
    record {
      table = Diacritics;
      reachable = record {
        place = c - 0x300;
        inside = index_inside c _ is.0;
        kept = kept_index c _ is.0 diacritic.decomposed.kept;
        is = diacritic.element ∙ ap of_secondary (sym is.1);
      };
    }

-- ---- numbers

mapped : {X Y : Type 0} (P : X → Type 0) (f : X → Y) (xs : List X) → AllByRecursion P xs → AllByRecursion (λ y. (x : X) × P x × (y ≡ f x)) (map f xs)
mapped P f [] all = tt
mapped P f (x ∷ xs) all = ((x, all.0, refl), mapped P f xs all.1)

number_element : (numeric : Option ℕ) (x : Element) → IsOfNumber numeric x → IsNumberElement numeric x
number_element numeric x number =
    let weights = run_weights number.lead number.digits in
    let from = of_member (λ x. (w : ℕ) × Contains weights w × (x ≡ of_primary w)) (map of_primary weights) x (mapped (Contains weights) of_primary weights (all_members weights)) number.member in
    record {
      lead = number.lead;
      digits = number.digits;
      weight = from.0;
      is_numeric = number.is_numeric;
      decimal = number.decimal;
      member = from.1;
      element = from.2;
    }

-- ---- all of them

reachable_or_number : (reading : Reading) (x : Element) → IsTextElement reading x → IsReachableOrNumber reading x
reachable_or_number reading x (inl entry) = inl (reachable_entry reading.tables x entry.home entry.char entry.entry entry.reachable entry.member)
reachable_or_number reading x (inr (inl diacritic)) = inl (reachable_diacritic reading.tables x diacritic)
reachable_or_number reading x (inr (inr number)) = inr (number_element reading.numeric x number)

pub well_formed_tables_reachable : (all : CollatorTables) (numeric : Option ℕ) (lithuanian : Bool) → IsWellFormedTables all → (cs : List ℕ) → AllByRecursion IsScalar cs → AllByRecursion (IsReachableOrNumber (collator_reading all numeric lithuanian)) (elements_of (collator_reading all numeric lithuanian) (nfd cs))
well_formed_tables_reachable all numeric lithuanian well_formed cs scalars =
    let reading = collator_reading all numeric lithuanian in
    weaker (IsTextElement reading) (IsReachableOrNumber reading) (reachable_or_number reading) (elements_of reading (nfd cs))
    (elements_of-sources reading (readable_digits all.tables (well_formed_readable all well_formed)) cs scalars)
