-- The parts of a tag with today's codes in place of old ones, and with the script in which a region writes its language
-- (UTS #35 part 1, "BCP 47 Conformance", "Likely Subtags").
use Rattle.std.specs.Prelude.{ℕ, ◌==◌, List, [], length, bytes_eq, codes, if◌then◌else◌, string_bytes}
use Rattle.icu_cldr_locales.specs.declared.subtag.Subtag.{Subtag}
use Rattle.icu_cldr_locales.specs.declared.resolution.locale_data.LocaleData.{LocaleData}
use Rattle.icu_cldr_locales.specs.resolution.ListedWords.{value_or}
use Rattle.icu_cldr_locales.specs.resolution.LocaleParts.{LocaleParts, tag_parts}

-- a part, or another one where it is empty
abbrev pub filled : List ℕ → List ℕ → List ℕ
filled part other = if length part == 0 then other else part

-- the language that a language and a variant are together, as `no-bokmal`
abbrev pub with_variant : LocaleData → LocaleParts → LocaleParts
with_variant d p =
    if length p.variant == 0 then p
    else record p { language = value_or (string_bytes d.language_aliases) p.language p.variant p.language }

-- today's language in place of an old one, whose script and region fill what the tag leaves out
abbrev pub with_language : LocaleData → LocaleParts → LocaleParts
with_language d p = record p {
  language = value_or (string_bytes d.language_aliases) p.language [] p.language;
  script = filled p.script (value_or (string_bytes d.alias_scripts) p.language [] []);
  region = filled p.region (value_or (string_bytes d.alias_regions) p.language [] []);
}

-- the likely region of a language in a script, or else of the language, where it is listed
abbrev pub likely_region : LocaleData → List ℕ → List ℕ → List ℕ
likely_region d language script = value_or (string_bytes d.likely_regions) language script (value_or (string_bytes d.likely_regions) language [] [])

-- today's region in place of an old one: of several the likely one, or else the first
abbrev pub region_now : LocaleData → List ℕ → List ℕ → List ℕ
region_now d region likely = value_or (string_bytes d.region_aliases) region likely (value_or (string_bytes d.region_aliases) region [] region)

-- today's script and region in place of old ones
abbrev pub with_region : LocaleData → LocaleParts → LocaleParts
with_region d p = record p {
  script = value_or (string_bytes d.script_aliases) p.script [] p.script;
  region = region_now d p.region (likely_region d p.language p.script);
}

-- the script that is likely for a language in a region, or else for the language
abbrev pub likely_script : LocaleData → List ℕ → List ℕ → List ℕ
likely_script d language region = value_or (string_bytes d.likely_scripts) language region (value_or (string_bytes d.likely_scripts) language [] [])

-- Cantonese as Chinese, in the script in which its region writes it. CLDR's data don't have this alias; ICU's makers
-- add it.
abbrev pub with_cantonese : LocaleData → LocaleParts → LocaleParts
with_cantonese d p =
    if bytes_eq p.language (codes "yue")
    then record p { language = codes "zh"; script = filled p.script (likely_script d p.language p.region) }
    else p

-- the script that a tag leaves out: that of its region, where it isn't the language's own
abbrev pub script_left_out : LocaleData → LocaleParts → List ℕ
script_left_out d p =
    if bytes_eq (likely_script d p.language p.region) (likely_script d p.language []) then [] else likely_script d p.language p.region

-- parts with the script that they leave out
abbrev pub with_script : LocaleData → LocaleParts → LocaleParts
with_script d p = record p { script = filled p.script (script_left_out d p) }

-- the parts of a tag, by these steps in turn
unfoldable pub canonical_parts : LocaleData → List Subtag → LocaleParts
canonical_parts d subtags = with_script d (with_cantonese d (with_region d (with_language d (with_variant d (tag_parts subtags)))))
