-- What the texts of the statements mean under the schema of an index, found by running the meaning of SQL on them.
use Rattle.std.proofs.Common.{◌≡◌, List, ℕ, [], ◌∷◌, codes, None, refl, false, pos, negsuc}
use Rattle.sqlite.specs.Listing.{understood, reads_listing}
use Rattle.sqlite.proofs.Callers.{IsPlain, command_of}
use Rattle.sqlite_tied.specs.Compute.{everything}
use Rattle.sqlite_schema.specs.declared.command.Command.{Command}
use Rattle.sqlite_schema.specs.declared.command.Command.TheVariants.{Insert, Select, Delete, Update}
use Rattle.sqlite_schema.specs.declared.command.Source.TheVariants.{Values}
use Rattle.sqlite_sql.specs.Query.{Query, inner, end}
use Rattle.sqlite_sql.specs.Term.{Term, lit, col, op2}
use Rattle.sqlite_sql.specs.declared.ops.BinaryOp.TheVariants.{Compare}
use Rattle.sqlite_sql.specs.declared.ops.CompareOp.TheVariants.{Eq, Ge, Gt, Lt}
use Rattle.sqlite_value.specs.declared.keys.Collation.TheVariants.{Binary}
use Rattle.sqlite_value.specs.declared.keys.Key.{Key}
use Rattle.sqlite_value.specs.declared.value.Value.TheVariants.{Int, Null}
use Rattle.sqlite_value.specs.Keys.{ascending}
use Rattle.icu_index_store.specs.stored_names.StatementTexts.{after_text, fingerprint_text, insert_text, keep_fingerprint_text, rekey_text, remove_named_text, replace_fingerprint_text, all_text, between_text, behind_text}
use Rattle.icu_index_store.specs.stored_rows.StoredSchemas.{names_schema}

-- the query of a statement over the table of names
abbrev pub query_of : List Term → List Term → List (Term × Key) → Query
query_of filter project order = record {
  from = inner 0 end;
  filter = filter;
  group = None;
  project = project;
  distinct = false;
  collations = [];
  order = order;
  limit = lit (Int (negsuc 0));
  offset = lit (Int (pos 0));
}

-- a row's key against a parameter
abbrev pub key_is_at_least : Term
key_is_at_least = op2 (Compare Ge Binary) (col 1 2) (col 0 0)

abbrev pub key_is_below : Term
key_is_below = op2 (Compare Lt Binary) (col 1 2) (col 0 1)

abbrev pub key_is : Term
key_is = op2 (Compare Eq Binary) (col 1 2) (col 0 0)

abbrev pub name_is : Term
name_is = op2 (Compare Eq Binary) (col 1 3) (col 0 1)

-- the query that names are listed by, where their rows pass some tests
abbrev pub listing_query : List Term → Query
listing_query filter =
    query_of filter (col 1 0 ∷ col 1 3 ∷ col 1 4 ∷ []) ((col 1 2, ascending Binary) ∷ (col 1 0, ascending Binary) ∷ [])

abbrev pub listing_command : List Term → Command
listing_command filter =
    Select (record { lets = []; body = listing_query filter }) (codes "id" ∷ codes "name" ∷ codes "payload" ∷ [])

abbrev pub row_terms : List Term
row_terms = lit Null ∷ lit Null ∷ col 0 0 ∷ col 0 1 ∷ col 0 2 ∷ []

abbrev pub insert_command : Command
insert_command = Insert 0 (Values row_terms 5)

abbrev pub removal_query : Query
removal_query = query_of (key_is ∷ name_is ∷ []) (col 1 0 ∷ []) []

abbrev pub removal_command : Command
removal_command = Delete 0 (record { lets = []; body = removal_query })

pub insert_is : (command_of (understood names_schema insert_text) ≡ insert_command) × IsPlain (understood names_schema insert_text)
unfolding understood everything
insert_is = (refl, (refl, refl))

pub removal_is : (command_of (understood names_schema remove_named_text) ≡ removal_command) × IsPlain (understood names_schema remove_named_text)
unfolding understood everything
removal_is = (refl, (refl, refl))

-- what is asked of the meaning of a query
abbrev pub Lists : List ℕ → List Term → Type 0
Lists text filter =
    (command_of (understood names_schema text) ≡ listing_command filter) × IsPlain (understood names_schema text) × (reads_listing names_schema text ≡ false)

pub all_is : Lists all_text []
unfolding understood everything
all_is = (refl, (refl, refl), refl)

pub between_is : Lists between_text (key_is_at_least ∷ key_is_below ∷ [])
unfolding understood everything
between_is = (refl, (refl, refl), refl)

pub behind_is : Lists behind_text (key_is_at_least ∷ [])
unfolding understood everything
behind_is = (refl, (refl, refl), refl)

-- ---- another key, and the fingerprint

abbrev pub number_is : Term
number_is = op2 (Compare Eq Binary) (col 1 0) (col 0 0)

-- the number that the row has, and then the row that comes in its place
abbrev pub rekey_query : Query
rekey_query = query_of (number_is ∷ []) (col 1 0 ∷ col 1 0 ∷ lit Null ∷ col 0 1 ∷ col 1 3 ∷ col 1 4 ∷ []) []

abbrev pub rekey_command : Command
rekey_command = Update 0 (record { lets = []; body = rekey_query })

pub rekey_is : (command_of (understood names_schema rekey_text) ≡ rekey_command) × IsPlain (understood names_schema rekey_text)
unfolding understood everything
rekey_is = (refl, (refl, refl))

abbrev print_test : Term
print_test = op2 (Compare Eq Binary) (col 1 0) (lit (Int (pos 1)))

abbrev pub other_print_query : Query
other_print_query =
    record (query_of (print_test ∷ []) (col 1 0 ∷ col 1 0 ∷ lit Null ∷ col 0 0 ∷ col 0 1 ∷ []) []) { from = inner 2 end }

abbrev pub other_print_command : Command
other_print_command = Update 1 (record { lets = []; body = other_print_query })

pub other_print_is : (command_of (understood names_schema replace_fingerprint_text) ≡ other_print_command) × IsPlain (understood names_schema replace_fingerprint_text)
unfolding understood everything
other_print_is = (refl, (refl, refl))

abbrev pub first_print_command : Command
first_print_command = Insert 1 (Values (lit (Int (pos 1)) ∷ lit Null ∷ col 0 0 ∷ col 0 1 ∷ []) 4)

pub first_print_is : (command_of (understood names_schema keep_fingerprint_text) ≡ first_print_command) × IsPlain (understood names_schema keep_fingerprint_text)
unfolding understood everything
first_print_is = (refl, (refl, refl))

-- ---- the next names

abbrev pub number_is_above : Term
number_is_above = op2 (Compare Gt Binary) (col 1 0) (col 0 0)

abbrev pub after_query : Query
after_query =
    record (query_of (number_is_above ∷ []) (col 1 0 ∷ col 1 3 ∷ col 1 4 ∷ []) ((col 1 0, ascending Binary) ∷ [])) { limit = col 0 1 }

abbrev pub after_command : Command
after_command = Select (record { lets = []; body = after_query }) (codes "id" ∷ codes "name" ∷ codes "payload" ∷ [])

pub after_is : (command_of (understood names_schema after_text) ≡ after_command) × IsPlain (understood names_schema after_text) × (reads_listing names_schema after_text ≡ false)
unfolding understood everything
after_is = (refl, (refl, refl), refl)

-- ---- the fingerprint that is there

pub print_is : IsPlain (understood names_schema fingerprint_text) × (reads_listing names_schema fingerprint_text ≡ false)
unfolding understood everything
print_is = ((refl, refl), refl)
