-- The numbers that calls return.
use Rattle.std.specs.Prelude.{ℤ, pos, negsuc}
use Rattle.std.specs.declared.cmp.Ordering.{Ordering}
use Rattle.std.specs.declared.cmp.Ordering.TheVariants.{Less, Equal, Greater}

-- the sign of an order: -1, 0 or 1
abbrev pub order_sign : Ordering → ℤ
order_sign Less = negsuc 0
order_sign Equal = pos 0
order_sign Greater = pos 1

-- what a comparison returns of a closed handle
abbrev pub no_order : ℤ
no_order = pos 2

-- the status of a call that did what it was asked for
abbrev pub done : ℤ
done = pos 0

-- the status of a call for which an allocation failed
abbrev pub no_memory : ℤ
no_memory = pos 1

-- the status of bytes that are no table file, or have tables that are refused
abbrev pub bad_tables : ℤ
bad_tables = pos 2

-- the status of a tag that is none, or asks for something else than settings that are known
abbrev pub bad_settings : ℤ
bad_settings = pos 3

-- the status of room that is too small
abbrev pub too_small : ℤ
too_small = pos 4

-- the status of a closed handle
abbrev pub handle_closed : ℤ
handle_closed = pos 5

-- the status of a text above whose texts no bytes are
abbrev pub no_bound : ℤ
no_bound = pos 6
