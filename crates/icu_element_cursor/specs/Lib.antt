pub mod Cursors
pub mod FactsCursors
pub mod SteadyCursors
pub mod inner
