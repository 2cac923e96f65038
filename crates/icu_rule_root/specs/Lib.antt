pub mod RootEntries
pub mod RootElements
pub mod CheckedRoots
pub mod StoredRoots
pub mod inner
