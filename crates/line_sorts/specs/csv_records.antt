pub mod RecordPlaces
pub mod CsvCuts
pub mod CsvFields
