pub mod RowJourneys
