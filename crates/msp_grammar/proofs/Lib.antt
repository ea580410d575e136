pub mod PrintLemmas
pub mod reading
