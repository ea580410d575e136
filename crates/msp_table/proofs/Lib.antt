pub mod RowLemmas
pub mod ChainLemmas
pub mod KindLemmas
