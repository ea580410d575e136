mod CertifyLemmas
pub mod RowsLemmas
pub mod WhyLemmas
pub mod CheckLemmas
pub mod PutLemmas
