pub mod TxnLemmas
pub mod SplitLemmas
pub mod OrderLemmas
pub mod ViewLemmas
