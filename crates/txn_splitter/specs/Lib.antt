pub mod Txns
pub mod TxnViews
