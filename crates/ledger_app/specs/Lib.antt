pub mod Ledger
pub mod LedgerDraws
pub mod LedgerLaws
pub mod DrawLaws
