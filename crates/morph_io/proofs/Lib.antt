pub mod Pieces
pub mod BufferPuts
pub mod RepeatedLine
pub mod DigitLemmas
