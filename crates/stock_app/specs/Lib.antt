pub mod Stock
pub mod StockLaws
