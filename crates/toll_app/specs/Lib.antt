pub mod Toll
pub mod TollDraws
pub mod TollLaws
pub mod DrawLaws
