pub mod Grep
pub mod GrepDraws
pub mod GrepLaws
pub mod DrawLaws
