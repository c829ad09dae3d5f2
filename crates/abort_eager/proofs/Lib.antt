-- What a filter, a map and a range have.
pub mod Listing
-- Targets at places: the places of one operation from one on, and those of all operations.
pub mod Placing
-- An operation reads from one of some operations exactly where one of its places does.
pub mod Reading
-- What is found in a list of readers, and in several, from a number on.
pub mod Searching
-- The first target that is left.
pub mod Popping
-- A cascade at its start, and how far its sources reach.
pub mod Starting
-- What the targets are: other operations of the event of one that failed, and places that read from a source.
pub mod Knowing
-- What targets that are touched one after another add to a view.
pub mod Touching
-- What stands behind an evaluation adds words to the view, and settles nothing.
pub mod Sweeping
-- Cascades that are run to their end, with notes of what was touched.
pub mod Noting
-- Walks of units, a visit after the other.
pub mod UnitWalks
-- What runners keep while words are added to their views that settle nothing.
pub mod Exploring
