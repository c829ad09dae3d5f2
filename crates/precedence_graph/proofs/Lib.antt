-- One more operation is entered as a writer.
pub mod EnterLemmas
-- Sources that are put place by place, and the greatest level among them.
pub mod PlaceLemmas
-- Lists that are made from a function of the place, and a write to one element of a list that was lent.
pub mod ListLemmas
-- The items of a group with one more link, and the links of levels.
pub mod LinkLemmas
-- Items that are put group after group into one list, and that the groups are rows then.
pub mod PlacingLemmas
-- The greatest of some numbers, and the numbers below n.
pub mod GreatestLemmas
-- An item that is linked once to each operation among some sources: one more source.
pub mod ReadLemmas
-- The last writers among the first operations are the sources of an event's reads.
pub mod WriterLemmas
-- The first operations are planned: one more operation.
pub mod PlannedLemmas
-- What holds of each operation once all are planned: its places, and its earlier sources.
pub mod ReadyLemmas
-- Each operation of a valid plan reads from operations of the plan, and from none at level 1.
pub mod SoundLemmas
-- The first events are planned: one more event.
pub mod EventLemmas
-- A plan whose operations and events are all planned: its columns, its numbering and its sources.
pub mod BuiltLemmas
-- A plan whose bases are all 0 is valid.
pub mod BlankLemmas
-- The graph of a plan whose operations and events are all planned.
pub mod GraphLemmas
-- Level lists, if the levels are a field of a list's elements.
pub mod LevelLemmas
-- Entered operations, walked from one at a place to the one before it, and one more operation.
pub mod EntryLemmas
-- The next operation of an event is planned: its sources, their levels, and the counts of reads.
pub mod PlanningLemmas
-- The levels with which operations were entered as writers are those that the plan has.
pub mod EnteredLemmas
