-- The test `same_key` against the equation of keys.
pub mod KeyLaws
-- Lists that rise by a number of their elements: if the numbers differ, there is one rising order.
pub mod Rising
-- `by_time` is the one rising order of transactions whose times differ.
pub mod TimeLaws
-- A flat list of values as a state: the value of a key, the opening values, and one value changed.
pub mod FlatLaws
-- The steps of the plain fold: keys that are read, one more answer, and one more event.
pub mod PlainLaws
-- What one transaction does to a state at a key, and the fold of one list after another.
pub mod StateLaws
-- The transactions of a plan against its numbered operations, and the state after one more event.
pub mod PlanLaws
-- The value of a key before an event is that of its last writer, or of the state before the batch.
pub mod SourceLaws
-- What an operation answers on the values of its sources, and that its sources come before it.
pub mod OutcomeLaws
-- The fold is a clean assignment, and there is no other.
pub mod CleanLaws
-- The state after the first events of a plan, from the values of its operations.
pub mod EndLaws
-- The events up to a time are the first ones of a plan.
pub mod VersionLaws
-- If some state has the bases of a plan, its opening state has them.
pub mod BaseLaws
-- A batch whose list of operations grows: its events stay, and one more comes.
pub mod BatchLaws
-- Events that stand in time order, one behind another, have all operations in time order.
pub mod RunLaws
-- A plan with its bases filled in from a state is valid, and keeps everything else.
pub mod FillLaws
-- Filling in the bases keeps a plan's graph.
pub mod GraphFillLaws
-- The numbering has no gaps: each event's operations follow those of the event before it.
pub mod NumberLaws
-- Levels rise from a source to what reads from it, and go from 1 to the depth.
pub mod LevelLaws
-- Values stay within the greatest value of a plan, and within that of all.
pub mod BoundLaws
-- The fate of each event of a plan, from the values of its operations and its verdict.
pub mod FateLaws
-- The guess of each operation is the one assignment of guesses.
pub mod GuessLaws
-- What can be decided and settled once the sources of an operation are known.
pub mod KnownLaws
-- No two words pack to the same number.
pub mod WordLaws
-- Operations that are made have a valid shape, within the limits that they fit.
pub mod ShapeLaws
-- The last number that passes a test, and one more item that is put at its place.
pub mod LinkLaws
-- How many rows there are, and what each of them is.
pub mod RowLemmas
-- Keys that differ: one more, and one that is there already. Places that hold no key.
pub mod ValidLemmas
-- The row of an operation in a list that has the rows of all.
pub mod OpRowLaws
-- How many keys are kept of operations, and that those of different operations are apart.
pub mod OpKeptLaws
-- The operations with their marks and sources, one more and one changed.
pub mod OpPartLaws
-- What contracts see of the operations of a plan, by their parts.
pub mod OpViewLaws
-- The bases of operations filled in, place by place.
pub mod OpFillLaws
-- An operation of a valid shape, put together from its parts and keys.
pub mod OpPushLaws
-- Rows of different operations do not meet.
pub mod OpApartLaws
-- What contracts see of operations in rows, by their heads, keys and limits.
pub mod RowViewLaws
-- Operations in rows behind other ones.
pub mod RowAppendLaws
-- The row of one operation.
pub mod RowOneLaws
-- The operations of an event in their arrays, and one more of them.
pub mod RowEventLaws
