-- Trails: the last word of an operation, what was disturbed, and settled words that stay.
pub mod Trailing
-- Rows of words and lists of views: what one change does to sums and places.
pub mod Rows
-- What a hand knows stays true as the machine's state grows, and with more words.
pub mod Knowing
-- One view changes, with or without a step of the machine, and the rule is kept.
pub mod Moving
-- What a lawful table shows of each view in it.
pub mod Telling
-- What a hand knows of an operation once it finds the present word.
pub mod Sighting
-- One word of the row changes, in the table as in the machine.
pub mod Laying
-- A load of an operation's word keeps the rule.
pub mod Loading
-- The step by which the root makes a hand keeps the rule.
pub mod Splitting
-- The step by which a hand is joined into the root keeps the rule.
pub mod Joining
-- The table at the start meets the rule.
pub mod Opening
-- What steps add to a view, one after another.
pub mod Adding
-- The journal of a hand has its first steps, and those of a lone root lead the machine.
pub mod Journaling
-- A hand stays one of its board's: after a load or a step, and when hands are made or joined.
pub mod Handing
-- A step of the machine that leaves another word on an operation, and the exchange that makes it.
pub mod Leaving
-- The steps that make an operation ready, claim it and give it back keep the rule.
pub mod Claiming
-- The sources of an operation, loaded place by place up to the first that has no value.
pub mod Seeking
-- What `ready`, `claim` and `give_back` answer, from what their steps showed.
pub mod Making
-- Loads of other operations' words, of records and of decisions, one after another.
pub mod Walking
-- An operation's records, compared with its settled sources place by place.
pub mod Comparing
-- What `verdict` answers: by the operation's word, its records and sources, and its word again.
pub mod Judging
-- The step that makes a decision keeps the rule, and what it shows a hand.
pub mod Deciding
-- What `decide` answers, from the verdicts on the operations of an event, one after another.
pub mod Weighing
-- The step that settles an operation keeps the rule.
pub mod Settling
-- What `settle` answers, from what its loads and its step showed.
pub mod Sealing
-- The step that ends a claim keeps the rule; the records of the values that were fetched.
pub mod Finishing
-- The step that stores the record of a fetched value keeps the rule.
pub mod Keeping
-- The place of a record in the row, as the code computes it from what a hand keeps.
pub mod Storing
-- The places of records: before the decisions, and one for each.
mod RecordPlaces
-- Loads of records and decisions keep the rule, and what they show a hand.
pub mod Recalling
-- What `fetch` and `finish` answer, from what their steps showed.
pub mod Fetching
-- What `attempt` answers, from what its loads and steps showed.
pub mod Attempting
-- How great sums over rows of numbers and over lists of views are.
pub mod Sizes
-- An addition to a counter keeps the rule, and so does any step on the level word.
pub mod Taking
-- A hand gets room for its journal, by a step that leaves the level word as it is.
pub mod Fitting
-- An operation is held by one hand at most.
pub mod Holding
-- What a closed table says: if all other hands were joined into the root, its view has everything.
pub mod Closing
-- A settled word that a hand noted is the present one, and so is the value of a settled source.
pub mod Noting
-- Each hand has one trail in the view of the root that closed a board.
pub mod Tagging
-- The steps that spread a failure or roll an operation back keep the rule.
pub mod Grounding
-- The value of one source is loaded, and the sources up to the first that is not settled.
pub mod Looking
-- What `spread` answers, from what its steps showed.
pub mod Retrying
-- What `roll_back` answers, from what its steps showed.
pub mod Rolling
-- What `redo` answers, from what its loads and steps showed.
pub mod Redoing
