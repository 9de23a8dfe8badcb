-- The laws of `search`, in the order in which one reads them. Assumes nothing.
-- one vertex after another is visited, until the search ends and what it took is given back
pub mod UnvisitedLaws
pub mod Going
pub mod TurnLaws
pub mod EndLaws
pub mod UndoLaws
-- what the contract determines
pub mod AnswerLaws
