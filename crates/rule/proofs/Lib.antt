-- What follows from the fold rule. Each file begins with what it shows; a file cites only files above it here. Assumes nothing.
-- one superbubble is folded, in any graph
pub mod Thread
pub mod Carry
pub mod Transfer
pub mod Minimal
pub mod Following
pub mod Arms
pub mod Inside
pub mod Others
-- lists and sums
pub mod Listings
pub mod Sums
-- several are folded at once, for every lawful rule and set of candidates
pub mod Together
pub mod Items
pub mod Remaining
pub mod Compose
pub mod Budgets
pub mod WhereIs
pub mod Coincide
pub mod Total
pub mod Ends
pub mod NewRows
pub mod ByNumber
-- the rules and the candidates of docs/RULES.md, Fold and Rings, are lawful
pub mod Shares
pub mod Choice
pub mod Through
pub mod BestLaws
pub mod Reach
pub mod Passable
pub mod Candidates
pub mod Outermost
pub mod TheFold
-- what is skipped, and graphs without a cycle
pub mod Skipped
pub mod WithoutCycle
-- demand 3
pub mod Demand
-- the kept path by dynamic programming
pub mod Worth
pub mod ByNext
pub mod KeptByNext
-- a best path for every score, and a fold for every graph and budget
pub mod CandidatesListed
pub mod BestExists
pub mod FoldExists
-- tables
pub mod SameTable
pub mod TableDemand
