-- The promises, in the order in which they are read: the three demands, what the programs print and write, that results coincide, and the wrong programs that are ruled out.
-- Assumes nothing.
pub mod Demand1
pub mod Demand2
pub mod Demand3
pub mod Shared
pub mod SharedArm
pub mod Versions
pub mod Rings
pub mod Printed
pub mod Runs
pub mod Coincide
pub mod Results
pub mod WrongPrograms
-- look and load of one image, in a row
pub mod LookAndLoad
-- loading and writing are each other's inverse
pub mod RoundTrip
pub mod ContentsBack
pub mod ImageBack
pub mod BackAndForth
-- what the demands stand on: each demand of a contract is decided, what is asked of an image, the twelve graphs, and a fold and a run in any way
pub mod Decided
pub mod GoodImages
pub mod TwelveGraphs
pub mod AnyWay
pub mod AnyRun
