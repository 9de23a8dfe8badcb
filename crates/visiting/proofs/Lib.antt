-- The laws of `visiting`, in the order in which one reads them. Assumes nothing.
pub mod SafeLaws
pub mod CountLaws
pub mod DepthLaws
pub mod AnswerLaws
