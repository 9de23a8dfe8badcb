-- That the contract of `turns` determines the result. Assumes nothing.
pub mod Determined
