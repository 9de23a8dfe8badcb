-- What holds while a word is read, and that two answers of `words::parse` and of `words::same` coincide. Assumes nothing.
pub mod Reading
pub mod Coincide
