-- Bytes put into a buffer: at a place in it, and at its front. Assumes nothing.
use Rattle.std.specs.Prelude.{ℕ, ◌+◌, ◌≡◌, List, ◌++◌, length, take, drop}

-- the bytes stand behind the place `at`, up to the place `end`; what stood before it and behind it is as it was
pub record Put (before : List ℕ) (at : ℕ) (bytes after : List ℕ) (end : ℕ) : Type 0 where
  pub ends : end ≡ at + length bytes
  pub front : take end after ≡ take at before ++ bytes
  pub rest : drop end after ≡ drop end before
  pub as_long : length after ≡ length before

-- the bytes stand at the front, as many as are returned, and what stood behind them is as it was
pub record AtFront (bytes before after : List ℕ) (end : ℕ) : Type 0 where
  pub long : end ≡ length bytes
  pub whole : after ≡ bytes ++ drop end before

-- a text of which Right holds stands at the front
pub record Printed (Right : List ℕ → Type 0) (before after : List ℕ) (end : ℕ) : Type 0 where
  pub printed : List ℕ
  pub right : Right printed
  pub at_front : AtFront printed before after end
