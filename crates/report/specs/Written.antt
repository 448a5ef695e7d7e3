-- What the contracts say of a text that is written into a buffer.
use Rattle.std.specs.Prelude.{ℕ, ◌+◌, ◌≤◌, List, ◌≡◌, length}
use Rattle.definition.specs.Notation.{write_at}

-- there is room for the text from place `at` on
pub record Room (buffer : List ℕ) (at : ℕ) (text : List ℕ) : Type 0 where
  pub fits : at + length text ≤ length buffer

-- the buffer is as before but for the text at `at`, and `end` is the place behind that
pub record Written (before : List ℕ) (at : ℕ) (text after : List ℕ) (end : ℕ) : Type 0 where
  pub contents : after ≡ write_at at text before
  pub place : end ≡ at + length text

-- so it is, and the text ends in the buffer
pub record WrittenInside (before : List ℕ) (at : ℕ) (text after : List ℕ) (end : ℕ) : Type 0 where
  pub written : Written before at text after end
  pub fits : end ≤ length after
