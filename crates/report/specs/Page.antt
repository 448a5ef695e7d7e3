-- What the contracts say of a text that is put into a page.
use Rattle.std.specs.Prelude.{ℕ, ◌+◌, List, ◌≡◌, length}
use Rattle.definition.specs.Notation.{write_at}
use Rattle.report.specs.declared.page.Page.{Page}
use Rattle.report.specs.Written.{Room}

-- there is room for the text
abbrev pub HasRoom : Page → List ℕ → Type 0
HasRoom p text = Room p.out.now p.at text

-- the buffer, which is the same one, is as before but for the text, and the place is behind that
pub record Puts (before : Page) (text : List ℕ) (after : Page) : Type 0 where
  pub contents : after.out.now ≡ write_at before.at text before.out.now
  pub place : after.at ≡ before.at + length text
  pub kept : length after.out.now ≡ length before.out.now
  pub same : after.out.ghost_name ≡ before.out.ghost_name
